use Rattle.std.proofs.Common.{rules}
use Rattle.book.specs.Refusals.{check_refusal}
use Rattle.book.proofs.Continued.{read_leads}
use Rattle.book.proofs.state.Book.check.Goals as goal

pub returns-then-not-hold : goal.returns-then-not-hold
unfolding check_refusal
returns-then-not-hold c = record { answer = search rules; history = read_leads _ _ _ }

pub returns : goal.returns
unfolding check_refusal
returns c = record { answer = search rules; history = read_leads _ _ _ }
