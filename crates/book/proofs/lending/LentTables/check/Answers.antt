use Rattle.std.proofs.Common.{rules}
use Rattle.book.specs.Refusals.{check_refusal}
use Rattle.book.proofs.Continued.{read_leads}
use Rattle.book.proofs.lending.LentTables.check.Goals as goal

pub returns-then-not-hold-clause-answer : goal.returns-then-not-hold-clause-answer
unfolding check_refusal
returns-then-not-hold-clause-answer c = search rules

pub returns-then-not-hold-clause-history : goal.returns-then-not-hold-clause-history
returns-then-not-hold-clause-history c = rw (c.hold.ensures.trains_unchanged, c.hold.ensures.stops_unchanged) (read_leads _ _ _)

pub returns-clause-answer : goal.returns-clause-answer
unfolding check_refusal
returns-clause-answer c = search rules

pub returns-clause-history : goal.returns-clause-history
returns-clause-history c = rw (c.hold.ensures.trains_unchanged, c.hold.ensures.stops_unchanged) (read_leads _ _ _)
