use Rattle.std.proofs.Common.{arith}
use Rattle.std.proofs.lemmas.Bool.Decides.{nat_tests}
use Rattle.book.specs.Refusals.{finish_refusal}
use Rattle.book.proofs.lending.LentTables.may_finish.Goals as goal

pub returns-then-not-hold_entry-clause-answer : goal.returns-then-not-hold_entry-clause-answer
unfolding finish_refusal
returns-then-not-hold_entry-clause-answer c = grind (arith, nat_tests)
