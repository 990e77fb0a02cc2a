use Rattle.std.proofs.Common.{sym, arith}
use Rattle.std.proofs.lemmas.Bool.Decides.{nat_tests}
use Rattle.book.specs.Refusals.{finish_refusal}
use Rattle.book.proofs.state.Entry.may_finish.Goals as goal

pub returns-then-not-hold_entry : goal.returns-then-not-hold_entry
unfolding finish_refusal
returns-then-not-hold_entry c = grind (arith, nat_tests)

pub returns : goal.returns
returns c = c.judge_finish.ensures c.args.trains.now (sym c.if-not-hold_entry.ensures)
