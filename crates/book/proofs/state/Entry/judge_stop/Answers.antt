use Rattle.std.proofs.Common.{arith}
use Rattle.std.proofs.lemmas.Bool.Decides.{nat_tests}
use Rattle.book.proofs.RefusalTests.{stop_flat}
use Rattle.book.proofs.state.Entry.judge_stop.Goals as goal

pub returns-in_err-may_follow : goal.returns-in_err-may_follow
returns-in_err-may_follow c = λ trains h.
    let e = stop_flat _ trains _ c.args.next h in
    grind (arith, nat_tests, c.in_err-may_follow.was)

pub returns-then-row-ge-MOST_STOPS_OF_TRAIN : goal.returns-then-row-ge-MOST_STOPS_OF_TRAIN
returns-then-row-ge-MOST_STOPS_OF_TRAIN c = λ trains h.
    let e = stop_flat _ trains _ c.args.next h in
    grind (arith, nat_tests)

pub returns : goal.returns
returns c = λ trains h.
    let e = stop_flat _ trains _ c.args.next h in
    grind (arith, nat_tests)
