use Rattle.std.proofs.Common.{arith}
use Rattle.std.proofs.lemmas.Bool.Decides.{nat_tests}
use Rattle.book.proofs.RefusalTests.{finish_same}
use Rattle.book.proofs.state.Entry.judge_finish.Goals as goal

pub returns-then-not-has_ended : goal.returns-then-not-has_ended
returns-then-not-has_ended c = λ trains h.
    let e = finish_same _ trains _ h in
    grind (arith, nat_tests)

pub returns : goal.returns
returns c = λ trains h.
    let e = finish_same _ trains _ h in
    grind (arith, nat_tests)
