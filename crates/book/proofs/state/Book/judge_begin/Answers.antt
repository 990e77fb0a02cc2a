use Rattle.std.proofs.Common.{take, arith}
use Rattle.std.proofs.lemmas.Bool.Decides.{nat_tests}
use Rattle.book.proofs.Held.{held, length_listed}
use Rattle.book.proofs.Places.{known_found}
use Rattle.book.proofs.RefusalTests.{begin_same}
use Rattle.book.proofs.state.Book.judge_begin.Goals as goal

pub returns : goal.returns
returns c = λ stops h.
    let b = c.args.self.now in
    let trains = c.args.trains.now in
    let used = length_listed b.trains trains stops (held b.trains b.stops trains stops h).trains_fit in
    rw (begin_same b trains stops c.args.number h, known_found c.args.number (take b.trains trains) stops, used) (grind (arith, nat_tests))
