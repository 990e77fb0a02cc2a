use Rattle.std.proofs.Common.{IfSome}
use Rattle.connection.specs.Settled.{no_dearer}
use Rattle.connection.specs.Ways.{Best}
use Rattle.search.specs.Chains.{behind, ArrivesAt, taken}
use Rattle.search.proofs.BestChange.{ChangesFrom}
use Rattle.search.proofs.inquiry.Inquiry.best_change.Given as goal

abbrev pub invariant-loop-next : goal.invariant-loop-next
invariant-loop-next g l =
    let m = g.P.Tariff.meaning l.self.tariff.now in
    let label = taken m l.self l.work l.fn.layer.number l.arrivals in
    Best (no_dearer m) (ChangesFrom m l.self label l.onward (behind l.next)) l.best
    × IfSome l.next (ArrivesAt l.self label l.onward.station)

abbrev pub decreases-loop-next : goal.decreases-loop-next
decreases-loop-next g l = behind l.next
