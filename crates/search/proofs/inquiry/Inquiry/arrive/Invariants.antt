use Rattle.std.proofs.Common.{◌≡◌}
use Rattle.search.specs.Chains.{Chained, promising}
use Rattle.search.specs.Ends.{known_total}
use Rattle.search.specs.Notes.{past}
use Rattle.search.proofs.inquiry.Inquiry.arrive.Given as goal

-- the labels up to the last place ahead are chained
abbrev pub invariant-loop-place : goal.invariant-loop-place
invariant-loop-place g l =
    (l.arrivals.known ≡ l.reached.end)
    × Chained l.self (promising (g.P.Tariff.meaning l.self.tariff.now) l.self l.work (known_total l.reached.end) l.fn.layer.number) (past l.reached.notes l.place-index) l.arrivals
