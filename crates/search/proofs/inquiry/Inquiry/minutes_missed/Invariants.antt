use Rattle.search.proofs.MissedTrains.{MissedBy}
use Rattle.search.proofs.inquiry.Inquiry.minutes_missed.Given as goal

-- by that many minutes it is missed at the stops ahead
abbrev pub invariant-loop-stop : goal.invariant-loop-stop
invariant-loop-stop g l = MissedBy l.self l.layer.number l.arrivals l.train l.stop-index l.fewest
