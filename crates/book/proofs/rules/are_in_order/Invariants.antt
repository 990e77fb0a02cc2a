use Rattle.std.proofs.Common.{◌≡◌, drop, None}
use Rattle.book.specs.Stops.{in_order}
use Rattle.book.proofs.rules.are_in_order.Given as goal

-- what is left, after the stop before it, decides
abbrev pub invariant-loop-stop : goal.invariant-loop-stop
invariant-loop-stop l = in_order l.before (drop l.stop-index l.stops) ≡ in_order None l.stops
