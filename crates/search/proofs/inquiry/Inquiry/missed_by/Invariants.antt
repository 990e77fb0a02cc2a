use Rattle.std.proofs.Common.{◌≡◌, ℕ, ◌<◌, ◌≤◌, length, get_or}
use Rattle.book.specs.Limits.{most_trains}
use Rattle.connection.specs.Clock.{midnight}
use Rattle.connection.specs.declared.ride.Shift.{Shift}
use Rattle.search.specs.Chains.{OutOfReach, WithinReach}
use Rattle.search.proofs.inquiry.Inquiry.missed_by.Given as goal

-- so it is told of the trains ahead
abbrev pub invariant-loop-n : goal.invariant-loop-n
invariant-loop-n g l =
    (length l.missed_by ≡ most_trains)
    × ((k : ℕ) (s : Shift) → k < l.n → midnight l.self.query.now s < get_or l.missed_by k 0 → OutOfReach l.self l.fn.layer.number l.arrivals k s)
    × ((k : ℕ) (s : Shift) → k < l.n → get_or l.missed_by k 0 ≤ midnight l.self.query.now s → WithinReach l.self l.fn.layer.number l.arrivals k s)
