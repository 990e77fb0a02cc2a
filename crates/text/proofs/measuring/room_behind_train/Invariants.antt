-- The lines of the stops so far fit, and what they leave is left.
use Rattle.std.proofs.Common.{◌≡◌}
use Rattle.book.specs.Trains.{train_at}
use Rattle.book.specs.declared.rows.StopRow.{StopRow}
use Rattle.text.proofs.RoomLeft.{RoomLeft}
use Rattle.text.specs.Written.{Typed, line_of, stop_of}
use Rattle.text.proofs.measuring.room_behind_train.Given as goal

abbrev pub invariant-loop-stop : goal.invariant-loop-stop
invariant-loop-stop l =
    let t = train_at l.stops l.row in
    (l.stop-items ≡ t.stops) × RoomLeft (λ (s : StopRow). line_of (stop_of t s)) (λ (s : StopRow). Typed (stop_of t s)) l.room l.stop-items l.stop-index l.left
