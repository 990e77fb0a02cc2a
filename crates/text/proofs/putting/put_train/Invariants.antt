-- The lines of the stops so far are put.
use Rattle.std.proofs.Common.{◌≡◌, take, flat_map}
use Rattle.book.specs.Trains.{train_at}
use Rattle.book.specs.declared.rows.StopRow.{StopRow}
use Rattle.text.specs.Puts.{Put}
use Rattle.text.specs.Written.{line_of, stop_of}
use Rattle.text.proofs.putting.put_train.Given as goal

abbrev pub invariant-loop-stop : goal.invariant-loop-stop
invariant-loop-stop l =
    let t = train_at l.stops l.row in
    (l.stop-items ≡ t.stops) × Put (flat_map (λ (s : StopRow). line_of (stop_of t s)) (take l.stop-index l.stop-items)) l.initial.end l.initial.buffer l.end l.buffer
