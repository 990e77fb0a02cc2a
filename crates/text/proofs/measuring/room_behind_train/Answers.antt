-- A line is taken off for each stop, and the room is too short where one does not fit.
use Rattle.std.proofs.Common.{◌≡◌, ◌+◌, ◌<◌, length, arith}
use Rattle.std.proofs.lemmas.List.{take_more}
use Rattle.text.proofs.RoomLeft.{left_at_next, too_short}
use Rattle.text.specs.Written.{line_of}
use Rattle.text.proofs.measuring.room_behind_train.Goals as goal

pub returns-in_err-left-clause-room : goal.returns-in_err-left-clause-room
returns-in_err-left-clause-room c =
    let line = c.of.ensures c.args.stops.now in
    let short : c.loop-stop.left < length (line_of c.of.result) = omega (arith, c.in_err-left.ensures) in
    rw (c.from_residual.ensures, ← c.loop-stop.invariant.0)
    (too_short _ _ _ _ _ _ _ (take_more _ _ _ c.loop-stop-test.true) c.loop-stop.invariant.1 (rw line at short))

pub loop-stop-preserved : goal.loop-stop-preserved
loop-stop-preserved c =
    let line = c.of.ensures c.args.stops.now in
    let rest : c.in_ok-left.left + length (line_of c.of.result) ≡ c.loop-stop.left = omega (arith, c.in_ok-left.ensures) in (
      c.loop-stop.invariant.0,
      left_at_next _ _ _ _ _ _ _ _ (take_more _ _ _ c.loop-stop-test.true) c.loop-stop.invariant.1 (rw line at rest) (rw line at c.line_length.ensures.typed),
    )
