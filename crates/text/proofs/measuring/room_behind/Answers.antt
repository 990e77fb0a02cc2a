-- A train's lines are taken off for each row, and the room is too short where they do not fit.
use Rattle.text.proofs.RoomLeft.{left_at_next, too_short}
use Rattle.text.proofs.Texts.{train_more}
use Rattle.text.proofs.measuring.room_behind.Goals as goal

pub returns-in_err-left-clause-room : goal.returns-in_err-left-clause-room
returns-in_err-left-clause-room c =
    rw c.from_residual.ensures (too_short _ _ _ _ _ _ _ (train_more _ _ _ _ c.loop-row-test.true) c.loop-row.invariant c.in_err-left.ensures.room)

pub loop-row-preserved : goal.loop-row-preserved
loop-row-preserved c =
    left_at_next _ _ _ _ _ _ _ _ (train_more _ _ _ _ c.loop-row-test.true) c.loop-row.invariant c.in_ok-left.ensures.room c.in_ok-left.ensures.typed
