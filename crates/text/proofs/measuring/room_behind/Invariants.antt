-- The lines of the trains so far fit, and what they leave is left.
use Rattle.book.specs.Trains.{trains_in}
use Rattle.text.proofs.RoomLeft.{RoomLeft}
use Rattle.text.specs.Measured.{LinesTyped}
use Rattle.text.specs.Written.{lines_of}
use Rattle.text.proofs.measuring.room_behind.Given as goal

abbrev pub invariant-loop-row : goal.invariant-loop-row
invariant-loop-row l = RoomLeft lines_of LinesTyped l.room (trains_in l.rows l.stops) l.row-index l.left
