-- The names and the lines of the trains so far are put.
use Rattle.std.proofs.Common.{take, flat_map}
use Rattle.book.specs.Trains.{trains_in}
use Rattle.text.specs.Puts.{Put}
use Rattle.text.specs.Written.{lines_of}
use Rattle.text.proofs.putting.put_text.Given as goal

abbrev pub invariant-loop-row : goal.invariant-loop-row
invariant-loop-row l = Put (flat_map lines_of (take l.row-index (trains_in l.rows l.stops))) l.initial.end l.initial.buffer l.end l.buffer
