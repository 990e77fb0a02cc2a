use Rattle.std.proofs.Common.{◌≡◌, ◌++◌, map, take, drop}
use Rattle.book.specs.Answers.{forward}
use Rattle.book.proofs.moves.move_forward.Given as goal

-- the rows that were passed have moved forward, and those that are left are as they were
abbrev pub invariant-loop-row : goal.invariant-loop-row
invariant-loop-row l = l.rows ≡ map (forward l.by) (take l.row-index l.initial.rows) ++ drop l.row-index l.initial.rows
