use Rattle.std.proofs.Common.{◌≡◌, ◌≤◌, drop}
use Rattle.book.proofs.Walk.{walk}
use Rattle.book.proofs.tables.are_sound.Given as goal

-- the rows that are left decide
abbrev pub invariant-loop-row : goal.invariant-loop-row
invariant-loop-row l = (l.at ≤ l.used) × (walk l.at l.used l.stops (drop l.row-index l.rows) ≡ walk 0 l.used l.stops l.rows)
