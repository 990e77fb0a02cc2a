use Rattle.std.proofs.Common.{get_or, arith}
use Rattle.std.proofs.lemmas.Grind.{common_steps}
use Rattle.std.proofs.lemmas.List.Edits.{map_over_more}
use Rattle.book.specs.Answers.{forward}
use Rattle.book.proofs.Walk.{no_row}
use Rattle.book.proofs.moves.move_forward.Goals as goal

pub loop-row-preserved : goal.loop-row-preserved
loop-row-preserved c =
    map_over_more (forward c.args.by) c.args.rows.now c.loop-row.rows c.loop-row.row-index (get_or c.loop-row.rows c.loop-row.row-index no_row)
    (omega arith) c.loop-row.invariant (grind (arith, common_steps))
