use Rattle.std.proofs.Common.{◌≡◌, length}
use Rattle.text.specs.Lines.{lines}
use Rattle.text.specs.Reading.{reading}
use Rattle.text.specs.declared.stage.Stage.TheVariants.{Between}
use Rattle.text.proofs.reading.read_lines.Given as goal

-- reading on from here comes to the same, on the same tables
abbrev pub invariant-loop-reader : goal.invariant-loop-reader
invariant-loop-reader l =
    record {
      outcome : reading l.text.count (lines l.text.left.now) l.stage l.tables.trains.now l.tables.stops.now
          ≡ reading l.initial.text.count (lines l.initial.text.left.now) (Between l.fn.book) l.initial.tables.trains.now l.initial.tables.stops.now;
      same_train_table : l.tables.trains.ghost_name ≡ l.initial.tables.trains.ghost_name;
      same_stop_table : l.tables.stops.ghost_name ≡ l.initial.tables.stops.ghost_name;
    }

abbrev pub decreases-loop-reader : goal.decreases-loop-reader
decreases-loop-reader l = length l.text.left.now
