use Rattle.std.proofs.Common.{◌<◌, length, Ok, Err, ◌∙◌, rules}
use Rattle.std.proofs.lemmas.Result.{err_from_is_err_and}
use Rattle.text.specs.Reading.{left}
use Rattle.text.proofs.LinesInTurn.{line_in_turn}
use Rattle.text.proofs.reading.read_lines.Goals as goal

pub returns-in_err-stage : goal.returns-in_err-stage
returns-in_err-stage c =
    let l = c.loop-reader in
    let e = c.in-Some.ensures in
    let some : 0 < length l.text.left.now = search rules in
    let handed_on = err_from_is_err_and c.from_residual.result c.from_residual.ensures.1 in
    let t = c.read_line.new.tables in
    rw (handed_on.1, handed_on.2)
    (record {
      outcome = line_in_turn l.text.count _ _ l.text.left.now _ _ _ l.stage l.tables.trains.now l.tables.stops.now (left (Err c.in_err-stage.field-0.0) t.trains.now t.stops.now)
          some e.number e.count e.line e.feed e.left c.in_err-stage.ensures.outcome ∙ l.invariant.outcome;
      same_train_table = c.in_err-stage.ensures.same_train_table ∙ l.invariant.same_train_table;
      same_stop_table = c.in_err-stage.ensures.same_stop_table ∙ l.invariant.same_stop_table;
    })

pub loop-reader-preserved : goal.loop-reader-preserved
loop-reader-preserved c =
    let l = c.loop-reader in
    let e = c.in-Some.ensures in
    let some : 0 < length l.text.left.now = search rules in
    let t = c.read_line.new.tables in
    record {
      outcome = line_in_turn l.text.count _ _ l.text.left.now _ _ _ l.stage l.tables.trains.now l.tables.stops.now (left (Ok c.in_ok-stage.stage) t.trains.now t.stops.now)
          some e.number e.count e.line e.feed e.left c.in_ok-stage.ensures.outcome ∙ l.invariant.outcome;
      same_train_table = c.in_ok-stage.ensures.same_train_table ∙ l.invariant.same_train_table;
      same_stop_table = c.in_ok-stage.ensures.same_stop_table ∙ l.invariant.same_stop_table;
    }
