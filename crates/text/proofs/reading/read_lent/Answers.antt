use Rattle.std.proofs.Common.{◌≡◌, ◌+◌, cond, List, is_some, Err, ap, ap₂, ◌∙◌}
use Rattle.book.specs.declared.rows.StopRow.{StopRow}
use Rattle.book.specs.declared.rows.TrainRow.{TrainRow}
use Rattle.text.specs.Lines.{lines}
use Rattle.text.specs.Reading.{left, reading, read}
use Rattle.text.specs.declared.stage.Stage.TheVariants.{Between}
use Rattle.text.proofs.WholeText.{refused_text, names_told}
use Rattle.text.proofs.reading.read_lent.Goals as goal

pub returns-in-Err-clause-outcome : goal.returns-in-Err-clause-outcome
returns-in-Err-clause-outcome c =
    let k = c.in-Err.ensures in
    rw (k.trains_unchanged, k.stops_unchanged) (refused_text c.args.text.now c.args.book c.args.tables.now.trains.now c.args.tables.now.stops.now c.in-Err.refusal k.answer)

pub returns-then-not-is_names-clause-outcome : goal.returns-then-not-is_names-clause-outcome
returns-then-not-is_names-clause-outcome c =
    let e = c.next_line.ensures in
    let k = c.in_default.ensures in
    let ts = c.args.tables.now.trains.now in
    let ss = c.args.tables.now.stops.now in
    let count : c.next_line.new.self.count ≡ 0 + cond (is_some c.next_line.result) 1 0 = e.count ∙ ap (λ n. n + cond (is_some c.next_line.result) 1 0) c.new-lines.ensures.count in
    rw (k.trains_unchanged, k.stops_unchanged)
    (ap (λ m. left (Err m) ts ss) c.wrong_names.ensures
    ∙ names_told c.new-lines.result.left.now c.args.book ts ss k.answer c.next_line.result _ c.next_line.new.self.count c.next_line.new.self.left.now e.some e.line e.feed count e.left c.if-not-is_names.ensures
    ∙ ap (λ bs. read bs c.args.book ts ss) c.new-lines.ensures.left)

pub returns-clause-outcome : goal.returns-clause-outcome
returns-clause-outcome c =
    let e = c.next_line.ensures in
    let k = c.in_default.ensures in
    let ts = c.args.tables.now.trains.now in
    let ss = c.args.tables.now.stops.now in
    let count : c.next_line.new.self.count ≡ 0 + cond (is_some c.next_line.result) 1 0 = e.count ∙ ap (λ n. n + cond (is_some c.next_line.result) 1 0) c.new-lines.ensures.count in
    c.read_lines.ensures.outcome
    ∙ ap₂ (λ (x : List TrainRow) (y : List StopRow). reading c.next_line.new.self.count (lines c.next_line.new.self.left.now) (Between c.args.book) x y) k.trains_unchanged k.stops_unchanged
    ∙ names_told c.new-lines.result.left.now c.args.book ts ss k.answer c.next_line.result _ c.next_line.new.self.count c.next_line.new.self.left.now e.some e.line e.feed count e.left c.if-not-is_names.ensures
    ∙ ap (λ bs. read bs c.args.book ts ss) c.new-lines.ensures.left
