use Rattle.std.proofs.Common.{◌≡◌, Bool, List, length, None, ap, ap₂, ◌∙◌, sym, refl}
use Rattle.book.specs.Answers.{finished_row}
use Rattle.book.specs.Room.{room}
use Rattle.book.specs.Stops.{in_order}
use Rattle.book.specs.Trains.{train_at}
use Rattle.book.specs.declared.rows.StopRow.{StopRow}
use Rattle.book.specs.declared.rows.TrainRow.{TrainRow}
use Rattle.book.specs.declared.state.Entry.{Entry}
use Rattle.book.proofs.EntryTests.{entry_without_book, entry_room, entry_order}
use Rattle.book.proofs.KnownRows.{known_order}
use Rattle.book.proofs.lending.LentTables.hold_entry.Goals as goal

room_in : (t : Bool) (e : Entry) (ts' ts : List TrainRow) (ss' ss : List StopRow) → ts' ≡ ts → ss' ≡ ss → t ≡ room e (length ts') (length ss') → t ≡ room e (length ts) (length ss)
room_in t e ts' ts ss' ss p q h = h ∙ ap₂ (λ (x : List TrainRow) (y : List StopRow). room e (length x) (length y)) p q

order_in : (t : Bool) (e : Entry) (own : List StopRow) (r : TrainRow) (ss' ss : List StopRow) → t ≡ in_order None own → own ≡ (train_at ss' r).stops → r ≡ finished_row e → ss' ≡ ss
    → t ≡ in_order None (train_at ss (finished_row e)).stops
order_in t e own r ss' ss h o p q = h ∙ ap (in_order None) (o ∙ ap₂ (λ (x : List StopRow) (y : TrainRow). (train_at x y).stops) q p)

pub returns-then-not-hold-clause-answer : goal.returns-then-not-hold-clause-answer
returns-then-not-hold-clause-answer c = entry_without_book _ _ _ c.if-not-hold.ensures.answer

pub returns-then-not-have_room-clause-answer : goal.returns-then-not-have_room-clause-answer
returns-then-not-have_room-clause-answer c =
    let h = c.if-not-hold.ensures in
    sym (entry_room _ _ _ h.answer (room_in _ c.args.entry.now _ _ _ _ h.trains_unchanged h.stops_unchanged c.if-not-have_room.ensures))

pub returns-then-entry-self-clause-answer : goal.returns-then-entry-self-clause-answer
returns-then-entry-self-clause-answer c =
    let h = c.if-not-hold.ensures in
    let l = c.hold.new.self in
    entry_order _ _ _ h.answer (room_in _ c.args.entry.now _ _ _ _ h.trains_unchanged h.stops_unchanged c.if-not-have_room.ensures)
    (known_order l.book l.taken c.args.entry.now l.stops.now c.args.self.now.stops.now l.ordered (h.known refl) c.if-entry-self.true h.stops_unchanged)

pub returns-then-not-are_in_order-clause-answer : goal.returns-then-not-are_in_order-clause-answer
returns-then-not-are_in_order-clause-answer c =
    let h = c.if-not-hold.ensures in
    entry_order _ _ _ h.answer (room_in _ c.args.entry.now _ _ _ _ h.trains_unchanged h.stops_unchanged c.if-not-have_room.ensures)
    (order_in _ c.args.entry.now _ _ _ _ c.if-not-are_in_order.ensures c.stops.ensures c.row.ensures h.stops_unchanged)

pub returns-clause-answer : goal.returns-clause-answer
returns-clause-answer c =
    let h = c.if-not-hold.ensures in
    entry_order _ _ _ h.answer (room_in _ c.args.entry.now _ _ _ _ h.trains_unchanged h.stops_unchanged c.if-not-have_room.ensures)
    (order_in _ c.args.entry.now _ _ _ _ c.if-not-are_in_order.ensures c.stops.ensures c.row.ensures h.stops_unchanged)
