use Rattle.std.proofs.Common.{sym, ap, ◌∙◌, None}
use Rattle.book.specs.Stops.{in_order}
use Rattle.book.specs.Trains.{train_at}
use Rattle.book.specs.declared.rows.TrainRow.{TrainRow}
use Rattle.book.proofs.EntryTests.{entry_without_book, entry_room, entry_order}
use Rattle.book.proofs.tables.hold_entry.Goals as goal

pub returns-then-not-hold : goal.returns-then-not-hold
returns-then-not-hold c = entry_without_book _ _ _ c.if-not-hold.ensures

pub returns-then-not-have_room : goal.returns-then-not-have_room
returns-then-not-have_room c = sym (entry_room c.args.entry.now c.args.trains.now c.args.stops.now c.if-not-hold.ensures c.if-not-have_room.ensures)

pub returns : goal.returns
returns c =
    let own = c.stops.ensures ∙ ap (λ (r : TrainRow). (train_at c.args.stops.now r).stops) c.row.ensures in
    entry_order c.args.entry.now c.args.trains.now c.args.stops.now c.if-not-hold.ensures c.if-not-have_room.ensures (c.are_in_order.ensures ∙ ap (in_order None) own)
