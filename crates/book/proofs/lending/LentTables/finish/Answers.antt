use Rattle.std.proofs.Common.{List, set, Ok, Err, refl, ap, ◌∙◌, rules}
use Rattle.std.proofs.lemmas.Bool.{ne_eqb}
use Rattle.book.specs.Answers.{finished_row}
use Rattle.book.specs.declared.rows.TrainRow.{TrainRow}
use Rattle.book.proofs.Continued.{finish_continued}
use Rattle.book.proofs.KnownRows.{known_past_row, known_after_finish}
use Rattle.book.proofs.RefusalTests.{may_finish_held}
use Rattle.book.proofs.RefusedBy.{refused_by, not_refused}
use Rattle.book.proofs.lending.LentTables.finish.Goals as goal

pub into_book-book-requires : goal.into_book-book-requires
into_book-book-requires c =
    let k = may_finish_held _ _ _ c.in-Ok.ensures.answer in
    record { few = k.few_trains; fit = rw c.may_finish.ensures.trains_unchanged k.trains_fit; few_stops = k.few_stops }

pub invariant_of-self : goal.invariant_of-self
invariant_of-self c =
    let a = c.args in
    let l = c.may_finish.new.self in
    let f = c.into_book-book in
    let k = known_after_finish f.result a.entry a.self.now.trains.now f.new.trains a.self.now.stops.now l.stops.now f.ensures.book
    (f.ensures.rows ∙ ap (λ (x : List TrainRow). set x a.entry.book.trains (finished_row a.entry)) c.may_finish.ensures.trains_unchanged) c.may_finish.ensures.stops_unchanged
    (ne_eqb _ _ c.if-number-ne0.true) (not_refused _ c.in-Ok.ensures.answer) in
    record { held = k.held; ordered = k.ordered }

pub invariant_of-self-else-number-ne0 : goal.invariant_of-self-else-number-ne0
invariant_of-self-else-number-ne0 c =
    let l = c.may_finish.new.self in
    let f = c.into_book-book in
    let k = known_past_row l.book c.args.entry l.trains.now f.new.trains l.stops.now l.stops.now l.taken (record { held = l.held; ordered = l.ordered }) (c.in-Ok.ensures.known refl) f.ensures.rows refl in
    record { held = k.held; ordered = k.ordered }

pub returns-then-number-ne0-clause-history : goal.returns-then-number-ne0-clause-history
returns-then-number-ne0-clause-history c =
    let e = not_refused _ c.in-Ok.ensures.answer in
    let a = c.args in
    rw c.may_finish.ensures.stops_unchanged
    (finish_continued a.self.now.trains.now a.self.now.stops.now a.entry (Ok c.into_book-book.result) c.into_book-book.new.trains (search rules) (search rules)).history

pub returns-else-number-ne0-clause-history : goal.returns-else-number-ne0-clause-history
returns-else-number-ne0-clause-history c =
    let e = not_refused _ c.in-Ok.ensures.answer in
    let a = c.args in
    rw c.may_finish.ensures.stops_unchanged
    (finish_continued a.self.now.trains.now a.self.now.stops.now a.entry (Ok c.into_book-book.result) c.into_book-book.new.trains (search rules) (search rules)).history

pub returns-in-Err-clause-history : goal.returns-in-Err-clause-history
returns-in-Err-clause-history c =
    let e = refused_by _ _ c.in-Err.ensures.answer in
    let a = c.args in
    rw c.may_finish.ensures.stops_unchanged
    (finish_continued a.self.now.trains.now a.self.now.stops.now a.entry (Err (record { back = a.entry; refusal = c.in-Err.refusal })) c.may_finish.new.self.trains.now (search rules) (search rules)).history
