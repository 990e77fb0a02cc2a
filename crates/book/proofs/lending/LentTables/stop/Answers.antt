use Rattle.std.proofs.Common.{◌+◌, List, set, Ok, Err, refl, ap, ◌∙◌, rules}
use Rattle.book.specs.Answers.{row}
use Rattle.book.specs.declared.rows.StopRow.{StopRow}
use Rattle.book.proofs.Continued.{stop_continued}
use Rattle.book.proofs.KnownRows.{known_after_stop}
use Rattle.book.proofs.RefusalTests.{stop_passed}
use Rattle.book.proofs.RefusedBy.{refused_by, not_refused}
use Rattle.book.proofs.lending.LentTables.stop.Goals as goal

pub with_stop-entry-requires : goal.with_stop-entry-requires
with_stop-entry-requires c =
    let p = stop_passed _ _ _ _ (not_refused _ c.in-Ok.ensures.answer) in
    record { few = p.1; fit = rw c.may_stop.ensures.stops_unchanged p.3 }

pub invariant_of-self : goal.invariant_of-self
invariant_of-self c =
    let a = c.args in
    let l = c.may_stop.new.self in
    let k = known_after_stop l.book a.entry a.self.now.trains.now l.trains.now a.self.now.stops.now c.with_stop-entry.new.stops c.with_stop-entry.result (row a.station a.arrive a.depart)
    (c.in-Ok.ensures.known refl) c.with_stop-entry.ensures.entry c.may_stop.ensures.trains_unchanged
    (c.with_stop-entry.ensures.rows ∙ ap (λ (x : List StopRow). set x (a.entry.book.stops + a.entry.taken) (row a.station a.arrive a.depart)) c.may_stop.ensures.stops_unchanged) (not_refused _ c.in-Ok.ensures.answer) in
    record { held = k.held; ordered = k.ordered }

pub returns-in-Ok-clause-history : goal.returns-in-Ok-clause-history
returns-in-Ok-clause-history c =
    let e = not_refused _ c.in-Ok.ensures.answer in
    let a = c.args in
    rw c.may_stop.ensures.trains_unchanged
    (stop_continued a.self.now.trains.now a.self.now.stops.now a.entry (row a.station a.arrive a.depart) (Ok c.with_stop-entry.result) c.with_stop-entry.new.stops c.fits_types.ensures (search rules) (search rules)).history

pub returns-in-Err-clause-history : goal.returns-in-Err-clause-history
returns-in-Err-clause-history c =
    let e = refused_by _ _ c.in-Err.ensures.answer in
    let a = c.args in
    rw c.may_stop.ensures.trains_unchanged
    (stop_continued a.self.now.trains.now a.self.now.stops.now a.entry (row a.station a.arrive a.depart) (Err (record { back = a.entry; refusal = c.in-Err.refusal })) c.may_stop.new.self.stops.now
    c.fits_types.ensures (search rules) (search rules)).history
