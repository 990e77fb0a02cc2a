-- The text is written where the rows hold and it fits, and otherwise nothing is.
use Rattle.std.proofs.Common.{length, length-take-le, sym, refl, ap, ◌∙◌, Ok}
use Rattle.std.proofs.lemmas.Result.{err_from_is_err_and}
use Rattle.text.proofs.Writes.{write_damaged, rows_fit, write_short, write_fits, put_at_front}
use Rattle.text.proofs.Returning.{restores}
use Rattle.text.proofs.writing.write.Goals as goal

pub returns-in_err-check-clause-answer : goal.returns-in_err-check-clause-answer
returns-in_err-check-clause-answer c =
    let p = err_from_is_err_and c.from_residual.result c.from_residual.ensures.1 in
    rw (write_damaged _ _ _ _ _ (sym c.check.ensures.answer ∙ c.in_err-check.was), p.1, p.2) refl

pub returns-in_err-check-clause-buffer : goal.returns-in_err-check-clause-buffer
returns-in_err-check-clause-buffer c = rw (write_damaged _ _ _ (length c.args.buffer.now) _ (sym c.check.ensures.answer ∙ c.in_err-check.was)) refl

pub slice_bounds-rows-end : goal.slice_bounds-rows-end
slice_bounds-rows-end c = sym (length-take-le _ _ (rows_fit _ _ _ (sym c.check.ensures.answer ∙ c.in_ok-check.was) _ c.trains.ensures))

pub returns-then-not-text_fits-clause-answer : goal.returns-then-not-text_fits-clause-answer
returns-then-not-text_fits-clause-answer c =
    rw (write_short _ _ _ (sym c.check.ensures.answer ∙ c.in_ok-check.was) _ c.trains.ensures _ (sym c.text_fits.ensures.fits ∙ c.if-not-text_fits.true)) refl

pub returns-then-not-text_fits-clause-buffer : goal.returns-then-not-text_fits-clause-buffer
returns-then-not-text_fits-clause-buffer c =
    rw (write_short _ _ _ (sym c.check.ensures.answer ∙ c.in_ok-check.was) _ c.trains.ensures _ (sym c.text_fits.ensures.fits ∙ c.if-not-text_fits.true)) refl

pub returns-clause-answer : goal.returns-clause-answer
returns-clause-answer c =
    rw (write_fits _ _ _ (sym c.check.ensures.answer ∙ c.in_ok-check.was) _ c.trains.ensures _ (sym c.text_fits.ensures.fits ∙ c.if-not-text_fits.false))
    (ap Ok (put_at_front _ _ _ _ c.put_text.ensures).0)

pub returns-clause-buffer : goal.returns-clause-buffer
returns-clause-buffer c =
    rw (write_fits _ _ _ (sym c.check.ensures.answer ∙ c.in_ok-check.was) _ c.trains.ensures _ (sym c.text_fits.ensures.fits ∙ c.if-not-text_fits.false))
    (put_at_front _ _ _ _ c.put_text.ensures).1

pub returns-clause-restores : goal.returns-clause-restores
returns-clause-restores c =
    let holds = c.every_history_holds.ensures in
    let typed = rw c.trains.ensures at (c.text_fits.ensures.typed c.if-not-text_fits.false) in
    let front = put_at_front _ _ _ _ c.put_text.ensures in
    let text = write_fits c.args.book.now c.args.trains.now c.args.stops.now (sym c.check.ensures.answer ∙ c.in_ok-check.was) _ c.trains.ensures _ (sym c.text_fits.ensures.fits ∙ c.if-not-text_fits.false) in
    rw (front.0, front.1) (restores holds.rows holds.refusals holds.trains holds.rules _ _ _ _ _ c.args.buffer.now typed text)
