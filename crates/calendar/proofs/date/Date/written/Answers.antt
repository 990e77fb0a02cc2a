use Rattle.std.proofs.Common.{◌≡◌, IfSome, sym, ◌∙◌, subst, rules}
use Rattle.calendar.specs.Dates.{date_text}
use Rattle.calendar.proofs.WrittenDates.{HasForm, written_in_form, written_text}
use Rattle.calendar.proofs.date.Date.written.Goals as goal

pub returns-in-45 : goal.returns-in-45
returns-in-45 c =
    let bs = c.args.text.now in
    let f : HasForm bs = search rules in
    let date = c.then_some.ensures ∙ rw (c.is_in_calendar.ensures, c.two_digits.ensures, c.two_digits-in-45.ensures, c.two_digits-in-45-2.ensures, c.two_digits-in-45-3.ensures) (written_in_form bs f) in
    record { date = date; text = subst (λ o. IfSome o (λ t. date_text t ≡ bs)) (sym date) (written_text bs) }
