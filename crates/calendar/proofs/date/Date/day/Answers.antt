use Rattle.std.proofs.Common.{◌≡◌, ◌+◌, ◌-◌, IfSome, sym, ap, ◌∙◌, subst, arith}
use Rattle.calendar.specs.Dates.{days_of_years, days_through, date_of, days_before, day_of}
use Rattle.calendar.proofs.Days.{since_2000, one_more_month, one_more_year, years_most, months_most, not_a_date, too_early, too_late, day_that_fits, day_has_date, date_has_day}
use Rattle.calendar.proofs.date.Date.day.Goals as goal
use Rattle.calendar.proofs.date.Date.day.Goals.{then-not-is_in_calendar-via-then-not-is_in_calendar, then-not-is_in_calendar-via-else-not-is_in_calendar+then-self-lt2000, then-not-is_in_calendar-via-else-not-is_in_calendar+else-self-lt2000+then-self-gt-LAST_YEAR}

pub returns-then-not-is_in_calendar-clause-day : goal.returns-then-not-is_in_calendar-clause-day
returns-then-not-is_in_calendar-clause-day c =
    let t = c.args.self.now in
    elim c.then-not-is_in_calendar.branch [
      | then-not-is_in_calendar-via-then-not-is_in_calendar w ↦ not_a_date t (sym w.if-not-is_in_calendar.ensures)
      | then-not-is_in_calendar-via-else-not-is_in_calendar+then-self-lt2000 w ↦ too_early t w.if-self-lt2000.true
      | then-not-is_in_calendar-via-else-not-is_in_calendar+else-self-lt2000+then-self-gt-LAST_YEAR w ↦ too_late t w.if-self-gt-LAST_YEAR.true
    ]

pub returns-then-not-is_in_calendar-clause-every : goal.returns-then-not-is_in_calendar-clause-every
returns-then-not-is_in_calendar-clause-every c d h e = returns-then-not-is_in_calendar-clause-day c ∙ ap day_of (sym e) ∙ date_has_day d h

pub overflow_add-days : goal.overflow_add-days
overflow_add-days c = omega (arith, one_more_year c.loop-year.year c.loop-year.auto.year, years_most (c.loop-year.year + 1 - 2000))

pub loop-year-preserved : goal.loop-year-preserved
loop-year-preserved c = omega (arith, one_more_year c.loop-year.year c.loop-year.auto.year)

pub overflow_add-days-in-loop-month : goal.overflow_add-days-in-loop-month
overflow_add-days-in-loop-month c =
    let y = c.args.self.now.year in
    omega (arith, one_more_month y c.loop-month.month c.loop-month.auto.month, years_most (y - 2000), months_most y (c.loop-month.month + 1 - 1))

pub loop-month-preserved : goal.loop-month-preserved
loop-month-preserved c = omega (arith, one_more_month c.args.self.now.year c.loop-month.month c.loop-month.auto.month)

pub returns : goal.returns
returns c =
    let t = c.args.self.now in
    let l = since_2000 t (sym c.if-not-is_in_calendar.ensures) c.if-self-lt2000.false in
    let last : c.loop-month.month ≡ t.month = omega (arith, l.month_least) in
    let days : c.loop-month.days ≡ days_before t = c.loop-month.invariant ∙ ap (λ m. days_of_years (t.year - 2000) + days_through t.year (m - 1) + (t.day - 1)) last in
    let day = c.ok.ensures.value ∙ day_that_fits t c.loop-month.days c.try_from.result l days c.try_from.ensures in
    record {
      day = day;
      date = subst (λ o. IfSome o (λ d. date_of d ≡ t)) (sym day) (day_has_date t);
      every = λ d h e. day ∙ ap day_of (sym e) ∙ date_has_day d h;
    }
