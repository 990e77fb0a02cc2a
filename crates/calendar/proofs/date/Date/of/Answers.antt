use Rattle.std.proofs.Common.{◌≡◌, ◌+◌, ◌-◌, ◌<◌, sym, ap, ◌∙◌, arith}
use Rattle.calendar.specs.Dates.{after, on, month_length}
use Rattle.calendar.proofs.Months.{gone_by, whole_month, later_in_month, not_december, one_month_more}
use Rattle.calendar.proofs.date.Date.of.Goals as goal

pub loop-over-preserved : goal.loop-over-preserved
loop-over-preserved c =
    let year = c.year_day_of-year.result.year in
    let month = c.loop-over.month in
    let over = c.loop-over.over in
    let early : month < 12 = not_december year month over c.loop-over.invariant.1 c.loop-over.invariant.2 (omega arith) in (
      ap (λ n. after (over - n) (on year (month + 1) 1)) c.month_length-over.ensures
          ∙ gone_by (month_length year month) over (on year month 1) (on year (month + 1) 1) (omega arith) (whole_month year month early)
          ∙ c.loop-over.invariant.0,
      omega arith,
      omega (arith, one_month_more year month, c.loop-over.invariant.2),
    )

pub returns : goal.returns
returns c =
    let year = c.year_day_of-year.result.year in
    let month = c.loop-over.month in
    let over = c.loop-over.over in
    let e : over + 1 ≡ 1 + over = omega arith in
    ap (on year month) e ∙ sym (later_in_month year month over 1 (omega arith)) ∙ c.loop-over.invariant.0
