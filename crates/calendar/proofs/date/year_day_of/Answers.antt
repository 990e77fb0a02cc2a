use Rattle.std.proofs.Common.{◌+◌, ◌-◌, ap, ◌∙◌, arith}
use Rattle.calendar.specs.Dates.{after, new_year, year_length}
use Rattle.calendar.proofs.Months.{gone_by, whole_year, long_year}
use Rattle.calendar.proofs.date.year_day_of.Goals as goal

pub loop-over-preserved : goal.loop-over-preserved
loop-over-preserved c =
    let year = c.loop-over.year in
    let over = c.loop-over.over in (
      ap (λ n. after (over - n) (new_year (year + 1))) c.year_length-over.ensures
          ∙ gone_by (year_length year) over (new_year year) (new_year (year + 1)) (omega arith) (whole_year year)
          ∙ c.loop-over.invariant.0,
      omega (arith, long_year year),
    )
