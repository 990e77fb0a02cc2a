-- What there is for each of the three shifts.
use Rattle.connection.specs.declared.ride.Shift.{Shift}
use Rattle.connection.specs.declared.ride.Shift.TheVariants.{DayBefore, SameDay, DayAfter}
use Rattle.search.specs.declared.by_shift.ByShift.{ByShift}

-- the one for that shift
abbrev pub on : {T : Type 0} → ByShift T → Shift → T
on each DayBefore = each.day_before
on each SameDay = each.same_day
on each DayAfter = each.day_after
