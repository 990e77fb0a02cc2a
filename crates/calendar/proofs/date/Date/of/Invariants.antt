use Rattle.std.proofs.Common.{◌≡◌, ◌+◌, ◌<◌, ◌≤◌}
use Rattle.calendar.specs.Dates.{after, on, date_of, month_length, year_length, days_through}
use Rattle.calendar.proofs.date.Date.of.Given as goal

abbrev pub invariant-loop-over : goal.invariant-loop-over
invariant-loop-over l = (after l.over (on l.year l.month 1) ≡ date_of l.day) × (l.month ≤ 12) × (l.over + days_through l.year l.month < year_length l.year + month_length l.year l.month)

abbrev pub decreases-loop-over : goal.decreases-loop-over
decreases-loop-over l = l.over
