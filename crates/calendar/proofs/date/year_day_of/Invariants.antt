use Rattle.std.proofs.Common.{◌≡◌, ◌+◌, ◌*◌, ◌≤◌}
use Rattle.calendar.specs.Dates.{after, new_year, date_of}
use Rattle.calendar.proofs.date.year_day_of.Given as goal

abbrev pub invariant-loop-over : goal.invariant-loop-over
invariant-loop-over l = (after l.over (new_year l.year) ≡ date_of l.day) × (365 * l.year + l.over ≤ 365 * 2000 + l.day)

abbrev pub decreases-loop-over : goal.decreases-loop-over
decreases-loop-over l = l.over
