use Rattle.std.proofs.Common.{◌≡◌, ◌+◌, ◌-◌}
use Rattle.calendar.specs.Dates.{days_of_years, days_through}
use Rattle.calendar.proofs.date.Date.day.Given as goal

abbrev pub invariant-loop-year : goal.invariant-loop-year
invariant-loop-year l = l.days ≡ days_of_years (l.year - 2000) + (l.self.day - 1)

abbrev pub invariant-loop-month : goal.invariant-loop-month
invariant-loop-month l = l.days ≡ days_of_years (l.self.year - 2000) + days_through l.self.year (l.month - 1) + (l.self.day - 1)
