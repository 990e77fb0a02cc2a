-- The Gregorian calendar, day by day: a day's date is found by going on from 1 January 2000, one day at a time.
use Rattle.std.specs.Prelude.{ℕ, zero, suc, ◌+◌, ◌-◌, ◌*◌, ◌%◌, Bool, List, ◌++◌, length, replicate, codes, slice_index_or, Option, cond, not, ◌&&◌, ◌||◌, ◌==◌, nat_le, nat_lt}
use Rattle.std.specs.Bool.{then_some}
use Rattle.std.specs.Char.{is_ascii_digit}
use Rattle.std.specs.Fmt.{decimal}
use Rattle.calendar.specs.declared.date.Date.{Date}

-- every fourth year, but of the full hundreds only every fourth
abbrev pub is_leap : ℕ → Bool
is_leap y = y % 4 == 0 && (not (y % 100 == 0) || y % 400 == 0)

-- how many days the year has
abbrev pub year_length : ℕ → ℕ
year_length y = cond (is_leap y) 366 365

-- how many days the month has: April, June, September and November have 30
abbrev pub month_length : ℕ → ℕ → ℕ
month_length y m = cond (m == 2) (cond (is_leap y) 29 28) (cond (m == 4 || (m == 6 || (m == 9 || m == 11))) 30 31)

-- the days of the year's first m months
abbrev pub days_through : ℕ → ℕ → ℕ
days_through y zero = 0
days_through y (suc m) = days_through y m + month_length y (suc m)

-- the days of the first n years from 2000 on
abbrev pub days_of_years : ℕ → ℕ
days_of_years zero = 0
days_of_years (suc n) = days_of_years n + year_length (2000 + n)

-- a date by its year, month and day of the month
abbrev pub on : ℕ → ℕ → ℕ → Date
on y m d = record { year = y; month = m; day = d }

-- the next day of the month, else the next month, else the next year
unfoldable pub tomorrow : Date → Date
tomorrow t =
    cond (nat_lt t.day (month_length t.year t.month)) (on t.year t.month (t.day + 1))
    (cond (nat_lt t.month 12) (on t.year (t.month + 1) 1) (on (t.year + 1) 1 1))

-- the date so many days later
abbrev pub after : ℕ → Date → Date
after zero t = t
after (suc n) t = after n (tomorrow t)

-- 1 January
abbrev pub new_year : ℕ → Date
new_year y = on y 1 1

-- the date of a day, day 0 being 1 January 2000
abbrev pub date_of : ℕ → Date
date_of day = after day (new_year 2000)

-- a number with zeros, whose byte is 48, ahead of it to so many digits
abbrev pub zero_filled : ℕ → ℕ → List ℕ
zero_filled digits n = replicate (digits - length (decimal n)) 48 ++ decimal n

-- year, month and day, as 2000-01-04, by its bytes
abbrev pub date_text : Date → List ℕ
date_text t = zero_filled 4 t.year ++ (codes "-" ++ (zero_filled 2 t.month ++ (codes "-" ++ zero_filled 2 t.day)))

-- ---- from a date back to its day
-- a month of the year, and a day of that month
abbrev pub in_calendar : Date → Bool
in_calendar t = nat_le 1 t.month && nat_le t.month 12 && (nat_le 1 t.day && nat_le t.day (month_length t.year t.month))

-- the days of the years from 2000 up to the date's, of its months ahead, and of its month ahead of it
abbrev pub days_before : Date → ℕ
days_before t = days_of_years (t.year - 2000) + days_through t.year (t.month - 1) + (t.day - 1)

-- the day that has this date, if there is one: it fits 16 bits
unfoldable pub day_of : Date → Option ℕ
day_of t = then_some (in_calendar t && nat_le 2000 t.year && nat_lt (days_before t) 65536) (days_before t)

-- ---- from a text back to its date
-- what two digits are worth
abbrev pub two : ℕ → ℕ → ℕ
two tens ones = 10 * (tens - 48) + (ones - 48)

abbrev pub are_digits : ℕ → ℕ → Bool
are_digits tens ones = is_ascii_digit tens && is_ascii_digit ones

abbrev pub byte : List ℕ → ℕ → ℕ
byte bs k = slice_index_or bs k 0

-- ten bytes: four digits, a dash, whose byte is 45, two digits, a dash and two digits
abbrev pub has_date_form : List ℕ → Bool
has_date_form bs =
    length bs == 10 && (byte bs 4 == 45 && byte bs 7 == 45)
    && (are_digits (byte bs 0) (byte bs 1) && are_digits (byte bs 2) (byte bs 3) && are_digits (byte bs 5) (byte bs 6) && are_digits (byte bs 8) (byte bs 9))

-- what these digits say
abbrev pub date_said : List ℕ → Date
date_said bs = on (100 * two (byte bs 0) (byte bs 1) + two (byte bs 2) (byte bs 3)) (two (byte bs 5) (byte bs 6)) (two (byte bs 8) (byte bs 9))

-- the date that is written so, if it is one of the calendar
unfoldable pub date_written : List ℕ → Option Date
date_written bs = then_some (has_date_form bs && in_calendar (date_said bs)) (date_said bs)
