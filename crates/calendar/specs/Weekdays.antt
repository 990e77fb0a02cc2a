-- The week, and the weekly calendar.
use Rattle.std.specs.Prelude.{ℕ, ◌+◌, ◌/◌, ◌%◌, ◌^◌, Bool, List, [], ◌∷◌, codes, ◌==◌, slice_index_or}
use Rattle.calendar.specs.Pairs.{Pairs}
use Rattle.calendar.specs.declared.weekday.Weekday.{Weekday}
use Rattle.calendar.specs.declared.weekday.Weekday.TheVariants.{Monday, Tuesday, Wednesday, Thursday, Friday, Saturday, Sunday}

-- the number of a day's weekday, Monday being 0; day 0 is a Saturday
abbrev pub weekday_number : ℕ → ℕ
weekday_number day = (day + 5) % 7

abbrev pub week : List Weekday
week = Monday ∷ Tuesday ∷ Wednesday ∷ Thursday ∷ Friday ∷ Saturday ∷ Sunday ∷ []

abbrev pub weekday_of : ℕ → Weekday
weekday_of day = slice_index_or week (weekday_number day) Monday

-- whether bit k of n is set
abbrev pub bit : ℕ → ℕ → Bool
bit n k = n / 2 ^ k % 2 == 1

-- a code runs on the weekdays whose bits it has
abbrev pub weekly : Pairs
weekly code day = bit code (weekday_number day)

-- its English name, by its bytes
abbrev pub name_of : Weekday → List ℕ
name_of Monday = codes "Monday"
name_of Tuesday = codes "Tuesday"
name_of Wednesday = codes "Wednesday"
name_of Thursday = codes "Thursday"
name_of Friday = codes "Friday"
name_of Saturday = codes "Saturday"
name_of Sunday = codes "Sunday"
