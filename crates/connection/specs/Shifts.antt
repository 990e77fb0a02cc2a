-- The days on which a train that a query may use sets out, as seen from the query's day.
use Rattle.std.specs.Prelude.{◌≡◌, ℕ, List, [], ◌∷◌, Some, slice_get}
use Rattle.connection.specs.declared.ride.Shift.{Shift}
use Rattle.connection.specs.declared.ride.Shift.TheVariants.{DayBefore, SameDay, DayAfter}

abbrev pub all_shifts : List Shift
all_shifts = DayBefore ∷ SameDay ∷ DayAfter ∷ []

-- each shift stands at one place of the list, and at no other
abbrev pub EachShiftOnce : List Shift → Type 0
EachShiftOnce shifts = (s : Shift) → (i : ℕ) × (slice_get shifts i ≡ Some s) × ((j : ℕ) → slice_get shifts j ≡ Some s → j ≡ i)
