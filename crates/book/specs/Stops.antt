-- The rules of a train's stops, one stop after another: what a stop may be after the stop before it.
use Rattle.std.specs.Prelude.{ℕ, Bool, true, false, not, ◌&&◌, ◌||◌, List, [], ◌∷◌, length, is_some, Some, None, Option, ◌==◌, nat_le, nat_lt}
use Rattle.book.specs.Limits.{last_station, last_minute, most_stops_of_train}
use Rattle.book.specs.Reasons.{first_of}
use Rattle.book.specs.declared.refusal.Refusal.{Refusal}
use Rattle.book.specs.declared.refusal.Refusal.TheVariants.{PastLast, NoStation, SameStation, WrongTimes, BadTime}
use Rattle.book.specs.declared.rows.Departure.{Departure}
use Rattle.book.specs.declared.rows.StopRow.{StopRow}

-- ---- `before` is the stop before, if there is one
-- the train has come to its last stop
abbrev pub ended : Option StopRow → Bool
ended None = false
ended (Some b) = not (is_some b.depart)

abbrev pub same_station : Option StopRow → StopRow → Bool
same_station None s = false
same_station (Some b) s = b.station == s.station

-- a first stop has a departure and no arrival, a later one has an arrival
abbrev pub wrong_times : Option StopRow → StopRow → Bool
wrong_times None s = is_some s.arrive || not (is_some s.depart)
wrong_times (Some b) s = not (is_some s.arrive)

abbrev pub late : Option ℕ → Bool
late None = false
late (Some m) = nat_lt last_minute m

-- the minute of a departure
abbrev pub leaves : Option Departure → Option ℕ
leaves None = None
leaves (Some d) = Some d.minute

abbrev pub left_at : Option StopRow → Option ℕ
left_at None = None
left_at (Some b) = leaves b.depart

-- of two minutes that are there, the second is before the first
abbrev pub before_it : Option ℕ → Option ℕ → Bool
before_it (Some m) (Some n) = nat_lt n m
before_it (Some m) None = false
before_it None n = false

-- of two minutes that are there, the second is not after the first
abbrev pub not_after : Option ℕ → Option ℕ → Bool
not_after (Some m) (Some n) = nat_le n m
not_after (Some m) None = false
not_after None n = false

-- a time is too late, a departure before its arrival, or an arrival not after the departure before it
abbrev pub bad_time : Option StopRow → StopRow → Bool
bad_time before s =
    late s.arrive || late (leaves s.depart) || before_it s.arrive (leaves s.depart) || not_after (left_at before) s.arrive

-- what may be wrong with the stop s after the stop `before`
abbrev pub stop_reasons : Option StopRow → StopRow → List (Bool × Refusal)
stop_reasons before s =
    (ended before, PastLast)
    ∷ (nat_lt last_station s.station, NoStation)
    ∷ (same_station before s, SameStation)
    ∷ (wrong_times before s, WrongTimes)
    ∷ (bad_time before s, BadTime)
    ∷ []

-- what is wrong with it
unfoldable pub stop_fault : Option StopRow → StopRow → Option Refusal
stop_fault before s = first_of (stop_reasons before s)

-- ---- all stops of a train
abbrev pub in_order : Option StopRow → List StopRow → Bool
in_order before [] = true
in_order before (s ∷ rest) = not (is_some (stop_fault before s)) && in_order (Some s) rest

-- the last of the stops, and `before` where there is none
abbrev pub last_of : Option StopRow → List StopRow → Option StopRow
last_of before [] = before
last_of before (s ∷ rest) = last_of (Some s) rest

abbrev pub few : List StopRow → Bool
few ss = nat_le (length ss) most_stops_of_train

-- a train with this number and these stops breaks no rule.
-- It has two stops at least, since the first has a departure and the last has none
unfoldable pub sound : ℕ → List StopRow → Bool
sound number ss = not (number == 0) && few ss && in_order None ss && ended (last_of None ss)
