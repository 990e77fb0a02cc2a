-- The rules of trains in plain words, by the place of a stop in its train.
use Rattle.std.specs.Prelude.{◌≡◌, ℕ, suc, ◌-◌, ◌<◌, ◌≤◌, true, ◌≢◌, List, length, is_some, Some, None, slice_index_or}
use Rattle.book.specs.Limits.{last_station, last_minute, most_stops_of_train}
use Rattle.book.specs.Stops.{sound}
use Rattle.book.specs.declared.rows.Departure.{Departure}
use Rattle.book.specs.declared.rows.StopRow.{StopRow}

abbrev pub stop_at : List StopRow → ℕ → StopRow
stop_at ss i = slice_index_or ss i (record { station = 0; arrive = None; depart = None })

pub record Rules (number : ℕ) (ss : List StopRow) : Type 0 where
  pub numbered : number ≢ 0
  pub several : 2 ≤ length ss
  pub not_many : length ss ≤ most_stops_of_train
  pub stations : (i : ℕ) → i < length ss → (stop_at ss i).station ≤ last_station
  -- neighbouring stops have different stations
  pub apart : (i : ℕ) → suc i < length ss → (stop_at ss i).station ≢ (stop_at ss (suc i)).station
  pub no_first_arrival : (stop_at ss 0).arrive ≡ None
  pub arrives : (i : ℕ) → suc i < length ss → is_some (stop_at ss (suc i)).arrive ≡ true
  pub departs : (i : ℕ) → suc i < length ss → is_some (stop_at ss i).depart ≡ true
  pub no_last_departure : (stop_at ss (length ss - 1)).depart ≡ None
  pub arrives_in_time : (i m : ℕ) → i < length ss → (stop_at ss i).arrive ≡ Some m → m ≤ last_minute
  pub departs_in_time : (i : ℕ) (d : Departure) → i < length ss → (stop_at ss i).depart ≡ Some d → d.minute ≤ last_minute
  -- no departure is before the arrival at its stop
  pub waits : (i m : ℕ) (d : Departure) → i < length ss → (stop_at ss i).arrive ≡ Some m → (stop_at ss i).depart ≡ Some d → m ≤ d.minute
  -- each arrival is after the departure before it
  pub rides : (i : ℕ) (d : Departure) (m : ℕ) → suc i < length ss → (stop_at ss i).depart ≡ Some d → (stop_at ss (suc i)).arrive ≡ Some m → d.minute < m

-- the test `sound` passes the trains that keep the rules, and no others
abbrev pub SoundIsTheRules : Type 0
SoundIsTheRules = (number : ℕ) (ss : List StopRow) → (sound number ss ≡ true → Rules number ss) × (Rules number ss → sound number ss ≡ true)
