-- What the rows of a book mean: a list of trains, each with its stops; or nothing, where they do not hold.
use Rattle.std.specs.Prelude.{ℕ, ◌+◌, Bool, true, false, cond, ◌&&◌, ◌||◌, List, [], ◌∷◌, map, length, take, drop, Some, None, Option, ◌==◌, nat_le, nat_lt}
use Rattle.book.specs.Limits.{most_trains, most_stops}
use Rattle.book.specs.Stops.{in_order, few, sound}
use Rattle.book.specs.declared.rows.StopRow.{StopRow}
use Rattle.book.specs.declared.rows.TrainRow.{TrainRow}
use Rattle.book.specs.declared.state.Entry.{Entry}

pub record Train : Type 0 where
  pub number : ℕ
  pub code : ℕ
  pub features : ℕ
  pub stops : List StopRow

-- ---- lists of trains
abbrev pub known : ℕ → List Train → Bool
known n [] = false
known n (t ∷ ts) = t.number == n || known n ts

-- how many stops they have together
abbrev pub all_stops : List Train → ℕ
all_stops [] = 0
all_stops (t ∷ ts) = length t.stops + all_stops ts

abbrev pub all_sound : List Train → Bool
all_sound [] = true
all_sound (t ∷ ts) = sound t.number t.stops && all_sound ts

-- ---- rows as trains
-- the train of a row: its stops stand in the stop table from the row `first` on
abbrev pub train_at : List StopRow → TrainRow → Train
train_at stops r = record { number = r.number; code = r.code; features = r.features; stops = take r.count (drop r.first stops) }

abbrev pub trains_in : List TrainRow → List StopRow → List Train
trains_in rows stops = map (train_at stops) rows

-- the first n rows as trains
abbrev pub listed : ℕ → List TrainRow → List StopRow → List Train
listed n trains stops = trains_in (take n trains) stops

-- the stops of the first train begin at the row `at`, those of each other where those before it end, and the last train's end at the row `end`
abbrev pub gapless : ℕ → ℕ → List TrainRow → Bool
gapless at end [] = at == end
gapless at end (r ∷ rs) = r.first == at && gapless (at + r.count) end rs

-- n trains and s stops are in use: they fit the book and the tables, leave no gap and break no rule
unfoldable pub holds : ℕ → ℕ → List TrainRow → List StopRow → Bool
holds n s trains stops =
    nat_le n most_trains && nat_le n (length trains) && nat_le s most_stops && nat_le s (length stops)
    && (gapless 0 s (take n trains) && all_sound (trains_in (take n trains) stops))

-- what the rows of a book mean: its trains, or nothing where the rows do not hold
abbrev pub meaning : ℕ → ℕ → List TrainRow → List StopRow → Option (List Train)
meaning n s trains stops = cond (holds n s trains stops) (Some (listed n trains stops)) None

-- ---- the train that an entry has open
abbrev pub open_stops : Entry → List StopRow → List StopRow
open_stops e stops = take e.taken (drop e.book.stops stops)

abbrev pub open_train : Entry → List StopRow → Train
open_train e stops = record { number = e.number; code = e.code; features = e.features; stops = open_stops e stops }

-- the book holds, there is a row for the entry's train, and its stops so far fit and break no rule
unfoldable pub entry_holds : Entry → List TrainRow → List StopRow → Bool
entry_holds e trains stops =
    holds e.book.trains e.book.stops trains stops && nat_lt e.book.trains most_trains && nat_lt e.book.trains (length trains)
    && nat_le (e.book.stops + e.taken) most_stops && nat_le (e.book.stops + e.taken) (length stops)
    && (few (open_stops e stops) && in_order None (open_stops e stops))

-- what the rows of an entry mean: the book's trains and the open train, or nothing where the rows do not hold
abbrev pub entry_meaning : Entry → List TrainRow → List StopRow → Option (List Train × Train)
entry_meaning e trains stops = cond (entry_holds e trains stops) (Some (listed e.book.trains trains stops, open_train e stops)) None
