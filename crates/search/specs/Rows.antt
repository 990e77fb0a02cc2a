-- What is known of a query and of the rows in use, ahead of looking.
use Rattle.std.specs.Prelude.{◌≡◌, ℕ, ◌<◌, ◌≤◌, true, List, length}
use Rattle.book.specs.Limits.{last_station, last_minute, most_trains, most_stops}
use Rattle.book.specs.Rules.{stop_at}
use Rattle.book.specs.Trains.{gapless, all_sound, trains_in}
use Rattle.book.specs.declared.rows.StopRow.{StopRow}
use Rattle.book.specs.declared.rows.TrainRow.{TrainRow}
use Rattle.connection.specs.Clock.{last_day}
use Rattle.connection.specs.Rides.{arrival, departure}
use Rattle.connection.specs.declared.query.Query.{Query}
use Rattle.search.specs.Limits.{most_changes, last_minute_of_day}

-- the days around the query's can be asked for, and its minute is one of its day
pub record Askable (q : Query) : Type 0 where
  pub day_before : 0 < q.day
  pub day_after : q.day < last_day
  pub minute : q.minute ≤ last_minute_of_day
  pub changes : q.changes ≤ most_changes

-- the rows hold a book: the stops of the trains lie one after another over all the rows, and break no rule
pub record InOrder (rows : List TrainRow) (stops : List StopRow) : Type 0 where
  pub gapless : gapless 0 (length stops) rows ≡ true
  pub sound : all_sound (trains_in rows stops) ≡ true
  pub few_trains : length rows ≤ most_trains
  pub few_stops : length stops ≤ most_stops

-- their times and stations are within the book's limits
pub record Timely (stops : List StopRow) : Type 0 where
  pub arrives : (j : ℕ) → j < length stops → arrival (stop_at stops j) ≤ last_minute
  pub departs : (j : ℕ) → j < length stops → departure (stop_at stops j) ≤ last_minute
  pub stations : (j : ℕ) → j < length stops → (stop_at stops j).station ≤ last_station
