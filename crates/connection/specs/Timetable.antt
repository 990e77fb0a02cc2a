-- What connections are looked for in.
use Rattle.std.specs.Prelude.{List}
use Rattle.book.specs.Trains.{Train}
use Rattle.calendar.specs.Pairs.{Pairs}

-- the trains in force, each named by its row from 0, and on which days the calendar says that each code runs
pub record Timetable : Type 0 where
  pub trains : List Train
  pub runs : Pairs

abbrev pub timetable_of : List Train → Pairs → Timetable
timetable_of trains runs = record { trains = trains; runs = runs }
