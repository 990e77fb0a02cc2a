-- What a traveller can do at a stop of a run, and the stretch that it makes. A run is named by its train's row n and its shift s, a
-- stop of it by its place i.
use Rattle.std.specs.Prelude.{ℕ, suc, ◌-◌, Bool, ◌&&◌, List, length, ◌==◌, nat_le, nat_lt}
use Rattle.tariff.specs.Meaning.{Meaning}
use Rattle.tariff.specs.declared.step.Kind.TheVariants.{Start, Change}
use Rattle.book.specs.Rules.{stop_at}
use Rattle.book.specs.Trains.{Train}
use Rattle.book.specs.declared.rows.StopRow.{StopRow}
use Rattle.connection.specs.Clock.{ready}
use Rattle.connection.specs.Prices.{Stretch, stretch, hop, stand, as_step}
use Rattle.connection.specs.Rides.{can_catch, may_board, may_alight, does_run, offers, train_in_row, stop_of, run_leaves, run_reaches}
use Rattle.connection.specs.Timetable.{Timetable}
use Rattle.connection.specs.declared.query.Query.{Query}
use Rattle.connection.specs.declared.ride.Shift.{Shift}

-- one may get off at the stop, at the destination
abbrev pub ends : List Train → Query → ℕ → ℕ → Bool
ends trains q n i = may_alight (stop_of trains n i) && (stop_of trains n i).station == q.destination

-- ---- from a stop to the next, and at a stop on board
abbrev pub hop_at : List StopRow → ℕ → Stretch
hop_at ss i = hop (stop_at ss i) (stop_at ss (suc i))

abbrev pub stand_at : List StopRow → ℕ → Stretch
stand_at ss i = stand (stop_at ss i)

module _ (timetable : Timetable) (q : Query) where
  -- the query may use the run
  abbrev pub goes : ℕ → Shift → Bool
  goes n s =
      nat_lt n (length timetable.trains)
      && (offers q (train_in_row timetable.trains n).features && does_run timetable.runs q (train_in_row timetable.trains n).code s)

  -- one may board it there
  abbrev pub boardable : ℕ → Shift → ℕ → Bool
  boardable n s i = goes n s && may_board (stop_of timetable.trains n i)

  -- one may start with it there, after a wait
  abbrev pub starts : ℕ → Shift → ℕ → Bool
  starts n s i = boardable n s i && ((stop_of timetable.trains n i).station == q.origin && nat_le (ready q) (run_leaves timetable q n s i))

  abbrev pub start_at : ℕ → Shift → ℕ → Stretch
  start_at n s i = stretch Start (run_leaves timetable q n s i - ready q) 0

  -- one may change there to a stop of another run, if that may be boarded, after a wait
  abbrev pub meets : ℕ → Shift → ℕ → ℕ → Shift → ℕ → Bool
  meets n s i n' s' i' =
      may_alight (stop_of timetable.trains n i)
      && ((stop_of timetable.trains n' i').station == (stop_of timetable.trains n i).station
      && can_catch (run_reaches timetable q n s i) (run_leaves timetable q n' s' i'))

  abbrev pub change_at : ℕ → Shift → ℕ → ℕ → Shift → ℕ → Stretch
  change_at n s i n' s' i' = stretch Change (run_leaves timetable q n' s' i' - run_reaches timetable q n s i) 0

-- ---- the total with a stretch more
abbrev pub with : {A : Type 0} → Meaning A → A → Stretch → A
with m t x = m.add t (as_step x)
