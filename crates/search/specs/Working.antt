-- How a connection is looked for: layers of labels, one layer for each number of changes. Nothing that is promised rests on these words.
--
-- A layer has three parts, one for each shift, and in each part a record for each row of the stop table:
--
--     layer 0: | day before: row 0 .. | same day: row 0 .. | day after: row 0 .. |
--     layer 1: | ..
--
-- The record holds the label of who is on board the run of that shift at that stop, after so many changes.
use Rattle.std.specs.Prelude.{ℕ, zero, suc, ◌+◌, ◌*◌, ◌≤◌, Bool, false, cond, ◌&&◌, ◌||◌, List, length, Some, None, Option, slice_index_or}
use Rattle.tariff.specs.Meaning.{Meaning}
use Rattle.tariff.specs.declared.step.Step.{Step}
use Rattle.book.specs.Rules.{stop_at}
use Rattle.book.specs.Trains.{trains_in}
use Rattle.book.specs.declared.rows.StopRow.{StopRow}
use Rattle.book.specs.declared.rows.TrainRow.{TrainRow}
use Rattle.calendar.specs.Pairs.{Pairs}
use Rattle.connection.specs.Rides.{offers, does_run, leaves_at, reaches_at}
use Rattle.connection.specs.Timetable.{Timetable, timetable_of}
use Rattle.connection.specs.declared.label.Label.{Label}
use Rattle.connection.specs.declared.query.Query.{Query}
use Rattle.connection.specs.declared.ride.Shift.{Shift}
use Rattle.connection.specs.declared.ride.Shift.TheVariants.{DayBefore, SameDay, DayAfter}
use Rattle.search.specs.Limits.{layer_size}
use Rattle.search.specs.Records.{blank, label_of}
use Rattle.search.specs.declared.inquiry.Inquiry.{Inquiry}
use Rattle.search.specs.declared.record.WorkRecord.{WorkRecord}

-- the label with one step more
abbrev pub stepped : {A : Type 0} → Meaning A → Step → Label A → Label A
stepped m x l = record { total = m.add l.total x; board = l.board; from = l.from }

-- the first costs no more than the second, of two that have a total
abbrev pub costs_at_most : {A L : Type 0} → Meaning A → (L → A) → L → L → Bool
costs_at_most m total a b = m.at_most (total a) (total b)

-- ---- what is worked on
-- how many rows of the stop table are in use
abbrev pub size_of : {P : Type 0} → Inquiry P → ℕ
size_of inquiry = length inquiry.stops.now

-- what is asked over: the trains of the rows in use, where the calendar says this
abbrev pub asked_over : {P : Type 0} → Inquiry P → Pairs → Timetable
asked_over inquiry runs = timetable_of (trains_in inquiry.trains.now inquiry.stops.now) runs

-- the stop in the row, and when the run of that shift gets there and leaves
abbrev pub stop_in : {P : Type 0} → Inquiry P → ℕ → StopRow
stop_in inquiry row = stop_at inquiry.stops.now row

abbrev pub row_reaches : {P : Type 0} → Inquiry P → Shift → ℕ → ℕ
row_reaches inquiry s row = reaches_at inquiry.query.now s (stop_in inquiry row)

abbrev pub row_leaves : {P : Type 0} → Inquiry P → Shift → ℕ → ℕ
row_leaves inquiry s row = leaves_at inquiry.query.now s (stop_in inquiry row)

-- the query may use the run of that shift of the train in that row
abbrev pub may_use : Pairs → Query → TrainRow → Shift → Bool
may_use runs q row s = offers q row.features && does_run runs q row.code s

-- ---- where a record stands
abbrev pub number : Shift → ℕ
number DayBefore = 0
number SameDay = 1
number DayAfter = 2

-- in its layer
abbrev pub place : ℕ → Shift → ℕ → ℕ
place size s row = number s * size + row

-- the layer k, and a part of it, in the table
abbrev pub layer_at : ℕ → ℕ → ℕ
layer_at size k = k * layer_size size

abbrev pub part_at : ℕ → ℕ → Shift → ℕ
part_at size k s = layer_at size k + number s * size

-- the table has room for the first k layers
abbrev pub HasLayers : {A : Type 0} → ℕ → List (WorkRecord A) → ℕ → Type 0
HasLayers size table k = layer_at size k ≤ length table

module _ {A : Type 0} where
  abbrev pub label_at : List (WorkRecord A) → ℕ → Option (Label A)
  label_at table x = label_of (slice_index_or table x blank)

  -- by layer, shift and row
  abbrev pub label_in : ℕ → List (WorkRecord A) → ℕ → Shift → ℕ → Option (Label A)
  label_in size table k s row = label_at table (part_at size k s + row)

-- ---- a label that is not worth following
-- a connection is known that costs no more
abbrev pub hopeless : {A : Type 0} → Meaning A → Option A → A → Bool
hopeless m None total = false
hopeless m (Some known) total = m.at_most known total

-- the label, unless nothing can come of it
abbrev pub if_promising : {A : Type 0} → Meaning A → Option A → Option (Label A) → Option (Label A)
if_promising m known None = None
if_promising m known (Some l) = cond (hopeless m known l.total) None (Some l)

-- a label with fewer changes at the same place costs no more
abbrev pub costs_no_more : {A : Type 0} → Meaning A → Option (Label A) → A → Bool
costs_no_more m None total = false
costs_no_more m (Some l) total = m.at_most l.total total

module _ {A : Type 0} (m : Meaning A) (size : ℕ) (table : List (WorkRecord A)) (at : ℕ) where
  -- in one of the first layers
  abbrev pub beaten : ℕ → A → Bool
  beaten zero total = false
  beaten (suc k) total = beaten k total || costs_no_more m (label_at table (layer_at size k + at)) total

  abbrev pub if_worth_following : Option A → ℕ → Option (Label A) → Option (Label A)
  if_worth_following known layer None = None
  if_worth_following known layer (Some l) = cond (hopeless m known l.total || beaten layer l.total) None (Some l)
