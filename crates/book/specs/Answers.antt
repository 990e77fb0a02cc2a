-- What each call answers, and what it leaves in the tables.
use Rattle.std.specs.Prelude.{ℕ, suc, ◌+◌, ◌-◌, false, cond, List, [], ◌∷◌, ◌++◌, map, take, drop, position, Some, None, Ok, Err, Option, Result, ◌==◌, slice_index_or, slice_set}
use Rattle.book.specs.Refusals.{check_refusal, begin_refusal, stop_refusal, finish_refusal, withdraw_refusal}
use Rattle.book.specs.declared.refusal.Refusal.{Refusal}
use Rattle.book.specs.declared.refusal.Refused.{Refused}
use Rattle.book.specs.declared.rows.Departure.{Departure}
use Rattle.book.specs.declared.rows.StopRow.{StopRow}
use Rattle.book.specs.declared.rows.TrainRow.{TrainRow}
use Rattle.book.specs.declared.state.Book.{Book}
use Rattle.book.specs.declared.state.Entry.{Entry}

-- a refused call gives back what it took ..
abbrev pub refused_or : {A B : Type 0} → Option Refusal → B → A → Result A (Refused B)
refused_or (Some reason) taken given = Err (record { back = taken; refusal = reason })
refused_or None taken given = Ok given

-- .. and leaves the rows as they were
abbrev pub unless : {A R : Type 0} → Option R → A → A → A
unless (Some reason) old new = old
unless None old new = new

-- no row is in use
abbrev pub new_book : Book
new_book = record { trains = 0; stops = 0 }

-- what was asked for, unless there is a reason to refuse it
abbrev pub given_unless : {A R : Type 0} → Option R → A → Result A R
given_unless (Some reason) given = Err reason
given_unless None given = Ok given

-- leave, unless there is one
abbrev pub ok_unless : {R : Type 0} → Option R → Result (Unit {0}) R
ok_unless (Some reason) = Err reason
ok_unless None = Ok tt

-- ---- check
abbrev pub check_answer : Book → List TrainRow → List StopRow → Result (Unit {0}) Refusal
check_answer b trains stops = ok_unless (check_refusal b trains stops)

-- ---- begin
abbrev pub begin_answer : Book → List TrainRow → List StopRow → ℕ → ℕ → ℕ → Result Entry (Refused Book)
begin_answer b trains stops n c f =
    refused_or (begin_refusal b trains stops n) b
    (record { book = b; number = n; code = c; features = f; taken = 0; spent = false })

-- ---- stop
-- a stop row of its parts
abbrev pub row : ℕ → Option ℕ → Option Departure → StopRow
row station arrive depart = record { station = station; arrive = arrive; depart = depart }

-- the entry with one stop more
abbrev pub longer : Entry → Entry
longer e =
    record { book = e.book; number = e.number; code = e.code; features = e.features; taken = e.taken + 1; spent = e.spent }

abbrev pub stop_answer : Entry → List TrainRow → List StopRow → StopRow → Result Entry (Refused Entry)
stop_answer e trains stops s = refused_or (stop_refusal e trains stops s) e (longer e)

abbrev pub stop_rows : Entry → List TrainRow → List StopRow → StopRow → List StopRow
stop_rows e trains stops s = unless (stop_refusal e trains stops s) stops (slice_set stops (e.book.stops + e.taken) s)

-- ---- finish
-- the row of the train that the entry has filled in
abbrev pub finished_row : Entry → TrainRow
finished_row e = record { number = e.number; code = e.code; features = e.features; first = e.book.stops; count = e.taken }

abbrev pub finish_answer : Entry → List TrainRow → List StopRow → Result Book (Refused Entry)
finish_answer e trains stops =
    refused_or (finish_refusal e trains stops) e (record { trains = e.book.trains + 1; stops = e.book.stops + e.taken })

abbrev pub finish_rows : Entry → List TrainRow → List StopRow → List TrainRow
finish_rows e trains stops = unless (finish_refusal e trains stops) trains (slice_set trains e.book.trains (finished_row e))

-- ---- abandon
abbrev pub abandon_answer : Entry → Book
abandon_answer e = e.book

-- a refused entry is abandoned
abbrev pub abandoned : Refused Entry → Refused Book
abandoned r = record { back = abandon_answer r.back; refusal = r.refusal }

-- ---- withdraw
-- the row of the first train with the number, and the number of rows where there is none
abbrev pub place : ℕ → List TrainRow → ℕ
place n [] = 0
place n (r ∷ rs) = cond (r.number == n) 0 (suc (place n rs))

-- the same, and nothing where there is none
abbrev pub place_if_any : ℕ → List TrainRow → Option ℕ
place_if_any n rows = position (λ (r : TrainRow). r.number == n) rows

-- the row at k, and a row of zeros past the end
abbrev pub train_row : ℕ → List TrainRow → TrainRow
train_row k rows = slice_index_or rows k (record { number = 0; code = 0; features = 0; first = 0; count = 0 })

-- the row of a train whose stops have moved forward by so many rows
abbrev pub forward : ℕ → TrainRow → TrainRow
forward by r = record { number = r.number; code = r.code; features = r.features; first = r.first - by; count = r.count }

-- `count` rows from the row `at` on are taken out of the first `used`. Those after them move forward, and the freed rows keep what they held
abbrev pub closed_up : {A : Type 0} → (A → A) → ℕ → ℕ → ℕ → List A → List A
closed_up moved at count used rows = take at rows ++ map moved (take (used - (at + count)) (drop (at + count) rows)) ++ drop (used - count) rows

-- the row of the train that is withdrawn
abbrev pub withdrawn : Book → List TrainRow → ℕ → TrainRow
withdrawn b trains n = train_row (place n (take b.trains trains)) trains

abbrev pub withdraw_answer : Book → List TrainRow → List StopRow → ℕ → Result Book (Refused Book)
withdraw_answer b trains stops n =
    refused_or (withdraw_refusal b trains stops n) b (record { trains = b.trains - 1; stops = b.stops - (withdrawn b trains n).count })

abbrev pub withdraw_trains : Book → List TrainRow → List StopRow → ℕ → List TrainRow
withdraw_trains b trains stops n =
    unless (withdraw_refusal b trains stops n) trains
    (closed_up (forward (withdrawn b trains n).count) (place n (take b.trains trains)) 1 b.trains trains)

abbrev pub withdraw_stops : Book → List TrainRow → List StopRow → ℕ → List StopRow
withdraw_stops b trains stops n =
    unless (withdraw_refusal b trains stops n) stops
    (closed_up (λ s. s) (withdrawn b trains n).first (withdrawn b trains n).count b.stops stops)
