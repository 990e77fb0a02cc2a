-- Any number of calls on one book, in any order that book and entry allow, and what then holds.
use Rattle.std.specs.Prelude.{◌≡◌, ℕ, zero, suc, ◌<◌, ◌≤◌, ◌≢◌, List, [], ◌∷◌, ◌++◌, length, Some, None, Ok, Err, Result}
use Rattle.std.specs.List.{AllByRecursion}
use Rattle.book.specs.Answers.{new_book, begin_answer, stop_answer, stop_rows, finish_answer, finish_rows, abandon_answer, withdraw_answer, withdraw_trains, withdraw_stops}
use Rattle.book.specs.Limits.{most_trains, most_stops}
use Rattle.book.specs.PlainList.{Call, begins, stops, finishes, abandons, withdraws, reads, CallTyped, InForce, in_force}
use Rattle.book.specs.Refusals.{check_refusal, begin_fault, begin_refusal, next_fault, stop_refusal, finish_fault, finish_refusal, withdraw_fault, withdraw_refusal}
use Rattle.book.specs.Rules.{Rules}
use Rattle.book.specs.Trains.{Train, all_stops, open_train, meaning, entry_meaning}
use Rattle.book.specs.Types.{TrainsTyped}
use Rattle.book.specs.declared.refusal.Refused.{Refused}
use Rattle.book.specs.declared.rows.StopRow.{StopRow}
use Rattle.book.specs.declared.rows.TrainRow.{TrainRow}
use Rattle.book.specs.declared.state.Book.{Book}
use Rattle.book.specs.declared.state.Entry.{Entry}

-- ---- what one call passes on to the next
pub data State : Type 0 where
  Closed : Book → State
  Open : Entry → State

abbrev pub begun : Result Entry (Refused Book) → State
begun (Ok e) = Open e
begun (Err r) = Closed r.back

abbrev pub stopped : Result Entry (Refused Entry) → State
stopped (Ok e) = Open e
stopped (Err r) = Open r.back

abbrev pub finished : Result Book (Refused Entry) → State
finished (Ok b) = Closed b
finished (Err r) = Open r.back

abbrev pub withdrawn_to : Result Book (Refused Book) → State
withdrawn_to (Ok b) = Closed b
withdrawn_to (Err r) = Closed r.back

-- the calls, refused ones among them, lead from a new book over tables of these lengths to this state and these tables.
-- Each call takes the book or entry, and the tables, from the call ahead; its arguments are such as its types allow
pub data History (train_room stop_room : ℕ) : List Call → State → List TrainRow → List StopRow → Type 0 where
  new : (ts : List TrainRow) (ss : List StopRow) → length ts ≡ train_room → length ss ≡ stop_room → History train_room stop_room [] (Closed new_book) ts ss
  begin : (cs : List Call) (b : Book) (ts : List TrainRow) (ss : List StopRow) (n c f : ℕ) → CallTyped (begins n c f) → History train_room stop_room cs (Closed b) ts ss
      → History train_room stop_room (cs ++ (begins n c f ∷ [])) (begun (begin_answer b ts ss n c f)) ts ss
  stop : (cs : List Call) (e : Entry) (ts : List TrainRow) (ss : List StopRow) (s : StopRow) → CallTyped (stops s) → History train_room stop_room cs (Open e) ts ss
      → History train_room stop_room (cs ++ (stops s ∷ [])) (stopped (stop_answer e ts ss s)) ts (stop_rows e ts ss s)
  finish : (cs : List Call) (e : Entry) (ts : List TrainRow) (ss : List StopRow) → History train_room stop_room cs (Open e) ts ss
      → History train_room stop_room (cs ++ (finishes ∷ [])) (finished (finish_answer e ts ss)) (finish_rows e ts ss) ss
  abandon : (cs : List Call) (e : Entry) (ts : List TrainRow) (ss : List StopRow) → History train_room stop_room cs (Open e) ts ss
      → History train_room stop_room (cs ++ (abandons ∷ [])) (Closed (abandon_answer e)) ts ss
  withdraw : (cs : List Call) (b : Book) (ts : List TrainRow) (ss : List StopRow) (n : ℕ) → CallTyped (withdraws n) → History train_room stop_room cs (Closed b) ts ss
      → History train_room stop_room (cs ++ (withdraws n ∷ [])) (withdrawn_to (withdraw_answer b ts ss n)) (withdraw_trains b ts ss n) (withdraw_stops b ts ss n)
  read : (cs : List Call) (b : Book) (ts : List TrainRow) (ss : List StopRow) → History train_room stop_room cs (Closed b) ts ss
      → History train_room stop_room (cs ++ (reads ∷ [])) (Closed b) ts ss

-- ---- what holds after every history
-- the rows mean just the trains in force, and the open train
abbrev pub RowsHold : InForce → State → List TrainRow → List StopRow → Type 0
RowsHold f (Closed b) ts ss = (meaning b.trains b.stops ts ss ≡ Some f.trains) × (f.opened ≡ None)
RowsHold f (Open e) ts ss = (entry_meaning e ts ss ≡ Some (f.trains, open_train e ss)) × (f.opened ≡ Some (open_train e ss))

abbrev pub EveryHistoryHolds : Type 0
EveryHistoryHolds =
    (tr sr : ℕ) (calls : List Call) (st : State) (ts : List TrainRow) (ss : List StopRow) → History tr sr calls st ts ss → RowsHold (in_force tr sr calls) st ts ss

-- no call finds the tables damaged, and each refusal is that of the plain list
abbrev pub RefusalsAgree : ℕ → ℕ → InForce → State → List TrainRow → List StopRow → Type 0
RefusalsAgree tr sr f (Closed b) ts ss =
    (check_refusal b ts ss ≡ None)
    × ((n : ℕ) → begin_refusal b ts ss n ≡ begin_fault tr f.trains n)
    × ((n : ℕ) → withdraw_refusal b ts ss n ≡ withdraw_fault f.trains n)
RefusalsAgree tr sr f (Open e) ts ss =
    ((s : StopRow) → stop_refusal e ts ss s ≡ next_fault sr f.trains (open_train e ss) s)
    × (finish_refusal e ts ss ≡ finish_fault (open_train e ss))

abbrev pub EveryRefusalAgrees : Type 0
EveryRefusalAgrees =
    (tr sr : ℕ) (calls : List Call) (st : State) (ts : List TrainRow) (ss : List StopRow) → History tr sr calls st ts ss → RefusalsAgree tr sr (in_force tr sr calls) st ts ss

-- ---- the trains in force keep the rules
abbrev pub number_at : List Train → ℕ → ℕ
number_at [] i = 0
number_at (t ∷ ts) zero = t.number
number_at (t ∷ ts) (suc i) = number_at ts i

pub record Lawful (ts : List Train) : Type 0 where
  pub not_many : length ts ≤ most_trains
  pub not_many_stops : all_stops ts ≤ most_stops
  pub rules : AllByRecursion (λ (t : Train). Rules t.number t.stops) ts
  pub distinct : (i j : ℕ) → i < j → j < length ts → number_at ts i ≢ number_at ts j

abbrev pub EveryHistoryIsLawful : Type 0
EveryHistoryIsLawful =
    (tr sr : ℕ) (calls : List Call) (st : State) (ts : List TrainRow) (ss : List StopRow) → History tr sr calls st ts ss → Lawful (in_force tr sr calls).trains

-- each number in the trains in force fits its type: no fare is above 65,535 cents
abbrev pub EveryHistoryIsTyped : Type 0
EveryHistoryIsTyped =
    (tr sr : ℕ) (calls : List Call) (st : State) (ts : List TrainRow) (ss : List StopRow) → History tr sr calls st ts ss → TrainsTyped (in_force tr sr calls).trains

-- ---- that histories are about the real calls
-- from any history before the call there is one after it, with what the call gave and left; and the rows hold the trains then in force
abbrev pub LeadsOn : State → List TrainRow → List StopRow → Call → State → List TrainRow → List StopRow → Type 0
LeadsOn st ts ss c st' ts' ss' =
    (tr sr : ℕ) (calls : List Call) → History tr sr calls st ts ss → History tr sr (calls ++ (c ∷ [])) st' ts' ss' × RowsHold (in_force tr sr (calls ++ (c ∷ []))) st' ts' ss'
