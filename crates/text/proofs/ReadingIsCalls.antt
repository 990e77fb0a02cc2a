-- Reading a text makes calls on the book: they lead from any history ahead of it to the book and the tables that it leaves.
use Rattle.std.proofs.Common.{◌≡◌, ℕ, suc, Bool, true, false, cond, List, [], ◌∷◌, ◌++◌, is_some, Some, None, Ok, Err, Option, Result, sym, refl, subst, append_assoc}
use Rattle.std.proofs.lemmas.List.{append-nil}
use Rattle.book.specs.Answers.{begin_answer, stop_answer, finish_answer, abandon_answer}
use Rattle.book.specs.Histories.{State, Closed, Open, begun, stopped, finished, History, begin, stop, finish, abandon}
use Rattle.book.specs.PlainList.{Call, begins, stops, finishes, abandons, CallTyped}
use Rattle.book.specs.Refusals.{check_refusal}
use Rattle.book.specs.declared.refusal.Refusal.{Refusal}
use Rattle.book.specs.declared.refusal.Refused.{Refused}
use Rattle.book.specs.declared.rows.StopRow.{StopRow}
use Rattle.book.specs.declared.rows.TrainRow.{TrainRow}
use Rattle.book.specs.declared.state.Book.{Book}
use Rattle.book.specs.declared.state.Entry.{Entry}
use Rattle.text.specs.Faults.{wrong_names, differs, misread}
use Rattle.text.specs.Lines.{Line, lines}
use Rattle.text.specs.Reading.{Left, left, then_on, after_finish, finishing, after_stop, stopping, after_begin, same_train, taking, book_of, after_saying, ending, reading, is_names, from_names, unless_refused, read, book_left}
use Rattle.text.specs.Returns.{ReadsOn}
use Rattle.text.specs.Saying.{says}
use Rattle.text.specs.declared.fault.Fault.{Fault}
use Rattle.text.specs.declared.fault.Misread.{Misread}
use Rattle.text.specs.declared.stage.Stage.{Stage}
use Rattle.text.specs.declared.stage.Stage.TheVariants.{Between, Inside}
use Rattle.text.specs.declared.stop_line.StopLine.{StopLine}
use Rattle.text.proofs.CallsTyped.{CallsTyped, says_typed}

-- the book or the entry that a part leaves
abbrev state_of : Stage → State
state_of (Between b) = Closed b
state_of (Inside e) = Open e

abbrev state_left : Result Stage Misread → State
state_left (Ok st) = state_of st
state_left (Err m) = Closed m.book

module _ (tr sr : ℕ) (calls : List Call) where
  -- some more calls lead to here
  abbrev Led : State → List TrainRow → List StopRow → Type 0
  Led st ts ss = (more : List Call) × History tr sr (calls ++ more) st ts ss

  abbrev LedToStage : Left Stage → Type 0
  LedToStage l = Led (state_left l.answer) l.trains l.stops

  abbrev LedToBook : Left Book → Type 0
  LedToBook l = Led (Closed (book_left l.answer)) l.trains l.stops

  one_more : (more : List Call) (c : Call) (st : State) (ts : List TrainRow) (ss : List StopRow) → History tr sr ((calls ++ more) ++ (c ∷ [])) st ts ss → Led st ts ss
  one_more more c st ts ss h = (more ++ (c ∷ []), subst (λ (cs : List Call). History tr sr cs st ts ss) (append_assoc calls more (c ∷ [])) h)

  -- ---- the calls of one line
  abandon_led : (e : Entry) (ts : List TrainRow) (ss : List StopRow) → Led (Open e) ts ss → Led (Closed (abandon_answer e)) ts ss
  abandon_led e ts ss d = one_more d.0 abandons _ ts ss (abandon (calls ++ d.0) e ts ss d.1)

  after_finish_led : (k : ℕ) (r : Result Book (Refused Entry)) (ts : List TrainRow) (ss : List StopRow) → Led (finished r) ts ss → Led (state_left (after_finish k r)) ts ss
  after_finish_led k (Ok b) ts ss d = d
  after_finish_led k (Err r) ts ss d = abandon_led r.back ts ss d

  finishing_led : (k : ℕ) (e : Entry) (ts : List TrainRow) (ss : List StopRow) → Led (Open e) ts ss → LedToStage (finishing k e ts ss)
  finishing_led k e ts ss d = after_finish_led k (finish_answer e ts ss) _ ss (one_more d.0 finishes _ _ ss (finish (calls ++ d.0) e ts ss d.1))

  after_stop_led : (k : ℕ) (more : Bool) (r : Result Entry (Refused Entry)) (ts : List TrainRow) (ss : List StopRow) → Led (stopped r) ts ss → LedToStage (after_stop k more r ts ss)
  after_stop_led k true (Ok e) ts ss d = d
  after_stop_led k false (Ok e) ts ss d = finishing_led k e ts ss d
  after_stop_led k more (Err r) ts ss d = abandon_led r.back ts ss d

  stopping_led : (k : ℕ) (s : StopRow) (e : Entry) (ts : List TrainRow) (ss : List StopRow) → CallTyped (stops s) → Led (Open e) ts ss → LedToStage (stopping k s e ts ss)
  stopping_led k s e ts ss typed d = after_stop_led k (is_some s.depart) (stop_answer e ts ss s) ts _ (one_more d.0 (stops s) _ ts _ (stop (calls ++ d.0) e ts ss s typed d.1))

  after_begin_led : (k : ℕ) (s : StopRow) (r : Result Entry (Refused Book)) (ts : List TrainRow) (ss : List StopRow) → CallTyped (stops s) → Led (begun r) ts ss → LedToStage (after_begin k s r ts ss)
  after_begin_led k s (Ok e) ts ss typed d = stopping_led k s e ts ss typed d
  after_begin_led k s (Err r) ts ss typed d = d

  taking_led : (k : ℕ) (l : StopLine) (st : Stage) (ts : List TrainRow) (ss : List StopRow) → CallsTyped l → Led (state_of st) ts ss → LedToStage (taking k l st ts ss)
  taking_led k l (Between b) ts ss typed d =
      after_begin_led k l.stop (begin_answer b ts ss l.number l.code l.features) ts ss typed.stop
      (one_more d.0 (begins l.number l.code l.features) _ ts ss (begin (calls ++ d.0) b ts ss l.number l.code l.features typed.begin d.1))
  taking_led k l (Inside e) ts ss typed d = at_test (same_train e l) where
    at_test : (t : Bool) → LedToStage (cond t (stopping k l.stop e ts ss) (left (Err (misread (abandon_answer e) (differs k))) ts ss))
    at_test true = stopping_led k l.stop e ts ss typed.stop d
    at_test false = abandon_led e ts ss d

  -- ---- line after line
  book_led : (st : Stage) (ts : List TrainRow) (ss : List StopRow) → Led (state_of st) ts ss → Led (Closed (book_of st)) ts ss
  book_led (Between b) ts ss d = d
  book_led (Inside e) ts ss d = abandon_led e ts ss d

  after_saying_led : (k : ℕ) (r : Result StopLine Fault) (st : Stage) (ts : List TrainRow) (ss : List StopRow) → ((l : StopLine) → r ≡ Ok l → CallsTyped l) → Led (state_of st) ts ss → LedToStage (after_saying k r st ts ss)
  after_saying_led k (Ok l) st ts ss typed d = taking_led k l st ts ss (typed l refl) d
  after_saying_led k (Err f) st ts ss typed d = book_led st ts ss d

  ending_led : (k : ℕ) (st : Stage) (ts : List TrainRow) (ss : List StopRow) → Led (state_of st) ts ss → Led (Closed (book_left (ending k st))) ts ss
  ending_led k (Between b) ts ss d = d
  ending_led k (Inside e) ts ss d = abandon_led e ts ss d

  then_led : (r : Result Stage Misread) (ts : List TrainRow) (ss : List StopRow) (on : Stage → List TrainRow → List StopRow → Left Book)
      → ((st : Stage) → Led (state_of st) ts ss → LedToBook (on st ts ss)) → Led (state_left r) ts ss → LedToBook (then_on r ts ss on)
  then_led (Ok st) ts ss on go d = go st d
  then_led (Err m) ts ss on go d = d

  reading_led : (k : ℕ) (ls : List Line) (st : Stage) (ts : List TrainRow) (ss : List StopRow) → Led (state_of st) ts ss → LedToBook (reading k ls st ts ss)
  reading_led k [] st ts ss d = ending_led k st ts ss d
  reading_led k (l ∷ ls) st ts ss d =
      then_led _ _ _ (reading (suc k) ls) (λ st' d'. reading_led (suc k) ls st' _ _ d') (after_saying_led (suc k) (says (suc k) l) st ts ss (says_typed (suc k) l) d)

  -- ---- a whole text
  module _ (b : Book) (ts : List TrainRow) (ss : List StopRow) (d : Led (Closed b) ts ss) where
    from_names_led : (ls : List Line) → LedToBook (from_names ls b ts ss)
    from_names_led [] = d
    from_names_led (l ∷ ls) = at_test (is_names l) where
      at_test : (t : Bool) → LedToBook (cond t (reading 1 ls (Between b) ts ss) (left (Err (misread b wrong_names)) ts ss))
      at_test true = reading_led 1 ls (Between b) ts ss d
      at_test false = d

    unless_led : (o : Option Refusal) (reads : Left Book) → LedToBook reads → LedToBook (unless_refused o b ts ss reads)
    unless_led (Some r) reads h = d
    unless_led None reads h = h

    read_led : (text : List ℕ) → LedToBook (read text b ts ss)
    unfolding read
    read_led text = unless_led (check_refusal b ts ss) (from_names (lines text) b ts ss) (from_names_led (lines text))

pub reads_on : (text : List ℕ) (b : Book) (ts : List TrainRow) (ss : List StopRow) → ReadsOn text b ts ss (read text b ts ss).answer (read text b ts ss).trains (read text b ts ss).stops
reads_on text b ts ss tr sr calls h =
    read_led tr sr calls b ts ss ([], subst (λ (cs : List Call). History tr sr cs (Closed b) ts ss) (sym (append-nil calls)) h) text
