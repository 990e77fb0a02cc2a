-- What reading a text into a book does, line by line and call by call.
use Rattle.std.specs.Prelude.{ℕ, suc, Bool, true, false, cond, ◌&&◌, List, [], ◌∷◌, is_some, Some, None, Ok, Err, Option, Result, ◌==◌, bytes_eq}
use Rattle.book.specs.Answers.{begin_answer, stop_answer, stop_rows, finish_answer, finish_rows, abandon_answer, abandoned}
use Rattle.book.specs.Refusals.{check_refusal}
use Rattle.book.specs.declared.refusal.Refusal.{Refusal}
use Rattle.book.specs.declared.refusal.Refusal.TheVariants.{Unfinished}
use Rattle.book.specs.declared.refusal.Refused.{Refused}
use Rattle.book.specs.declared.rows.StopRow.{StopRow}
use Rattle.book.specs.declared.rows.TrainRow.{TrainRow}
use Rattle.book.specs.declared.state.Book.{Book}
use Rattle.book.specs.declared.state.Entry.{Entry}
use Rattle.text.specs.Faults.{wrong_names, differs, refused, misread}
use Rattle.text.specs.Lines.{Line, whole, cut_off, lines}
use Rattle.text.specs.Saying.{says}
use Rattle.text.specs.Written.{names}
use Rattle.text.specs.declared.fault.Fault.{Fault}
use Rattle.text.specs.declared.fault.Misread.{Misread}
use Rattle.text.specs.declared.stage.Stage.{Stage}
use Rattle.text.specs.declared.stage.Stage.TheVariants.{Between, Inside}
use Rattle.text.specs.declared.stop_line.StopLine.{StopLine}

-- what a part of the text leads to: an answer, and the two tables as it leaves them
pub record Left (A : Type 0) : Type 0 where
  pub answer : Result A Misread
  pub trains : List TrainRow
  pub stops : List StopRow

abbrev pub left : {A : Type 0} → Result A Misread → List TrainRow → List StopRow → Left A
left answer ts ss = record { answer = answer; trains = ts; stops = ss }

-- where a part is read without a fault, the next begins with what it left
abbrev pub then_on : {A B : Type 0} → Result A Misread → List TrainRow → List StopRow → (A → List TrainRow → List StopRow → Left B) → Left B
then_on (Ok a) ts ss on = on a ts ss
then_on (Err m) ts ss on = left (Err m) ts ss

abbrev pub after_part : {A B : Type 0} → Left A → (A → List TrainRow → List StopRow → Left B) → Left B
after_part part on = then_on part.answer part.trains part.stops on

-- ---- the calls of the line k
-- a book refuses the call of this line
abbrev pub refused_at : ℕ → Refused Book → Misread
refused_at k r = misread r.back (refused k r.refusal)

-- the train ends with this line
abbrev pub after_finish : ℕ → Result Book (Refused Entry) → Result Stage Misread
after_finish k (Ok b) = Ok (Between b)
after_finish k (Err r) = Err (refused_at k (abandoned r))

abbrev pub finishing : ℕ → Entry → List TrainRow → List StopRow → Left Stage
finishing k e ts ss = left (after_finish k (finish_answer e ts ss)) (finish_rows e ts ss) ss

-- the line's stop; the train goes on where it has a departure
abbrev pub after_stop : ℕ → Bool → Result Entry (Refused Entry) → List TrainRow → List StopRow → Left Stage
after_stop k true (Ok e) ts ss = left (Ok (Inside e)) ts ss
after_stop k false (Ok e) ts ss = finishing k e ts ss
after_stop k more (Err r) ts ss = left (Err (refused_at k (abandoned r))) ts ss

abbrev pub stopping : ℕ → StopRow → Entry → List TrainRow → List StopRow → Left Stage
stopping k s e ts ss = after_stop k (is_some s.depart) (stop_answer e ts ss s) ts (stop_rows e ts ss s)

-- a train begins with this line
abbrev pub after_begin : ℕ → StopRow → Result Entry (Refused Book) → List TrainRow → List StopRow → Left Stage
after_begin k s (Ok e) ts ss = stopping k s e ts ss
after_begin k s (Err r) ts ss = left (Err (refused_at k r)) ts ss

abbrev pub same_train : Entry → StopLine → Bool
same_train e l = l.number == e.number && l.code == e.code && l.features == e.features

abbrev pub taking : ℕ → StopLine → Stage → List TrainRow → List StopRow → Left Stage
taking k l (Between b) ts ss = after_begin k l.stop (begin_answer b ts ss l.number l.code l.features) ts ss
taking k l (Inside e) ts ss = cond (same_train e l) (stopping k l.stop e ts ss) (left (Err (misread (abandon_answer e) (differs k))) ts ss)

-- ---- line after line
-- the book with the trains that are finished; an open one is abandoned
abbrev pub book_of : Stage → Book
book_of (Between b) = b
book_of (Inside e) = abandon_answer e

abbrev pub after_saying : ℕ → Result StopLine Fault → Stage → List TrainRow → List StopRow → Left Stage
after_saying k (Ok l) st ts ss = taking k l st ts ss
after_saying k (Err f) st ts ss = left (Err (misread (book_of st) f)) ts ss

-- the text ends behind the line k
abbrev pub ending : ℕ → Stage → Result Book Misread
ending k (Between b) = Ok b
ending k (Inside e) = Err (misread (abandon_answer e) (refused k Unfinished))

-- the lines behind the line k
abbrev pub reading : ℕ → List Line → Stage → List TrainRow → List StopRow → Left Book
reading k [] st ts ss = left (ending k st) ts ss
reading k (l ∷ ls) st ts ss = after_part (after_saying (suc k) (says (suc k) l) st ts ss) (reading (suc k) ls)

-- ---- a whole text
abbrev pub is_names : Line → Bool
is_names (whole l) = bytes_eq l names
is_names (cut_off l) = false

abbrev pub from_names : List Line → Book → List TrainRow → List StopRow → Left Book
from_names [] b ts ss = left (Err (misread b wrong_names)) ts ss
from_names (l ∷ ls) b ts ss = cond (is_names l) (reading 1 ls (Between b) ts ss) (left (Err (misread b wrong_names)) ts ss)

-- the tables are looked over before any line
abbrev pub unless_refused : Option Refusal → Book → List TrainRow → List StopRow → Left Book → Left Book
unless_refused (Some r) b ts ss reads = left (Err (misread b (refused 0 r))) ts ss
unless_refused None b ts ss reads = reads

unfoldable pub read : List ℕ → Book → List TrainRow → List StopRow → Left Book
read text b ts ss = unless_refused (check_refusal b ts ss) b ts ss (from_names (lines text) b ts ss)

-- the book that is left, after a fault too
abbrev pub book_left : Result Book Misread → Book
book_left (Ok b) = b
book_left (Err m) = m.book
