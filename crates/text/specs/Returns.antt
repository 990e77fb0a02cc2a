-- What reading and writing have to do with each other: each undoes the other.
use Rattle.std.specs.Prelude.{◌≡◌, ℕ, ◌≤◌, List, ◌++◌, length, take, Some, Ok, Result}
use Rattle.book.specs.Answers.{new_book}
use Rattle.book.specs.Histories.{History, Closed}
use Rattle.book.specs.PlainList.{Call}
use Rattle.book.specs.Trains.{Train, listed, meaning}
use Rattle.book.specs.declared.rows.StopRow.{StopRow}
use Rattle.book.specs.declared.rows.TrainRow.{TrainRow}
use Rattle.book.specs.declared.state.Book.{Book}
use Rattle.text.specs.Reading.{read, book_left}
use Rattle.text.specs.Writing.{write, length_of, at_front, buffer_after}
use Rattle.text.specs.Written.{text_of}
use Rattle.text.specs.declared.fault.Misread.{Misread}
use Rattle.text.specs.declared.refusal.Refusal.{Refusal}

-- ---- of reading a text into the book b, with the tables `ts` and `ss`; `r`, `ts'` and `ss'` are what came of it
module _ (text : List ℕ) (b : Book) (ts : List TrainRow) (ss : List StopRow) (r : Result Book Misread) (ts' : List TrainRow) (ss' : List StopRow) where
  -- an accepted text comes back byte for byte: if it was read into an empty book, then whatever buffer is long enough,
  -- writing the book into it gives just the text
  abbrev pub ComesBack : Type 0
  ComesBack =
      (after : Book) (buffer : List ℕ) → b ≡ new_book → r ≡ Ok after → length text ≤ length buffer
      → (length_of (write after ts' ss' (length buffer)) ≡ Ok (length text)) × (buffer_after (write after ts' ss' (length buffer)) buffer ≡ at_front text buffer)

  -- an accepted text is the text of just the trains that it brought: they stand behind those that the book had
  abbrev pub BringsItsTrains : Type 0
  BringsItsTrains =
      (tr sr : ℕ) (calls : List Call) (after : Book) → History tr sr calls (Closed b) ts ss → r ≡ Ok after
      → (brought : List Train) × (meaning after.trains after.stops ts' ss' ≡ Some (listed b.trains ts ss ++ brought)) × (text ≡ text_of brought)

  -- some calls lead from any history ahead of the reading to the book that it leaves, after a fault too
  abbrev pub ReadsOn : Type 0
  ReadsOn = (tr sr : ℕ) (calls : List Call) → History tr sr calls (Closed b) ts ss → (more : List Call) × History tr sr (calls ++ more) (Closed (book_left r)) ts' ss'

-- ---- of writing the book b; `r` and `buffer` are what came of it
-- what was written of a book that calls have built is accepted, by an empty book whose tables are long enough, and gives
-- the same book and the same rows in use
abbrev pub Restores : Book → List TrainRow → List StopRow → Result ℕ Refusal → List ℕ → Type 0
Restores b ts ss r buffer =
    (tr sr : ℕ) (calls : List Call) (n : ℕ) (rows : List TrainRow) (stops : List StopRow) → History tr sr calls (Closed b) ts ss → r ≡ Ok n
    → b.trains ≤ length rows → b.stops ≤ length stops
    → ((read (take n buffer) new_book rows stops).answer ≡ Ok b)
    × (take b.trains (read (take n buffer) new_book rows stops).trains ≡ take b.trains ts)
    × (take b.stops (read (take n buffer) new_book rows stops).stops ≡ take b.stops ss)
