-- What is kept from call to call: the rows hold, and hold the trains in force.
use Rattle.std.proofs.Common.{◌≡◌, ℕ, true, false, eqb, List, [], ◌∷◌, ◌++◌, length, refl}
use Rattle.book.specs.declared.rows.StopRow.{StopRow}
use Rattle.book.specs.declared.rows.TrainRow.{TrainRow}
use Rattle.book.specs.declared.state.Book.{Book}
use Rattle.book.specs.declared.state.Entry.{Entry}
use Rattle.book.specs.Trains.{listed, open_train, holds, entry_holds}
use Rattle.book.specs.Answers.{new_book}
use Rattle.book.proofs.Held.{none_held}
use Rattle.book.specs.Histories.{State, Closed, Open}
use Rattle.book.specs.PlainList.{Call, InForce, none_open, with_open, advance, after}

pub record ClosedKept (tr sr : ℕ) (f : InForce) (b : Book) (ts : List TrainRow) (ss : List StopRow) : Type 0 where
  pub train_rows : length ts ≡ tr
  pub stop_rows : length ss ≡ sr
  pub whole : holds b.trains b.stops ts ss ≡ true
  pub same : f ≡ none_open (listed b.trains ts ss)

pub record OpenKept (tr sr : ℕ) (f : InForce) (e : Entry) (ts : List TrainRow) (ss : List StopRow) : Type 0 where
  pub train_rows : length ts ≡ tr
  pub stop_rows : length ss ≡ sr
  pub whole : entry_holds e ts ss ≡ true
  pub numbered : eqb e.number 0 ≡ false
  pub same : f ≡ with_open (listed e.book.trains ts ss) (open_train e ss)

abbrev pub Kept : ℕ → ℕ → InForce → State → List TrainRow → List StopRow → Type 0
Kept tr sr f (Closed b) ts ss = ClosedKept tr sr f b ts ss
Kept tr sr f (Open e) ts ss = OpenKept tr sr f e ts ss

abbrev pub next : ℕ → ℕ → InForce → Call → InForce
next tr sr f c = advance tr sr f.trains f.opened c

pub after_one_more : (tr sr : ℕ) (f : InForce) (cs : List Call) (c : Call) → after tr sr f (cs ++ (c ∷ [])) ≡ next tr sr (after tr sr f cs) c
after_one_more tr sr f [] c = refl
after_one_more tr sr f (d ∷ cs) c = after_one_more tr sr (next tr sr f d) cs c

pub new_kept : (ts : List TrainRow) (ss : List StopRow) → Kept (length ts) (length ss) (none_open []) (Closed new_book) ts ss
new_kept ts ss = record { train_rows = refl; stop_rows = refl; whole = none_held ts ss; same = refl }
