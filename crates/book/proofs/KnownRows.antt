-- What lent tables know of their rows: from call to call it stays true.
use Rattle.std.proofs.Common.{◌≡◌, ℕ, ◌+◌, true, false, eqb, List, length, take, drop, set, None, refl, sym, length-set}
use Rattle.std.proofs.lemmas.List.{take-set}
use Rattle.book.specs.declared.rows.StopRow.{StopRow}
use Rattle.book.specs.declared.rows.TrainRow.{TrainRow}
use Rattle.book.specs.declared.state.Book.{Book}
use Rattle.book.specs.declared.state.Entry.{Entry}
use Rattle.book.specs.Answers.{longer, finished_row}
use Rattle.book.specs.Refusals.{stop_refusal, finish_refusal}
use Rattle.book.specs.Stops.{in_order}
use Rattle.book.specs.Trains.{open_stops, holds}
use Rattle.book.proofs.Held.{entry_held}
use Rattle.book.proofs.KeptEntering.{stop_holds, finish_holds}

-- the book's rows, and so many stops behind them
pub record Known (b : Book) (taken : ℕ) (ts : List TrainRow) (ss : List StopRow) : Type 0 where
  pub held : holds b.trains b.stops ts ss ≡ true
  pub ordered : in_order None (take taken (drop b.stops ss)) ≡ true

-- what was known of the book and the stops of the entry e
pub known_order : (b : Book) (taken : ℕ) (e : Entry) (ss' ss : List StopRow) → in_order None (take taken (drop b.stops ss')) ≡ true → b ≡ e.book → e.taken ≡ taken → ss' ≡ ss
    → true ≡ in_order None (open_stops e ss)
known_order b taken e ss' ss o p q r = rw (← p, q, ← r) (sym o)

module _ (b : Book) (e : Entry) (ts ts' : List TrainRow) (ss ss' : List StopRow) where
  -- a stop is written, and one more is in order
  pub known_after_stop : (longer_one : Entry) (s : StopRow) → b ≡ e.book → longer_one ≡ longer e → ts' ≡ ts → ss' ≡ set ss (e.book.stops + e.taken) s → stop_refusal e ts ss s ≡ None
      → Known b longer_one.taken ts' ss'
  known_after_stop longer_one s p q r t passed =
      let k = entry_held (longer e) ts (set ss (e.book.stops + e.taken) s) (stop_holds e ts ss s passed) in
      rw (p, q, r, t) (record { held = k.book; ordered = k.taken_in_order })

  -- the row of a train is written that the book's rows do not count
  pub known_past_row : (taken : ℕ) → Known b taken ts ss → b ≡ e.book → ts' ≡ set ts e.book.trains (finished_row e) → ss' ≡ ss → Known b taken ts' ss'
  unfolding holds
  known_past_row taken k p q r =
      let same : take e.book.trains (set ts e.book.trains (finished_row e)) ≡ take e.book.trains ts = take-set ts e.book.trains (finished_row e) in
      let len : length (set ts e.book.trains (finished_row e)) ≡ length ts = length-set ts e.book.trains (finished_row e) in
      rw (q, r, p) (record { held = rw (same, len) (rw p at k.held); ordered = rw p at k.ordered })

  -- a train's row is written, and no stop behind it
  pub known_after_finish : b ≡ record { trains = e.book.trains + 1; stops = e.book.stops + e.taken } → ts' ≡ set ts e.book.trains (finished_row e) → ss' ≡ ss
      → eqb e.number 0 ≡ false → finish_refusal e ts ss ≡ None → Known b 0 ts' ss'
  known_after_finish p q r num passed = rw (p, q, r) (record { held = finish_holds e ts ss num passed; ordered = refl })
