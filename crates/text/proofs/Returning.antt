-- Reading and writing undo each other: an accepted text comes back byte for byte, and a written book row by row.
use Rattle.std.proofs.Common.{◌≡◌, ℕ, ◌≤◌, true, ltb, List, [], ◌∷◌, ◌++◌, length, take, drop, Some, None, Ok, Option, Result, sym, refl, ap, ◌∙◌, subst, ap₂, arith}
use Rattle.std.specs.List.{flat_map}
use Rattle.std.proofs.Math.Seq.{take-append_seam}
use Rattle.std.proofs.lemmas.Bool.{le-ltb}
use Rattle.book.specs.Answers.{new_book, given_unless}
use Rattle.book.specs.Histories.{History, new, Closed, Lawful, RowsHold, EveryHistoryHolds, EveryRefusalAgrees, EveryHistoryIsLawful}
use Rattle.book.specs.PlainList.{Call, InForce, none_open, in_force}
use Rattle.book.specs.Reasons.{or_damaged}
use Rattle.book.specs.Rules.{SoundIsTheRules}
use Rattle.book.specs.Trains.{Train, listed, all_stops, holds, meaning}
use Rattle.book.specs.declared.refusal.Refusal.{Refusal as BookRefusal}
use Rattle.book.specs.declared.refusal.Refusal.TheVariants.{Damaged}
use Rattle.book.specs.declared.rows.StopRow.{StopRow}
use Rattle.book.specs.declared.rows.TrainRow.{TrainRow}
use Rattle.book.specs.declared.state.Book.{Book}
use Rattle.text.specs.Lines.{lines}
use Rattle.text.specs.Reading.{Left, left, reading, from_names, unless_refused, read}
use Rattle.text.specs.Returns.{ComesBack, BringsItsTrains, Restores}
use Rattle.text.specs.Writing.{write_fault, write_refusal, write, length_of, at_front, buffer_after}
use Rattle.text.specs.Written.{lines_of, text_of, AllTyped}
use Rattle.text.specs.declared.refusal.Refusal.{Refusal}
use Rattle.text.specs.declared.refusal.Refusal.TheVariants.{Book as Refused, ShortBuffer}
use Rattle.text.specs.declared.stage.Stage.TheVariants.{Between}
use Rattle.book.proofs.FirstReason.{no_reason}
use Rattle.book.proofs.Held.{held, length_listed, all_stops_held}
use Rattle.book.proofs.RefusedBy.{given}
use Rattle.text.proofs.Accepted.{LeadsTo, trains_read}
use Rattle.text.proofs.AlongCalls.{At, meaning_at, check_none}
use Rattle.text.proofs.Brought.{accepted_is_text}
use Rattle.text.proofs.ReadyToRead.{ready}
use Rattle.text.proofs.RowsAreTrains.{meaning_told, same_rows}
pub use Rattle.text.proofs.ReadingIsCalls.{reads_on}

-- ---- what is written
module _ (b : Book) (ts : List TrainRow) (ss : List StopRow) (room : ℕ) where
  -- of rows that mean trains it is their text, where that fits
  module _ (us : List Train) (m : meaning b.trains b.stops ts ss ≡ Some us) (fits : length (text_of us) ≤ room) where
    not_refused : write_refusal b ts ss room ≡ None
    unfolding write_refusal
    not_refused =
        ap (λ (o : Option (List Train)). or_damaged (Refused Damaged) o (λ (trains : List Train). write_fault trains room)) m
        ∙ no_reason ((ltb room (length (text_of us)), ShortBuffer) ∷ []) (le-ltb room (length (text_of us)) fits, tt)

    write_gives : write b ts ss room ≡ Ok (text_of us)
    unfolding write
    write_gives =
        ap (λ (r : Option Refusal). given_unless r (text_of (listed b.trains ts ss))) not_refused
        ∙ ap (λ (trains : List Train). Ok (text_of trains)) (meaning_told b.trains b.stops ts ss us m).1

  -- and nothing else is written
  write_gave : (text : List ℕ) → write b ts ss room ≡ Ok text → text ≡ text_of (listed b.trains ts ss)
  unfolding write
  write_gave text e = (given (write_refusal b ts ss room) _ text (sym e)).1

module _ (every : EveryHistoryHolds) (agrees : EveryRefusalAgrees) where
  -- after any history the trains in force are those that the book lists
  at_book : (tr sr : ℕ) (calls : List Call) (b : Book) (ts : List TrainRow) (ss : List StopRow) → History tr sr calls (Closed b) ts ss → At tr sr (none_open (listed b.trains ts ss)) (Closed b) ts ss
  at_book tr sr calls b ts ss h = record { calls = calls; history = h; force = same (in_force tr sr calls) (every tr sr calls (Closed b) ts ss h) } where
    same : (f : InForce) → RowsHold f (Closed b) ts ss → f ≡ none_open (listed b.trains ts ss)
    same f k = ap₂ (λ (us : List Train) (o : Option Train). record { trains = us; opened = o }) (sym (meaning_told b.trains b.stops ts ss f.trains k.0).1) k.1

  pub brings_its_trains : (text : List ℕ) (b : Book) (ts : List TrainRow) (ss : List StopRow)
      → BringsItsTrains text b ts ss (read text b ts ss).answer (read text b ts ss).trains (read text b ts ss).stops
  brings_its_trains text b ts ss tr sr calls after h e =
      let old = listed b.trains ts ss in
      let r = accepted_is_text every agrees tr sr old b ts ss (at_book tr sr calls b ts ss h) text after e in
      (r.0, meaning_at every agrees tr sr _ _ (old ++ r.0) after r.1, r.2)

  pub comes_back : (text : List ℕ) (b : Book) (ts : List TrainRow) (ss : List StopRow)
      → ComesBack text b ts ss (read text b ts ss).answer (read text b ts ss).trains (read text b ts ss).stops
  comes_back text b ts ss after buffer empty e fits =
      let ts' = (read text b ts ss).trains in
      let ss' = (read text b ts ss).stops in
      let h = subst (λ (x : Book). History (length ts) (length ss) [] (Closed x) ts ss) (sym empty) (new ts ss refl refl) in
      let r = brings_its_trains text b ts ss (length ts) (length ss) [] after h e in
      let none : listed b.trains ts ss ≡ [] = ap (λ (x : Book). listed x.trains ts ss) empty in
      let m : meaning after.trains after.stops ts' ss' ≡ Some r.0 = r.1 ∙ ap (λ (us : List Train). Some (us ++ r.0)) none in
      let w : write after ts' ss' (length buffer) ≡ Ok text = write_gives after ts' ss' (length buffer) r.0 m (omega (arith, ap length r.2)) ∙ ap Ok (sym r.2) in
      (ap length_of w, ap (λ (x : Result (List ℕ) Refusal). buffer_after x buffer) w)

  -- ---- a written book
  module _ (lawful : EveryHistoryIsLawful) (rule : SoundIsTheRules) where
    -- the answer is the book b, whose rows in use are there
    abbrev Gives : Left Book → Book → List TrainRow → List StopRow → Type 0
    Gives r b ts ss = (r.answer ≡ Ok b) × (take b.trains r.trains ≡ take b.trains ts) × (take b.stops r.stops ≡ take b.stops ss)

    gives : (c b : Book) (ts' ts : List TrainRow) (ss' ss : List StopRow) → (c.trains ≡ b.trains) × (c.stops ≡ b.stops) × (take c.trains ts' ≡ take b.trains ts) × (take c.stops ss' ≡ take b.stops ss)
        → Gives (left (Ok c) ts' ss') b ts ss
    gives c b ts' ts ss' ss h = (
      ap Ok (ap₂ (λ (t s : ℕ). record { trains = t; stops = s }) h.0 h.1),
      ap (λ (k : ℕ). take k ts') (sym h.0) ∙ h.2,
      ap (λ (k : ℕ). take k ss') (sym h.1) ∙ h.3,
    )

    -- an empty book reads the text of lawful trains
    module _ (us : List Train) (law : Lawful us) (typed : AllTyped us) (rows : List TrainRow) (stops : List StopRow) (trains_fit : length us ≤ length rows) (stops_fit : all_stops us ≤ length stops) where
      at_new : At (length rows) (length stops) (none_open []) (Closed new_book) rows stops
      at_new = at_book (length rows) (length stops) [] new_book rows stops (new rows stops refl refl)

      leads : LeadsTo every agrees (length rows) (length stops) (reading 1 (lines (flat_map lines_of us)) (Between new_book) rows stops) [] us
      leads =
          trains_read every agrees (length rows) (length stops) us [] 1 new_book rows stops at_new
          (ready every agrees rule (length rows) (length stops) us [] law.rules law.distinct typed)
          (record { few_trains = omega (arith, law.not_many); train_rows = omega arith; few_stops = omega (arith, law.not_many_stops); stop_rows = omega arith })

      text_read : read (text_of us) new_book rows stops ≡ left (Ok leads.book) leads.rows leads.stop_rows
      unfolding read
      text_read =
          ap (λ (o : Option BookRefusal). unless_refused o new_book rows stops (from_names (lines (text_of us)) new_book rows stops)) (check_none every agrees _ _ rows stops [] new_book at_new)
          ∙ leads.same

      text_gives : (b : Book) (ts : List TrainRow) (ss : List StopRow) → holds b.trains b.stops ts ss ≡ true → listed b.trains ts ss ≡ us → Gives (read (text_of us) new_book rows stops) b ts ss
      text_gives b ts ss h same =
          let there = meaning_told _ _ leads.rows leads.stop_rows us (meaning_at every agrees _ _ leads.rows leads.stop_rows us leads.book leads.at) in
          subst (λ (x : Left Book). Gives x b ts ss) (sym text_read)
          (gives leads.book b leads.rows ts leads.stop_rows ss (same_rows _ _ _ _ leads.rows ts leads.stop_rows ss there.0 h (there.1 ∙ sym same)))

    front_back : (text buffer : List ℕ) (n : ℕ) → n ≡ length text → take n (at_front text buffer) ≡ text
    front_back text buffer n e = rw e (take-append_seam text (drop (length text) buffer))

    pub restores : (b : Book) (ts : List TrainRow) (ss : List StopRow) (room : ℕ) (text buffer : List ℕ) → AllTyped (listed b.trains ts ss) → write b ts ss room ≡ Ok text
        → Restores b ts ss (Ok (length text)) (at_front text buffer)
    restores b ts ss room text buffer typed w rows_room stops_room calls n rows stops h e trains_fit stops_fit =
        let us = listed b.trains ts ss in
        let a = at_book rows_room stops_room calls b ts ss h in
        let m = meaning_at every agrees rows_room stops_room ts ss us b a in
        let k = (meaning_told b.trains b.stops ts ss us m).0 in
        let law = subst (λ (f : InForce). Lawful f.trains) a.force (lawful rows_room stops_room a.calls (Closed b) ts ss a.history) in
        let back = front_back text buffer n (let z : n ≡ length text = cc in z) ∙ write_gave b ts ss room text w in
        subst (λ (x : List ℕ). Gives (read x new_book rows stops) b ts ss) (sym back)
        (text_gives us law typed rows stops (omega (arith, length_listed b.trains ts ss (held b.trains b.stops ts ss k).trains_fit)) (omega (arith, all_stops_held b.trains b.stops ts ss k)) b ts ss k refl)
