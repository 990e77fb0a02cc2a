-- A run that is filled to its end is a part of its layer.
use Rattle.std.proofs.Common.{◌≡◌, ℕ, ◌+◌, ◌-◌, ◌*◌, ◌<◌, ◌≤◌, Bool, true, false, List, length, None, Option, sym, ap, ◌∙◌, subst, add_assoc, arith}
use Rattle.tariff.specs.Meaning.{Meaning}
use Rattle.book.specs.Answers.{train_row}
use Rattle.book.specs.declared.rows.StopRow.{StopRow}
use Rattle.book.specs.declared.rows.TrainRow.{TrainRow}
use Rattle.connection.specs.declared.label.Label.{Label}
use Rattle.connection.specs.declared.ride.Shift.{Shift}
use Rattle.search.specs.Ends.{known_total, Known}
use Rattle.search.specs.Layers.{row_of, Holds, UnchangedBelow, BlankFrom, NoLabelBetween, SettledBetween, Fills, RunAsked, run_begins, run_ends}
use Rattle.search.specs.Notes.{Noted}
use Rattle.search.specs.Working.{number, place, layer_at, part_at, label_at, label_in, size_of}
use Rattle.search.specs.declared.inquiry.Inquiry.{Inquiry}
use Rattle.search.specs.declared.reached.Reached.{Reached}
use Rattle.search.specs.declared.record.WorkRecord.{WorkRecord}
use Rattle.search.proofs.Basis.{Basis}
use Rattle.search.proofs.BlankRecords.{blank_less}
use Rattle.search.proofs.RowsAreTrains.{fits, same_row, same_place}
use Rattle.search.proofs.FillingRuns.{FilledTo, When, start_is}

module _ {P A : Type 0} (m : Meaning A) (inquiry : Inquiry P) (layer n : ℕ) (s : Shift) (before : Reached A) (basis : Basis m) (ln : n < length inquiry.trains.now) where
  abbrev rows : List TrainRow
  rows = inquiry.trains.now

  abbrev stops : List StopRow
  stops = inquiry.stops.now

  abbrev size : ℕ
  size = size_of inquiry

  abbrev first : ℕ
  first = (train_row n rows).first

  abbrev count : ℕ
  count = (train_row n rows).count

  abbrev start : ℕ
  start = part_at size layer s + first

  abbrev At : List (WorkRecord A) → List (WorkRecord A) → ℕ → Bool → Option (Label A) → Reached A → Type 0
  At = FilledTo m inquiry layer n s before

  -- a place between the run's first and last is one of its stops
  pub of_the_run : (P : ℕ → Shift → ℕ → Type 0) (n' : ℕ) (s' : Shift) (i' : ℕ) → n' < length rows → i' < (train_row n' rows).count → place size s first ≤ place size s' (row_of rows n' i') → place size s' (row_of rows n' i') < place size s (row_of rows n count) → ((i : ℕ) → i < count → P n s i) → P n' s' i'
  of_the_run P n' s' i' ln' li' low high all =
      let mine = fits rows stops inquiry.ordered n ln in
      let its = fits rows stops inquiry.ordered n' ln' in
      let x = place size s' (row_of rows n' i') in
      let i = x - place size s first in
      let li : i < count = omega arith in
      let same = same_place s s' size (row_of rows n i) (row_of rows n' i') (omega arith) (omega arith) (omega arith) in
      let who = same_row rows stops inquiry.ordered n i n' i' ln li ln' li' same.1 in
      subst (λ (k : ℕ). P k s' i') who.0 (subst (λ (t : Shift). P n t i') same.0 (subst (P n s) who.1 (all i li)))

  module _ (old new : List (WorkRecord A)) (found : Bool) (aboard : Option (Label A)) (now : Reached A) (state : At old new count found aboard now) where
    run_unchanged : UnchangedBelow (layer_at size layer + place size s first) old new
    run_unchanged z h = state.unchanged z (omega (arith, add_assoc (layer_at size layer) (number s * size) first))

    row_label : (i : ℕ) → label_at new (start + i) ≡ label_in size new layer s (row_of rows n i)
    row_label i = ap (label_at new) (add_assoc (part_at size layer s) first i)

    run_nothing : found ≡ false → NoLabelBetween inquiry new layer (place size s first) (place size s (row_of rows n count))
    run_nothing e n' s' i' ln' li' low high =
        of_the_run (λ k t j. label_in size new layer t (row_of rows k j) ≡ None) n' s' i' ln' li' low high (λ i li. sym (row_label i) ∙ state.nothing e i li)

    run_settled : When m inquiry layer n s before (λ runs. SettledBetween m inquiry runs (known_total now.end) old new layer (place size s first) (place size s (row_of rows n count))) old
    run_settled runs may filled n' s' i' ln' li' low high =
        of_the_run (λ k t j. Holds m inquiry runs (known_total now.end) old layer k t j (label_in size new layer t (row_of rows k j))) n' s' i' ln' li' low high
        (λ i li. subst (Holds m inquiry runs (known_total now.end) old layer n s i) (row_label i) (state.settled runs may filled i li))

    run_known : Known m inquiry old (layer_at size layer + place size s first) before.end → Known m inquiry new (layer_at size layer + place size s (row_of rows n count)) now.end
    run_known h =
        let end : start + count ≡ layer_at size layer + place size s (row_of rows n count) = omega (arith, start_is m inquiry layer n s before, add_assoc (number s * size) first count) in
        subst (λ (x : ℕ). Known m inquiry new x now.end) end (state.known_end h)

    run_blank : BlankFrom (layer_at size layer + place size s (row_of rows n count)) new
    run_blank = blank_less (start + count) (layer_at size layer + place size s (row_of rows n count)) new (omega (arith, start_is m inquiry layer n s before, add_assoc (number s * size) first count)) state.blank

    run_noted : Noted m size old layer (place size s first) before.notes → Noted m size new layer (place size s (row_of rows n count)) now.notes
    run_noted h = subst (λ (x : ℕ). Noted m size new layer x now.notes) (add_assoc (number s * size) first count) (state.noted h)

    pub fills_run : Fills m inquiry layer (RunAsked inquiry n s true) old new (run_begins inquiry n s) (run_ends inquiry n s) found before now
    fills_run = record { unchanged = run_unchanged; blank = λ h. run_blank; nothing = run_nothing; known = run_known; no_dearer = state.no_dearer; noted = run_noted; settled = run_settled }
