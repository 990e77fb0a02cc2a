-- A record that holds a label has its numbers, and so tells who changed from it.
use Rattle.connection.specs.Rides.{ride}
use Rattle.std.proofs.Common.{◌≡◌, ℕ, suc, ◌+◌, ◌*◌, ◌<◌, List, [], ◌∷◌, ◌++◌, length, get_or, Some, None, Option, sym, refl, ap, ◌∙◌, subst, add_assoc}
use Rattle.book.specs.Answers.{train_row}
use Rattle.connection.specs.declared.label.Label.{Label}
use Rattle.connection.specs.declared.ride.Ride.{Ride}
use Rattle.connection.specs.declared.ride.Shift.{Shift}
use Rattle.search.specs.Layers.{label_of_run, row_of, Trail}
use Rattle.search.specs.Records.{blank, record_of, label_of}
use Rattle.search.specs.Working.{size_of, number, place, layer_at, part_at}
use Rattle.search.specs.declared.inquiry.Inquiry.{Inquiry}
use Rattle.search.specs.declared.record.WorkRecord.{WorkRecord}

module _ {A : Type 0} where
  -- what the label is made of
  abbrev made_of : WorkRecord A → Option A → Option (Label A)
  made_of r o = elim o [ Some t ↦ Some (record { total = t; board = r.board; from = r.from }) | None ↦ None ]

  board_of : (r : WorkRecord A) (l : Label A) (o : Option A) → made_of r o ≡ Some l → r.board ≡ l.board
  board_of r l None e = cc
  board_of r l (Some t) e = ap (λ (x : Option (Label A)). elim x [ Some y ↦ y.board | None ↦ r.board ]) e

  from_of : (r : WorkRecord A) (l : Label A) (o : Option A) → made_of r o ≡ Some l → r.from ≡ l.from
  from_of r l None e = cc
  from_of r l (Some t) e = ap (λ (x : Option (Label A)). elim x [ Some y ↦ y.from | None ↦ r.from ]) e

  pub label_board : (r : WorkRecord A) (l : Label A) → label_of r ≡ Some l → r.board ≡ l.board
  label_board r l e = board_of r l r.total e

  pub label_from : (r : WorkRecord A) (l : Label A) → label_of r ≡ Some l → r.from ≡ l.from
  label_from r l e = from_of r l r.total e

  -- what was written is read
  pub label_kept : (o : Option (Label A)) → label_of (record_of o) ≡ o
  label_kept (Some l) = refl
  label_kept None = refl

-- who is on board with the label at a place, and changes there, has made the rides before it and this one
pub trail_goes_on : {P A : Type 0} (inquiry : Inquiry P) (table : List (WorkRecord A)) (k n : ℕ) (s : Shift) (i : ℕ) (l : Label A) (rides : List Ride) → n < length inquiry.trains.now → i < (train_row n inquiry.trains.now).count → label_of_run inquiry table k n s i ≡ Some l → Trail inquiry table k l.from rides → Trail inquiry table (suc k) (place (size_of inquiry) s (row_of inquiry.trains.now n i)) (rides ++ (ride n s l.board i ∷ []))
trail_goes_on inquiry table k n s i l rides ln li e t =
    let size = size_of inquiry in
    let row = row_of inquiry.trains.now n i in
    let spot = place size s row in
    let r = get_or table (part_at size k s + row) blank in
    let same : get_or table (layer_at size k + spot) blank ≡ r = ap (λ x. get_or table x blank) (sym (add_assoc (layer_at size k) (number s * size) row)) in
    let from : l.from ≡ (get_or table (layer_at size k + spot) blank).from = sym (ap (λ (x : WorkRecord _). x.from) same ∙ label_from r l e) in
    let board : l.board ≡ (get_or table (layer_at size k + spot) blank).board = sym (ap (λ (x : WorkRecord _). x.board) same ∙ label_board r l e) in
    (n, s, i, record { in_force = ln; on_the_train = li; is = refl }, rides, subst (λ (f : ℕ). Trail inquiry table k f rides) from t, ap (λ b. rides ++ (ride n s b i ∷ [])) board)
