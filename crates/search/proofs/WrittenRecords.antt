-- What is written in one record of a table.
use Rattle.std.proofs.Common.{◌≡◌, ℕ, ◌+◌, ◌*◌, ◌<◌, ◌≢◌, ◌⊎◌, List, length, get_or, set, Option, sym, refl, ap, ◌∙◌, inl, inr, add_assoc, arith, get_or-set_other, get_or-set_same}
use Rattle.connection.specs.declared.label.Label.{Label}
use Rattle.connection.specs.declared.ride.Shift.{Shift}
use Rattle.search.specs.Layers.{UnchangedBelow}
use Rattle.search.specs.Records.{blank, record_of, label_of}
use Rattle.search.specs.Working.{number, place, layer_at, part_at, label_at, label_in}
use Rattle.search.specs.declared.record.WorkRecord.{WorkRecord}
use Rattle.search.proofs.LabelsInRecords.{label_kept}

module _ {A : Type 0} (table : List (WorkRecord A)) (at : ℕ) (o : Option (Label A)) where
  pub written_same : (z : ℕ) → (z < at) ⊎ (at < z) → get_or (set table at (record_of o)) z blank ≡ get_or table z blank
  written_same z (inl h) = let ne : z ≢ at = omega arith in get_or-set_other table at z (record_of o) blank ne
  written_same z (inr h) = let ne : z ≢ at = omega arith in get_or-set_other table at z (record_of o) blank ne

  pub written_here : at < length table → label_at (set table at (record_of o)) at ≡ o
  written_here h = ap label_of (get_or-set_same table at (record_of o) blank h) ∙ label_kept o

pub unchanged_still : {A : Type 0} (b i : ℕ) (old new next : List (WorkRecord A)) (o : Option (Label A)) → UnchangedBelow b old new → next ≡ set new (b + i) (record_of o) → UnchangedBelow b old next
unchanged_still b i old new next o same e z h = ap (λ t. get_or t z blank) e ∙ written_same new (b + i) o z (inl (omega arith)) ∙ same z h

-- ---- the record of a row of a layer is written
module _ {A : Type 0} (size layer : ℕ) (s : Shift) (row at : ℕ) (at_is : at ≡ layer_at size layer + place size s row) (old new : List (WorkRecord A)) (o : Option (Label A)) (is_new : new ≡ set old at (record_of o)) where
  -- where the label of a row stands
  pub stands_at : (k x : ℕ) (s' : Shift) (row' : ℕ) → x ≡ place size s' row' → part_at size k s' + row' ≡ layer_at size k + x
  stands_at k x s' row' e = add_assoc (layer_at size k) (number s' * size) row' ∙ ap (λ y. layer_at size k + y) (sym e)

  -- the labels ahead are as they were
  pub kept_ahead : (k : ℕ) (s' : Shift) (row' : ℕ) → part_at size k s' + row' < at → label_in size new k s' row' ≡ label_in size old k s' row'
  kept_ahead k s' row' h =
      ap (λ t. label_at t (part_at size k s' + row')) is_new ∙ ap label_of (written_same old at o (part_at size k s' + row') (inl h))

  -- and this is the row's
  pub held_here : at < length old → label_in size new layer s row ≡ o
  held_here room =
      ap (label_at new) (stands_at layer (place size s row) s row refl ∙ sym at_is) ∙ ap (λ t. label_at t at) is_new ∙ written_here old at o room
