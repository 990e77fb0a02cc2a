-- A layer that is filled run by run settles its stops.
use Rattle.std.proofs.Common.{◌≡◌, ℕ, zero, suc, ◌+◌, ◌*◌, ◌<◌, ◌≤◌, Bool, false, ◌||◌, ◌⊎◌, List, get_or, None, Option, sym, refl, ap, ◌∙◌, subst, inl, inr, add_assoc, add-one, arith}
use Rattle.std.proofs.lemmas.Bool.{cases_lt}
use Rattle.tariff.specs.Meaning.{Meaning}
use Rattle.calendar.specs.Pairs.{Pairs}
use Rattle.connection.specs.Shifts.{all_shifts}
use Rattle.connection.specs.declared.label.Label.{Label}
use Rattle.connection.specs.declared.ride.Shift.{Shift}
use Rattle.connection.specs.declared.ride.Shift.TheVariants.{DayBefore}
use Rattle.search.specs.Ends.{known_total, Known}
use Rattle.search.specs.Layers.{row_of, Holds, Filled, UnchangedBelow, BlankFrom, Fills}
use Rattle.search.specs.Records.{label_of}
use Rattle.search.specs.Working.{number, place, layer_at, part_at, label_in, size_of}
use Rattle.search.specs.declared.inquiry.Inquiry.{Inquiry}
use Rattle.search.specs.declared.reached.Reached.{Reached}
use Rattle.search.specs.declared.record.WorkRecord.{WorkRecord}
use Rattle.search.specs.Limits.{layer_size}
use Rattle.search.proofs.BlankRecords.{blank_less}
use Rattle.search.proofs.FillingRuns.{or_none}
use Rattle.search.proofs.Layering.{next_layer}
use Rattle.search.proofs.RowsAreTrains.{fits, place_below}
use Rattle.search.proofs.Unchanged.{unchanged_sym, unchanged_then, holds_same, filled_same, holds_still, filled_still}

module _ {P A : Type 0} {m : Meaning A} (inquiry : Inquiry P) {layer : ℕ} where
  pub fills_none : {May : Pairs → Type 0} {table : List (WorkRecord A)} {x : ℕ} {known : Reached A} → Fills m inquiry layer May table table x x false known known
  fills_none =
      record {
        unchanged = λ z h. refl;
        blank = λ h. h;
        nothing = λ e n s i ln li low high. absurd (omega arith);
        known = λ h. h;
        no_dearer = λ t h. h;
        noted = λ h. h;
        settled = λ runs may filled n s i ln li low high. absurd (omega arith);
      }

  module _ {May May' : Pairs → Type 0} {old mid new : List (WorkRecord A)} {x y z : ℕ} {found found' : Bool} {before between after : Reached A} (a : Fills m inquiry layer May old mid x y found before between) (b : Fills m inquiry layer May' mid new y z found' between after) (so : (runs : Pairs) → May runs → May' runs) (order : x ≤ y) where
    below : UnchangedBelow (layer_at (size_of inquiry) layer) old mid
    below w h = a.unchanged w (omega arith)

    label_kept : (s : Shift) (row : ℕ) → place (size_of inquiry) s row < y → label_in (size_of inquiry) new layer s row ≡ label_in (size_of inquiry) mid layer s row
    label_kept s row h = ap label_of (b.unchanged (part_at (size_of inquiry) layer s + row) (omega (arith, add_assoc (layer_at (size_of inquiry) layer) (number s * size_of inquiry) row)))

    -- what both parts say of their labels, the whole says
    of_both : (P : ℕ → Shift → ℕ → Option (Label A) → Type 0) (n : ℕ) (s : Shift) (i : ℕ) → (place (size_of inquiry) s (row_of inquiry.trains.now n i) < y → P n s i (label_in (size_of inquiry) mid layer s (row_of inquiry.trains.now n i))) → (y ≤ place (size_of inquiry) s (row_of inquiry.trains.now n i) → P n s i (label_in (size_of inquiry) new layer s (row_of inquiry.trains.now n i))) → P n s i (label_in (size_of inquiry) new layer s (row_of inquiry.trains.now n i))
    of_both P n s i low high = go (cases_lt (place (size_of inquiry) s (row_of inquiry.trains.now n i)) y)
      where
        go : ((place (size_of inquiry) s (row_of inquiry.trains.now n i) < y) ⊎ (y ≤ place (size_of inquiry) s (row_of inquiry.trains.now n i))) → P n s i (label_in (size_of inquiry) new layer s (row_of inquiry.trains.now n i))
        go (inl h) = subst (P n s i) (sym (label_kept s (row_of inquiry.trains.now n i) h)) (low h)
        go (inr h) = high h

    pub fills_then : Fills m inquiry layer May old new x z (found || found') before after
    fills_then =
        record {
          unchanged = unchanged_then (layer_at (size_of inquiry) layer + x) (layer_at (size_of inquiry) layer + y) old mid new (omega arith) a.unchanged b.unchanged;
          blank = λ h. b.blank (a.blank h);
          nothing = λ e n s i ln li low high.
              let none = or_none found found' e in
              of_both (λ n s i o. o ≡ None) n s i (λ h. a.nothing none.0 n s i ln li low h) (λ h. b.nothing none.1 n s i ln li h high);
          known = λ h. b.known (a.known h);
          no_dearer = λ t h. b.no_dearer t (a.no_dearer t h);
          noted = λ h. b.noted (a.noted h);
          settled = λ runs may filled n s i ln li low high.
              let earlier = filled_still m inquiry runs before.end between.end a.no_dearer layer old filled in
              of_both (λ n s i o. Holds m inquiry runs (known_total after.end) old layer n s i o) n s i
              (λ h. holds_still m inquiry runs between.end after.end b.no_dearer layer n s i _ old (a.settled runs may filled n s i ln li low h))
              (λ h. holds_same m inquiry runs (known_total after.end) layer n s i (label_in (size_of inquiry) new layer s (row_of inquiry.trains.now n i)) mid old (unchanged_sym (layer_at (size_of inquiry) layer) old mid below)
              (b.settled runs (so runs may) (filled_same m inquiry runs (known_total between.end) layer old mid below earlier) n s i ln li h high));
        }

  -- a whole layer more
  pub filled_layer : {May : Pairs → Type 0} {old new : List (WorkRecord A)} {found : Bool} {before after : Reached A} → Fills m inquiry layer May old new 0 (layer_size (size_of inquiry)) found before after → (runs : Pairs) → May runs → Filled m inquiry runs (known_total before.end) old layer → Filled m inquiry runs (known_total after.end) new (layer + 1)
  filled_layer {May} {old} {new} {found} {before} {after} fills runs may filled k n s i lk ln li = go (cases_lt k layer)
    where
      same : UnchangedBelow (layer_at (size_of inquiry) layer) old new
      same z h = fills.unchanged z (omega arith)

      go : ((k < layer) ⊎ (layer ≤ k)) → Holds m inquiry runs (known_total after.end) new k n s i (label_in (size_of inquiry) new k s (row_of inquiry.trains.now n i))
      go (inl h) = filled_same m inquiry runs (known_total after.end) layer old new same (filled_still m inquiry runs before.end after.end fills.no_dearer layer old filled) k n s i h ln li
      go (inr h) =
          let e : layer ≡ k = omega arith in
          let inside = fits inquiry.trains.now inquiry.stops.now inquiry.ordered n ln in
          let below = place_below s (size_of inquiry) (row_of inquiry.trains.now n i) (omega arith) in
          let here = holds_same m inquiry runs (known_total after.end) layer n s i (label_in (size_of inquiry) new layer s (row_of inquiry.trains.now n i)) old new same (fills.settled runs may filled n s i ln li (omega arith) below) in
          subst (λ (j : ℕ). Holds m inquiry runs (known_total after.end) new j n s i (label_in (size_of inquiry) new j s (row_of inquiry.trains.now n i))) e here

  -- the end that is known ahead of the layer is, after it, the end that is known ahead of the next
  pub known_layer : {May : Pairs → Type 0} {old new : List (WorkRecord A)} {found : Bool} {before after : Reached A} → Fills m inquiry layer May old new 0 (layer_size (size_of inquiry)) found before after → Known m inquiry old (layer_at (size_of inquiry) layer) before.end → Known m inquiry new (layer_at (size_of inquiry) (layer + 1)) after.end
  known_layer {May} {old} {new} {found} {before} {after} fills h =
      let begins : layer_at (size_of inquiry) layer ≡ layer_at (size_of inquiry) layer + 0 = omega arith in
      let ends : layer_at (size_of inquiry) layer + layer_size (size_of inquiry) ≡ layer_at (size_of inquiry) (layer + 1) = sym (ap (layer_at (size_of inquiry)) (add-one layer) ∙ next_layer (size_of inquiry) layer) in
      subst (λ (x : ℕ). Known m inquiry new x after.end) ends (fills.known (subst (λ (x : ℕ). Known m inquiry old x before.end) begins h))

  pub blank_layer : {May : Pairs → Type 0} {old new : List (WorkRecord A)} {found : Bool} {before after : Reached A} → Fills m inquiry layer May old new 0 (layer_size (size_of inquiry)) found before after → BlankFrom (layer_at (size_of inquiry) layer) old → BlankFrom (layer_at (size_of inquiry) (layer + 1)) new
  blank_layer {May} {old} {new} fills h =
      let size = size_of inquiry in
      blank_less (layer_at size layer + layer_size size) (layer_at size (layer + 1)) new (omega (arith, ap (layer_at size) (add-one layer) ∙ next_layer size layer))
      (fills.blank (blank_less (layer_at size layer) (layer_at size layer + 0) old (omega arith) h))

  pub moved_to : {May : Pairs → Type 0} {old new : List (WorkRecord A)} {x x' y y' : ℕ} {found : Bool} {before after : Reached A} → x ≡ x' → y ≡ y' → Fills m inquiry layer May old new x y found before after → Fills m inquiry layer May old new x' y' found before after
  moved_to {May} {old} {new} {x} {x'} {y} {y'} {found} {before} {after} ex ey f =
      subst (λ (u : ℕ). Fills m inquiry layer May old new u y' found before after) ex (subst (λ (v : ℕ). Fills m inquiry layer May old new x v found before after) ey f)

  -- the part of one shift more
  pub fills_part : {May Of : Pairs → Type 0} {old mid new : List (WorkRecord A)} {k : ℕ} {found found' : Bool} {first between after : Reached A} (s : Shift) → number s ≡ k → Fills m inquiry layer May old mid 0 (k * size_of inquiry) found first between → Fills m inquiry layer Of mid new (place (size_of inquiry) s 0) (place (size_of inquiry) s (size_of inquiry)) found' between after → ((runs : Pairs) → May runs → Of runs) → Fills m inquiry layer May old new 0 ((k + 1) * size_of inquiry) (found || found') first after
  fills_part {May} {Of} {old} {mid} {new} {k} {found} {found'} {first} {between} {after} s e before part so =
      let begins : place (size_of inquiry) s 0 ≡ k * size_of inquiry = omega (arith, ap (λ x. x * size_of inquiry) e) in
      let ends : place (size_of inquiry) s (size_of inquiry) ≡ (k + 1) * size_of inquiry = omega (arith, ap (λ x. x * size_of inquiry) e) in
      fills_then before (moved_to begins ends part) so (omega arith)

-- the parts of a layer stand in the order of the shifts
number_of_shift : (k : ℕ) → k < 3 → number (get_or all_shifts k DayBefore) ≡ k
number_of_shift zero h = refl
number_of_shift (suc zero) h = refl
number_of_shift (suc (suc zero)) h = refl
number_of_shift (suc (suc (suc k))) h = absurd (omega arith)

pub part_number : (k : ℕ) (shifts : List Shift) → shifts ≡ all_shifts → k < 3 → number (get_or shifts k DayBefore) ≡ k
part_number k shifts all h = ap (λ (l : List Shift). number (get_or l k DayBefore)) all ∙ number_of_shift k h
