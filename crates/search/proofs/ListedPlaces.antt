-- The places with a label, listed in their order.
use Rattle.std.proofs.Common.{◌≡◌, ℕ, zero, suc, ◌+◌, ◌<◌, ◌≤◌, cond, ◌≢◌, List, length, get_or, set, Some, None, Option, sym, refl, ap, ◌∙◌, subst, inl, inr, arith, get_or-set_other, get_or-set_same}
use Rattle.std.proofs.lemmas.Bool.{cases_lt, lt-ltb, le-ltb}
use Rattle.std.proofs.lemmas.List.{length-set, length-replicate}
use Rattle.connection.specs.declared.label.Label.{Label}
use Rattle.search.specs.Layers.{BlankFrom}
use Rattle.search.specs.Notes.{no_notes, for_next_layer, with_note, past, up_to, Listed}
use Rattle.search.specs.Records.{record_of, label_of}
use Rattle.search.specs.Working.{layer_at, label_at}
use Rattle.search.specs.declared.notes.Notes.{Notes}
use Rattle.search.specs.declared.record.WorkRecord.{WorkRecord}
use Rattle.search.specs.Limits.{most_places}
use Rattle.search.proofs.BlankRecords.{blank_label}
use Rattle.search.proofs.WrittenRecords.{written_same, written_here}

-- ---- the next place
pub next_is : (n : Notes) (x j : ℕ) → j < n.count → up_to n x j ≡ get_or n.places j 0
next_is n x j h = ap (λ b. cond b (get_or n.places j 0) x) (lt-ltb j n.count h)

pub none_next : (n : Notes) (x j : ℕ) → n.count ≤ j → up_to n x j ≡ x
none_next n x j h = ap (λ b. cond b (get_or n.places j 0) x) (le-ltb j n.count h)

module _ {A : Type 0} (size k : ℕ) where
  not_past : (x j : ℕ) (table : List (WorkRecord A)) (n : Notes) → Listed size k x table n → up_to n x j ≤ x
  not_past x j table n h =
      elim (cases_lt j n.count) [ inl l ↦ omega (arith, next_is n x j l, h.inside j l) | inr g ↦ omega (arith, none_next n x j g) ]

  -- ---- no label is written
  listed_same : (x : ℕ) (old new : List (WorkRecord A)) (n : Notes) → ((z : ℕ) → z < x → label_at new (layer_at size k + z) ≡ label_at old (layer_at size k + z)) → Listed size k x old n → Listed size k x new n
  listed_same x old new n same h =
      record {
        long = h.long;
        few = h.few;
        inside = h.inside;
        rising = h.rising;
        none_between = λ j z lj low high. same z (omega (arith, high, not_past x j old n h)) ∙ h.none_between j z lj low high;
      }

  listed_over : (x y : ℕ) (table : List (WorkRecord A)) (n : Notes) → x ≤ y → ((z : ℕ) → x ≤ z → z < y → label_at table (layer_at size k + z) ≡ None) → Listed size k x table n → Listed size k y table n
  listed_over x y table n le none h =
      record {
        long = h.long;
        few = omega (arith, h.few);
        inside = λ j l. omega (arith, h.inside j l);
        rising = λ j lj. elim (cases_lt j n.count) [
          | inl l ↦ omega (arith, h.rising j lj, next_is n x j l, next_is n y j l)
          | inr g ↦ omega (arith, h.rising j lj, none_next n x j g, none_next n y j g)
        ];
        none_between = λ j z lj low high. elim (cases_lt z x) [
          | inr behind ↦ none z behind (elim (cases_lt j n.count) [ inl l ↦ omega (arith, high, next_is n y j l, h.inside j l) | inr g ↦ omega (arith, high, none_next n y j g) ])
          | inl ahead ↦ h.none_between j z lj low (elim (cases_lt j n.count) [ inl l ↦ omega (arith, high, next_is n x j l, next_is n y j l) | inr g ↦ omega (arith, none_next n x j g) ])
        ];
      }

  pub listed_blank : (x y : ℕ) (table : List (WorkRecord A)) (n : Notes) → x ≤ y → BlankFrom (layer_at size k + x) table → Listed size k x table n → Listed size k y table n
  listed_blank x y table n le blanks = listed_over x y table n le (λ z low high. blank_label (layer_at size k + x) (layer_at size k + z) table blanks (omega arith))

  -- ---- the record at a place is written
  module _ (x at : ℕ) (at_is : at ≡ layer_at size k + x) (old new : List (WorkRecord A)) (room : at < length old) (n : Notes) (h : Listed size k x old n) where
    kept : (o : Option (Label A)) → new ≡ set old at (record_of o) → (z : ℕ) → z < x → label_at new (layer_at size k + z) ≡ label_at old (layer_at size k + z)
    kept o is_new z l = ap (λ t. label_at t (layer_at size k + z)) is_new ∙ ap label_of (written_same old at o (layer_at size k + z) (inl (omega (arith, at_is))))

    pub listed_none : new ≡ set old at (record_of None) → Listed size k (x + 1) new n
    listed_none is_new = listed_over x (x + 1) new n (omega arith) none (listed_same x old new n (kept None is_new) h)
      where
        none : (z : ℕ) → x ≤ z → z < x + 1 → label_at new (layer_at size k + z) ≡ None
        none z low high =
            let e : at ≡ layer_at size k + z = omega (arith, at_is) in
            subst (λ (y : ℕ). label_at new y ≡ None) e (ap (λ t. label_at t at) is_new ∙ written_here old at None room)

    module _ (few_places : x < most_places) (l : Label A) (is_new : new ≡ set old at (record_of (Some l))) where
      abbrev n' : Notes
      n' = with_note n k x at

      here : get_or n'.places n.count 0 ≡ x
      here = let fits : n.count < length n.places = omega (arith, h.long, h.few) in get_or-set_same n.places n.count x 0 fits

      before : (j : ℕ) → j < n.count → get_or n'.places j 0 ≡ get_or n.places j 0
      before j lj = let ne : j ≢ n.count = omega arith in get_or-set_other n.places n.count j x 0 ne

      past_same : (j : ℕ) → j ≤ n.count → past n' j ≡ past n j
      past_same zero lj = refl
      past_same (suc j) lj = ap suc (before j (omega arith))

      next_same : (j : ℕ) → j ≤ n.count → up_to n' (x + 1) j ≡ up_to n x j
      next_same j lj =
          elim (cases_lt j n.count) [
            | inl b ↦ next_is n' (x + 1) j (omega arith) ∙ before j b ∙ sym (next_is n x j b)
            | inr g ↦
                let e : n.count ≡ j = omega arith in
                next_is n' (x + 1) j (omega arith) ∙ ap (λ i. get_or n'.places i 0) (sym e) ∙ here ∙ sym (none_next n x j g)
          ]

      -- behind the new place there is none
      past_last : (j : ℕ) → n.count < j → j ≤ n.count + 1 → past n' j ≡ x + 1
      past_last zero g lj = absurd (omega arith)
      past_last (suc j) g lj =
          let e : n.count ≡ j = omega arith in
          let up : suc x ≡ x + 1 = omega arith in
          ap (λ i. suc (get_or n'.places i 0)) (sym e) ∙ ap suc here ∙ up

      pub listed_some : Listed size k (x + 1) new n'
      listed_some =
          record {
            long = length-set n.places n.count x ∙ h.long;
            few = omega (arith, h.few);
            inside = λ j lj. elim (cases_lt j n.count) [
              | inl b ↦ omega (arith, before j b, h.inside j b)
              | inr g ↦ let e : n.count ≡ j = omega arith in omega (arith, here, ap (λ i. get_or n'.places i 0) e)
            ];
            rising = λ j lj. elim (cases_lt n.count j) [
              | inr b ↦ omega (arith, past_same j b, next_same j b, h.rising j b)
              | inl g ↦ omega (arith, past_last j g lj, none_next n' (x + 1) j (omega arith))
            ];
            none_between = λ j z lj low high. elim (cases_lt n.count j) [
              | inr b ↦
                  let low' : past n j ≤ z = omega (arith, low, past_same j b) in
                  let high' : z < up_to n x j = omega (arith, high, next_same j b) in
                  kept (Some l) is_new z (omega (arith, high', not_past x j old n h)) ∙ h.none_between j z b low' high'
              | inl g ↦ absurd (omega (arith, low, high, past_last j g lj, none_next n' (x + 1) j (omega arith)))
            ];
          }

-- ---- a layer begins with none
nothing_listed : {A : Type 0} (size k : ℕ) (table : List (WorkRecord A)) (n : Notes) → length n.places ≡ most_places → n.count ≡ 0 → Listed size k 0 table n
nothing_listed size k table n long none =
    record {
      long = long;
      few = omega (arith, none);
      inside = λ j l. absurd (omega (arith, none));
      rising = λ j lj. let e : 0 ≡ j = omega (arith, none) in subst (λ (i : ℕ). past n i ≤ up_to n 0 i) e (omega arith);
      none_between = λ j z lj low high. absurd (omega (arith, high, none_next n 0 j (omega (arith, none))));
    }

pub listed_first : {A : Type 0} (size : ℕ) (table : List (WorkRecord A)) → Listed size 0 0 table no_notes
listed_first size table = nothing_listed size 0 table no_notes (length-replicate {A = ℕ} most_places 0) refl

pub listed_next : {A : Type 0} (size k x : ℕ) (table : List (WorkRecord A)) (n : Notes) → Listed size k x table n → Listed size (k + 1) 0 table (for_next_layer n)
listed_next size k x table n h = nothing_listed size (k + 1) table (for_next_layer n) h.long refl
