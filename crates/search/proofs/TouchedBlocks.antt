-- Outside the blocks that are touched all records are blank.
use Rattle.std.proofs.Common.{◌≡◌, ℕ, ◌*◌, ◌<◌, ◌/◌, Bool, true, false, ◌≢◌, List, length, take, get_or, set, Some, None, Option, sym, ap, ◌∙◌, subst, inl, inr, arith, get_or-set_other, get_or-set_same}
use Rattle.std.proofs.lemmas.Bool.{cases_lt}
use Rattle.std.proofs.lemmas.List.{length-set, length-replicate, length-take, get_or-take}
use Rattle.connection.specs.declared.label.Label.{Label}
use Rattle.search.specs.Layers.{BlankFrom}
use Rattle.search.specs.Notes.{no_notes, with_note, BlankElsewhere}
use Rattle.search.specs.Records.{blank, record_of}
use Rattle.search.specs.declared.notes.Notes.{Notes}
use Rattle.search.specs.declared.record.WorkRecord.{WorkRecord}
use Rattle.search.specs.Limits.{block, blocks}

module _ {A : Type 0} (at : ℕ) (old new : List (WorkRecord A)) (n : Notes) (h : BlankElsewhere old n) where
  same_record : (o : Option (Label A)) → new ≡ set old at (record_of o) → (z : ℕ) → z ≢ at → get_or new z blank ≡ get_or old z blank
  same_record o is_new z ne = ap (λ t. get_or t z blank) is_new ∙ get_or-set_other old at z (record_of o) blank ne

  pub elsewhere_none : at < length old → new ≡ set old at (record_of None) → BlankElsewhere new n
  elsewhere_none room is_new = record { long = h.long; blank = still }
    where
      still : (z : ℕ) → get_or n.touched (z / block) false ≡ false → get_or new z blank ≡ blank
      still z clear =
          elim (cases_lt z at) [
            | inl l ↦ let ne : z ≢ at = omega arith in same_record None is_new z ne ∙ h.blank z clear
            | inr g ↦
                elim (cases_lt at z) [
                  | inl l ↦ let ne : z ≢ at = omega arith in same_record None is_new z ne ∙ h.blank z clear
                  | inr f ↦ let e : at ≡ z = omega arith in subst (λ (y : ℕ). get_or new y blank ≡ blank) e (ap (λ t. get_or t at blank) is_new ∙ get_or-set_same old at blank blank room)
                ]
          ]

  module _ (k x : ℕ) (few_records : at < block * blocks) (l : Label A) (is_new : new ≡ set old at (record_of (Some l))) where
    abbrev touched : List Bool
    touched = (with_note n k x at).touched

    here : get_or touched (at / block) false ≡ true
    here = let inside : at / block < length n.touched = omega (arith, h.long) in get_or-set_same n.touched (at / block) true false inside

    other_block : (z : ℕ) → get_or touched (z / block) false ≡ false → z / block ≢ at / block
    other_block z clear e =
        let y : true ≡ false = sym here ∙ ap (λ b. get_or touched b false) (sym e) ∙ clear in
        absurd (let w : ◌≡◌ {A = ℕ} 0 1 = cc in omega arith)

    pub elsewhere_some : BlankElsewhere new (with_note n k x at)
    elsewhere_some =
        record {
          long = length-set n.touched (at / block) true ∙ h.long;
          blank = λ z clear.
              let ne = other_block z clear in
              same_record (Some l) is_new z (λ e. ne (ap (λ y. y / block) e)) ∙ h.blank z (sym (get_or-set_other n.touched (at / block) (z / block) true false ne) ∙ clear);
        }

pub elsewhere_first : {A : Type 0} (table : List (WorkRecord A)) → BlankFrom 0 table → BlankElsewhere table no_notes
elsewhere_first table blanks = record { long = length-replicate blocks false; blank = λ z clear. blanks z (omega arith) }

-- a block among the first n that is not touched among them
pub untouched_ahead : (n : ℕ) (touched : List Bool) (i : ℕ) → i < length (take n touched) → get_or (take n touched) i false ≡ false → get_or touched i false ≡ false
untouched_ahead n touched i h e = sym (get_or-take n touched i false (omega (arith, length-take n touched))) ∙ e
