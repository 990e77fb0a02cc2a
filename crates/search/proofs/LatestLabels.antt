-- Of the labels at a place the latest is the cheapest, as none is written that an earlier one beats.
use Rattle.std.proofs.Common.{◌≡◌, ℕ, zero, suc, ◌+◌, ◌<◌, ◌≤◌, Bool, true, false, ◌||◌, T, ◌≢◌, List, length, get_or, set, Some, None, Option, IfSome, sym, refl, ap, ap₂, ◌∙◌, subst, inl, inr, arith, get_or-set_other, get_or-set_same}
use Rattle.std.proofs.Math.Bool.{or-false}
use Rattle.std.proofs.lemmas.Bool.{cases_lt}
use Rattle.std.proofs.lemmas.List.{length-set, length-replicate, get_or-replicate}
use Rattle.tariff.specs.Laws.{Connex, Transitive}
use Rattle.tariff.specs.Meaning.{Meaning}
use Rattle.connection.specs.declared.label.Label.{Label}
use Rattle.connection.proofs.Tests.{is_true}
use Rattle.search.specs.Layers.{BlankFrom}
use Rattle.search.specs.Notes.{no_notes, for_next_layer, with_note, label_of_layer, Decides, LatestDecide}
use Rattle.search.specs.Records.{record_of, label_of}
use Rattle.search.specs.Working.{layer_at, label_at, costs_no_more, beaten}
use Rattle.search.specs.declared.notes.Notes.{Notes}
use Rattle.search.specs.declared.record.WorkRecord.{WorkRecord}
use Rattle.search.specs.Limits.{layer_size, most_places}
use Rattle.search.proofs.BeatenLabels.{beater}
use Rattle.search.proofs.BlankRecords.{blank_label}
use Rattle.search.proofs.Layering.{next_layer, layers_below}
use Rattle.search.proofs.WrittenRecords.{written_same, written_here}

or_first : (a b : Bool) → (a || b) ≡ false → a ≡ false
or_first true b e = e
or_first false b e = refl

or_second : (a b : Bool) → (a || b) ≡ false → b ≡ false
or_second true b e = let z : ◌≡◌ {A = ℕ} 0 1 = cc in absurd (omega arith)
or_second false b e = e

module _ {A : Type 0} (m : Meaning A) (size z : ℕ) where
  abbrev Decided : List (WorkRecord A) → ℕ → Option ℕ → Type 0
  Decided table layers = Decides m size table layers z

  -- ---- in tables with the same labels
  module _ (old new : List (WorkRecord A)) where
    abbrev SameUnder : ℕ → Type 0
    SameUnder layers = (k : ℕ) → k < layers → label_at new (layer_at size k + z) ≡ label_at old (layer_at size k + z)

    beaten_same : (layers : ℕ) → SameUnder layers → (t : A) → beaten m size new z layers t ≡ beaten m size old z layers t
    beaten_same zero same t = refl
    beaten_same (suc k) same t = ap₂ (λ a o. a || costs_no_more m o t) (beaten_same k (λ j l. same j (omega arith)) t) (same k (omega arith))

    latest_same : (layers : ℕ) → SameUnder layers → (latest : Option ℕ) → IfSome latest (λ k. k < layers) → label_of_layer m size new z latest ≡ label_of_layer m size old z latest
    latest_same layers same None l = refl
    latest_same layers same (Some k) l = same k l

    pub decides_same : (layers : ℕ) → SameUnder layers → (latest : Option ℕ) → Decided old layers latest → Decided new layers latest
    decides_same layers same latest h =
        record { earlier = h.earlier; as_all = λ t. ap (λ o. costs_no_more m o t) (latest_same layers same latest h.earlier) ∙ h.as_all t ∙ sym (beaten_same layers same t) }

  -- ---- one layer more
  module _ (table : List (WorkRecord A)) (k : ℕ) where
    up : (latest : Option ℕ) → IfSome latest (λ j. j < k) → IfSome latest (λ j. j < suc k)
    up None l = tt
    up (Some j) l = omega arith

    pub decides_none : label_at table (layer_at size k + z) ≡ None → (latest : Option ℕ) → Decided table k latest → Decided table (suc k) latest
    decides_none none latest h =
        record { earlier = up latest h.earlier; as_all = λ t. h.as_all t ∙ sym (ap (λ o. beaten m size table z k t || costs_no_more m o t) none ∙ or-false (beaten m size table z k t)) }

    -- what is not beaten, no earlier one beats
    not_by : (layers : ℕ) (t : A) → beaten m size table z layers t ≡ false → (j : ℕ) → j < layers → costs_no_more m (label_at table (layer_at size j + z)) t ≡ false
    not_by zero t e j l = absurd (omega arith)
    not_by (suc i) t e j l =
        elim (cases_lt j i) [
          | inl b ↦ not_by i t (or_first (beaten m size table z i t) _ e) j b
          | inr g ↦ let same : i ≡ j = omega arith in subst (λ (y : ℕ). costs_no_more m (label_at table (layer_at size y + z)) t ≡ false) same (or_second (beaten m size table z i t) _ e)
        ]

    module _ (connex : Connex m) (transitive : Transitive m) (l : Label A) (held : label_at table (layer_at size k + z) ≡ Some l) (is_new : beaten m size table z k l.total ≡ false) where
      cheaper : (t : A) → beaten m size table z k t ≡ true → T (m.at_most l.total t)
      cheaper t e =
          let b = beater m size table z t k e in
          let dearer : m.at_most b.label.total l.total ≡ false = ap (λ o. costs_no_more m o l.total) (sym b.held) ∙ not_by k l.total is_new b.in_layer b.earlier in
          transitive l.total b.label.total t (subst (λ (c : Bool). T (c || m.at_most l.total b.label.total)) dearer (connex b.label.total l.total)) b.no_dearer

      alone : (t : A) (b : Bool) → beaten m size table z k t ≡ b → m.at_most l.total t ≡ (b || m.at_most l.total t)
      alone t true e = is_true (m.at_most l.total t) (cheaper t e)
      alone t false e = refl

      pub decides_some : Decided table (suc k) (Some k)
      decides_some =
          record {
            earlier = omega arith;
            as_all = λ t. ap (λ o. costs_no_more m o t) held ∙ alone t (beaten m size table z k t) refl ∙ ap (λ o. beaten m size table z k t || costs_no_more m o t) (sym held);
          }

-- ---- all places
module _ {A : Type 0} (m : Meaning A) (size k : ℕ) where
  pub latest_blank : (x y : ℕ) (table : List (WorkRecord A)) (n : Notes) → x ≤ y → BlankFrom (layer_at size k + x) table → LatestDecide m size table k x n → LatestDecide m size table k y n
  latest_blank x y table n le blanks h =
      record {
        long = h.long;
        ahead = λ z lz inside. elim (cases_lt z x) [
          | inl b ↦ h.ahead z b inside
          | inr g ↦ decides_none m size z table k (blank_label (layer_at size k + x) (layer_at size k + z) table blanks (omega arith)) (get_or n.latest z None) (h.behind z g inside)
        ];
        behind = λ z lz inside. h.behind z (omega arith) inside;
      }

  module _ (connex : Connex m) (transitive : Transitive m) (x at : ℕ) (at_is : at ≡ layer_at size k + x) (far : x < layer_size size) (few : layer_size size ≤ most_places) (old new : List (WorkRecord A)) (room : at < length old) (n : Notes) (h : LatestDecide m size old k x n) where
    module _ (o : Option (Label A)) (is_new : new ≡ set old at (record_of o)) where
      kept : (j z : ℕ) → layer_at size j + z < at → label_at new (layer_at size j + z) ≡ label_at old (layer_at size j + z)
      kept j z l = ap (λ t. label_at t (layer_at size j + z)) is_new ∙ ap label_of (written_same old at o (layer_at size j + z) (inl l))

      -- the layers ahead are
      earlier : (z j : ℕ) → z < layer_size size → j < k → layer_at size j + z < at
      earlier z j inside l = omega (arith, at_is, next_layer size j, layers_below size (suc j) k l)

      -- and in the layer itself the places ahead
      so_far : (z j : ℕ) → z < x → j < suc k → layer_at size j + z < at
      so_far z j b l = omega (arith, at_is, layers_below size j k (omega arith))

      here : label_at new (layer_at size k + x) ≡ o
      here = ap (label_at new) (sym at_is) ∙ ap (λ t. label_at t at) is_new ∙ written_here old at o room

      still_ahead : (z : ℕ) → z < x → z < layer_size size → Decides m size new (suc k) z (get_or n.latest z None)
      still_ahead z b inside = decides_same m size z old new (suc k) (λ j l. kept j z (so_far z j b l)) (get_or n.latest z None) (h.ahead z b inside)

      still_behind : (z : ℕ) → x ≤ z → z < layer_size size → Decides m size new k z (get_or n.latest z None)
      still_behind z g inside = decides_same m size z old new k (λ j l. kept j z (earlier z j inside l)) (get_or n.latest z None) (h.behind z g inside)

    pub latest_none : new ≡ set old at (record_of None) → LatestDecide m size new k (x + 1) n
    latest_none is_new =
        record {
          long = h.long;
          ahead = λ z lz inside. elim (cases_lt z x) [
            | inl b ↦ still_ahead None is_new z b inside
            | inr g ↦
                let e : x ≡ z = omega arith in
                decides_none m size z new k (ap (λ y. label_at new (layer_at size k + y)) (sym e) ∙ here None is_new) (get_or n.latest z None) (still_behind None is_new z g inside)
          ];
          behind = λ z lz inside. still_behind None is_new z (omega arith) inside;
        }

    module _ (l : Label A) (is_new : new ≡ set old at (record_of (Some l))) (not_beaten : beaten m size old x k l.total ≡ false) where
      abbrev latest : List (Option ℕ)
      latest = (with_note n k x at).latest

      written : Decides m size new (suc k) x (get_or latest x None)
      written =
          let fits : x < length n.latest = omega (arith, h.long) in
          let same = beaten_same m size x old new k (λ j b. kept (Some l) is_new j x (earlier (Some l) is_new x j far b)) l.total in
          subst (Decides m size new (suc k) x) (sym (get_or-set_same n.latest x (Some k) None fits))
          (decides_some m size x new k connex transitive l (here (Some l) is_new) (same ∙ not_beaten))

      pub latest_some : LatestDecide m size new k (x + 1) (with_note n k x at)
      latest_some =
          record {
            long = length-set n.latest x (Some k) ∙ h.long;
            ahead = λ z lz inside. elim (cases_lt z x) [
              | inl b ↦ let ne : z ≢ x = omega arith in subst (Decides m size new (suc k) z) (sym (get_or-set_other n.latest x z (Some k) None ne)) (still_ahead (Some l) is_new z b inside)
              | inr g ↦ let e : x ≡ z = omega arith in subst (λ (y : ℕ). Decides m size new (suc k) y (get_or latest y None)) e written
            ];
            behind = λ z lz inside.
                let ne : z ≢ x = omega arith in
                subst (Decides m size new k z) (sym (get_or-set_other n.latest x z (Some k) None ne)) (still_behind (Some l) is_new z (omega arith) inside);
          }

  pub latest_next : (table : List (WorkRecord A)) (n : Notes) → LatestDecide m size table k (layer_size size) n → LatestDecide m size table (k + 1) 0 (for_next_layer n)
  latest_next table n h =
      let up : suc k ≡ k + 1 = omega arith in
      record {
        long = h.long;
        ahead = λ z lz inside. absurd (omega arith);
        behind = λ z lz inside. subst (λ (j : ℕ). Decides m size table j z (get_or n.latest z None)) up (h.ahead z inside inside);
      }

pub latest_first : {A : Type 0} (m : Meaning A) (size : ℕ) (table : List (WorkRecord A)) → layer_size size ≤ most_places → LatestDecide m size table 0 0 no_notes
latest_first m size table few =
    record {
      long = length-replicate {A = Option ℕ} most_places None;
      ahead = λ z lz inside. absurd (omega arith);
      behind = λ z lz inside. subst (Decides m size table 0 z) (sym (get_or-replicate most_places z None None (omega arith))) (record { earlier = tt; as_all = λ t. refl });
    }
