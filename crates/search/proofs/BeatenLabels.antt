-- A label is beaten where a layer before it holds one that costs no more, and hopeless where a known connection does.
use Rattle.std.proofs.Common.{◌≡◌, ℕ, zero, suc, ◌+◌, ◌<◌, Bool, true, false, cond, ◌||◌, T, ◌⊎◌, List, Some, None, Option, sym, refl, subst, inl, inr, arith}
use Rattle.std.proofs.lemmas.Option.{none-some, same_Some}
use Rattle.tariff.specs.Meaning.{Meaning}
use Rattle.connection.specs.Settled.{Hopeless}
use Rattle.connection.specs.declared.label.Label.{Label}
use Rattle.search.specs.Working.{layer_at, label_at, costs_no_more, hopeless, beaten, if_worth_following}
use Rattle.search.specs.declared.record.WorkRecord.{WorkRecord}

either_or : (a b : Bool) → (a || b) ≡ true → (a ≡ true) ⊎ (b ≡ true)
either_or true b e = inl refl
either_or false b e = inr e

module _ {A : Type 0} (m : Meaning A) (size : ℕ) (table : List (WorkRecord A)) (at : ℕ) (total : A) where
  -- which layer beats it, and with which label
  pub record Beater (layer : ℕ) : Type 0 where
    pub in_layer : ℕ
    pub earlier : in_layer < layer
    pub label : Label A
    pub held : label_at table (layer_at size in_layer + at) ≡ Some label
    pub no_dearer : T (m.at_most label.total total)

  beater_at : (k : ℕ) (o : Option (Label A)) → label_at table (layer_at size k + at) ≡ o → costs_no_more m o total ≡ true → Beater (suc k)
  beater_at k None e c = let z : ◌≡◌ {A = ℕ} 0 1 = cc in absurd (omega arith)
  beater_at k (Some l) e c = record { in_layer = k; earlier = omega arith; label = l; held = e; no_dearer = subst T (sym c) tt }

  pub beater : (layer : ℕ) → beaten m size table at layer total ≡ true → Beater layer
  beater zero e = let z : ◌≡◌ {A = ℕ} 0 1 = cc in absurd (omega arith)
  beater (suc k) e =
      elim (either_or (beaten m size table at k total) (costs_no_more m (label_at table (layer_at size k + at)) total) e) [
        | inl b ↦ let r = beater k b in record { in_layer = r.in_layer; earlier = omega (arith, r.earlier); label = r.label; held = r.held; no_dearer = r.no_dearer }
        | inr c ↦ beater_at k (label_at table (layer_at size k + at)) refl c
      ]

-- a label that is called hopeless is
pub is_hopeless : {A : Type 0} (m : Meaning A) (known : Option A) (t : A) → hopeless m known t ≡ true → Hopeless m known t
is_hopeless m None t e = let z : ◌≡◌ {A = ℕ} 0 1 = cc in absurd (omega arith)
is_hopeless m (Some best) t e = subst T (sym e) tt

-- a label that is worth following is not beaten
pub worth_not_beaten : {A : Type 0} (m : Meaning A) (size : ℕ) (table : List (WorkRecord A)) (at : ℕ) (known : Option A) (layer : ℕ) (o : Option (Label A)) (l : Label A) → if_worth_following m size table at known layer o ≡ Some l → beaten m size table at layer l.total ≡ false
worth_not_beaten m size table at known layer None l e = absurd (none-some l e)
worth_not_beaten {A} m size table at known layer (Some x) l e = go (hopeless m known x.total) (beaten m size table at layer x.total) refl e
  where
    go : (a b : Bool) → beaten m size table at layer x.total ≡ b → cond (a || b) None (Some x) ≡ Some l → beaten m size table at layer l.total ≡ false
    go true b eb f = absurd (none-some l f)
    go false true eb f = absurd (none-some l f)
    go false false eb f = subst (λ (y : Label A). beaten m size table at layer y.total ≡ false) (same_Some x l f) eb
