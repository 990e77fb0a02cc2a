-- A label of which nothing can come may be left out.
use Rattle.std.proofs.Common.{◌≡◌, ℕ, Bool, true, false, cond, is_some, Some, None, Option, sym, refl, ◌∙◌, inr, arith}
use Rattle.std.proofs.lemmas.Option.{none-some}
use Rattle.tariff.specs.Laws.{Connex, Transitive}
use Rattle.tariff.specs.Meaning.{Meaning}
use Rattle.connection.specs.Settled.{Settles, Hopeless, Excused}
use Rattle.connection.specs.declared.label.Label.{Label}
use Rattle.connection.proofs.Settling.{settles_dropped}
use Rattle.search.specs.Working.{hopeless, if_promising}
use Rattle.search.proofs.BeatenLabels.{is_hopeless}

module _ {A : Type 0} (m : Meaning A) (known : Option A) where
  -- ---- what is left in is as it was
  left : (l l' : Label A) (b : Bool) → cond b None (Some l) ≡ Some l' → Some l ≡ Some l'
  left l l' true e = absurd (none-some l' e)
  left l l' false e = e

  pub promising_held : (o : Option (Label A)) (l : Label A) → if_promising m known o ≡ Some l → o ≡ Some l
  promising_held None l e = absurd (none-some l e)
  promising_held (Some x) l e = left x l (hopeless m known x.total) e

  pub promising_is : (o : Option (Label A)) → is_some (if_promising m known o) ≡ true → o ≡ if_promising m known o
  promising_is o e = go (if_promising m known o) refl e
    where
      go : (p : Option (Label A)) → if_promising m known o ≡ p → is_some p ≡ true → o ≡ if_promising m known o
      go None f e = let z : ◌≡◌ {A = ℕ} 0 1 = cc in absurd (omega arith)
      go (Some l) f e = promising_held o l f ∙ sym f

  -- ---- and what is left out need not be followed
  pub settles_promising : Connex m → Transitive m → (best : Option A) → ((t : A) → Hopeless m known t → Hopeless m best t) → (P : A → Type 0) (W : ℕ → A → Type 0) (k : ℕ) (Q : Label A → Type 0) (o : Option (Label A)) → Settles m P (Excused m W k best) Q o → Settles m P (Excused m W k best) Q (if_promising m known o)
  settles_promising connex transitive best worse P W k Q None h = h
  settles_promising connex transitive best worse P W k Q (Some l) h = go (hopeless m known l.total) refl
    where
      go : (b : Bool) → hopeless m known l.total ≡ b → Settles m P (Excused m W k best) Q (cond b None (Some l))
      go true e = settles_dropped m connex transitive P W k best Q l (inr (worse l.total (is_hopeless m known l.total e))) h
      go false e = h
