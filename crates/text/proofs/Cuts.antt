-- What stands ahead of a byte and behind it.
use Rattle.std.proofs.Common.{◌≡◌, ℕ, ◌+◌, ◌-◌, ◌≤◌, Bool, true, false, cond, eqb, List, [], length, take, drop, Some, None, Option, MatchOption, sym, refl, ap, ◌∙◌, arith}
use Rattle.std.specs.List.{position}
use Rattle.std.proofs.lemmas.List.{take_rest, take_all, drop_all}
use Rattle.std.proofs.lemmas.Bool.{ltb-false}
use Rattle.text.specs.Cuts.{ahead, has, front, behind}

-- the first `mark`, if there is one, stands where the front ends
place : (t : Bool) (n : ℕ) (o : Option ℕ) → o ≡ cond t (Some n) None → MatchOption o (t ≡ false) (λ at. (at ≡ n) × (t ≡ true))
place true n None e = cc
place true n (Some at) e = (cc, refl)
place false n None e = refl
place false n (Some at) e = cc

module _ (mark : ℕ) (bs : List ℕ) where
  pub cut_here : (at : ℕ) → Some at ≡ position (λ b. eqb b mark) bs
      → (true ≡ has mark bs) × (take at bs ≡ front mark bs) × (take (length bs - (at + 1)) (drop (at + 1) bs) ≡ behind mark bs)
  cut_here at e =
      let p = place (has mark bs) (ahead mark bs) (Some at) e in
      (sym p.1, ap (λ k. take k bs) p.0, take_rest bs (at + 1) ∙ ap (λ k. drop (k + 1) bs) p.0)

  pub cut_nowhere : None ≡ position (λ b. eqb b mark) bs → (false ≡ has mark bs) × (bs ≡ front mark bs) × ([] ≡ behind mark bs)
  cut_nowhere e =
      let none : has mark bs ≡ false = place (has mark bs) (ahead mark bs) None e in
      let past : length bs ≤ ahead mark bs = ltb-false _ _ none in
      (sym none, sym (take_all (ahead mark bs) bs past), sym (drop_all (ahead mark bs + 1) bs (omega arith)))
