-- Bytes are a time where each of them is what it should be.
use Rattle.std.proofs.Common.{◌≡◌, ℕ, true, false, List, length, Some, None, sym, ap}
use Rattle.std.specs.Bool.{then_some}
use Rattle.std.proofs.lemmas.Bool.{and_left, and_right, ne_eqb, eq-eqb, and_from}
use Rattle.text.specs.Times.{byte, clocked, are_clock_digits, is_clock, time_by_digits}

module _ (bs : List ℕ) where
  pub is_time : length bs ≡ 5 → byte bs 2 ≡ 58 → true ≡ are_clock_digits (byte bs 0) (byte bs 1) (byte bs 3) (byte bs 4) → Some (clocked bs) ≡ time_by_digits bs
  unfolding time_by_digits
  is_time n colon digits = sym (ap (λ t. then_some t (clocked bs)) (and_from _ _ (and_from _ _ (eq-eqb _ _ n) (eq-eqb _ _ colon)) (sym digits)))

  no_time : is_clock bs ≡ false → None ≡ time_by_digits bs
  unfolding time_by_digits
  no_time e = sym (ap (λ t. then_some t (clocked bs)) e)

  pub wrong_length : (length bs ≡ 5 → ⊥) → None ≡ time_by_digits bs
  wrong_length h = no_time (and_left _ _ (and_left _ _ (ne_eqb (length bs) 5 h)))

  pub no_colon : (byte bs 2 ≡ 58 → ⊥) → None ≡ time_by_digits bs
  no_colon h = no_time (and_left _ _ (and_right _ _ (ne_eqb (byte bs 2) 58 h)))

  pub no_digits : false ≡ are_clock_digits (byte bs 0) (byte bs 1) (byte bs 3) (byte bs 4) → None ≡ time_by_digits bs
  no_digits h = no_time (and_right _ _ (sym h))
