-- A list of words begins with its first words.
use Rattle.std.proofs.Common.{◌≡◌, ◌≤◌, List, [], ◌∷◌, length, get_or, drop, sym, ap, ap₂, arith}

module _ {X : Type 0} where
  pub one_word : (xs : List X) (x : X) → length xs ≡ 1 → x ≡ get_or xs 0 x → xs ≡ x ∷ []
  one_word [] x h e = absurd (omega arith)
  one_word (y ∷ []) x h e = ap (λ z. z ∷ []) (sym e)
  one_word (y ∷ z ∷ xs) x h e = absurd (omega arith)

  pub first_word : (xs : List X) (x : X) → 1 ≤ length xs → x ≡ get_or xs 0 x → xs ≡ x ∷ drop 1 xs
  first_word [] x h e = absurd (omega arith)
  first_word (y ∷ xs) x h e = ap (λ z. z ∷ xs) (sym e)

  pub two_words : (xs : List X) (x y : X) → 2 ≤ length xs → x ≡ get_or xs 0 x → y ≡ get_or xs 1 y → xs ≡ x ∷ y ∷ drop 2 xs
  two_words [] x y h e f = absurd (omega arith)
  two_words (z ∷ []) x y h e f = absurd (omega arith)
  two_words (z ∷ w ∷ xs) x y h e f = ap₂ (λ a b. a ∷ b ∷ xs) (sym e) (sym f)
