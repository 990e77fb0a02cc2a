-- What an option, or a word that is none, makes of the words of a search.
use Rattle.std.proofs.Common.{◌≡◌, ℕ, Bool, true, false, List, [], ◌∷◌, Some, Ok, Err, Option, codes, refl, ap}
use Rattle.std.specs.Str.{bytes_eq}
use Rattle.std.proofs.lemmas.Slice.Eq.{bytes_eq-Decides}
use Rattle.desk.specs.Commands.{given, options}
use Rattle.desk.specs.declared.command.Misuse.TheVariants.{UnknownWord}

same : (a b : List ℕ) → a ≡ b → bytes_eq a b ≡ true
same a b e = (bytes_eq-Decides a b).1 e

other : (a b : List ℕ) → (a ≡ b → ⊥) → bytes_eq a b ≡ false
other a b h = at_test (bytes_eq a b) refl where
  at_test : (t : Bool) → bytes_eq a b ≡ t → bytes_eq a b ≡ false
  at_test true e = absurd (h ((bytes_eq-Decides a b).0 e))
  at_test false e = e

module _ (file : List ℕ) (dates exceptions : Option (List ℕ)) (word : List ℕ) where
  pub last_unknown : (word ≡ codes "--dates" → ⊥) → (word ≡ codes "--exceptions" → ⊥) → Err (UnknownWord word) ≡ options file dates exceptions (word ∷ [])
  last_unknown h k = let a = other word (codes "--dates") h in let b = other word (codes "--exceptions") k in rw (a, b) refl

  module _ (value : List ℕ) (more : List (List ℕ)) where
    pub unknown : (word ≡ codes "--dates" → ⊥) → (word ≡ codes "--exceptions" → ⊥) → Err (UnknownWord word) ≡ options file dates exceptions (word ∷ value ∷ more)
    unknown h k = let a = other word (codes "--dates") h in let b = other word (codes "--exceptions") k in rw (a, b) refl

    pub some_dates : (found : List ℕ) → word ≡ codes "--dates" → given word dates value ≡ Ok found → options file (Some found) exceptions more ≡ options file dates exceptions (word ∷ value ∷ more)
    some_dates found e g = let a = same word (codes "--dates") e in rw (a, g) refl

    pub some_exceptions : (found : List ℕ) → word ≡ codes "--exceptions" → given word exceptions value ≡ Ok found → options file dates (Some found) more ≡ options file dates exceptions (word ∷ value ∷ more)
    some_exceptions found e g =
        let a : bytes_eq word (codes "--dates") ≡ false = ap (λ w. bytes_eq w (codes "--dates")) e in
        let b = same word (codes "--exceptions") e in
        rw (a, b, g) refl
