-- The room that is left behind the texts of a list's elements, taken off one by one.
use Rattle.std.proofs.Common.{◌≡◌, ℕ, ◌+◌, ◌<◌, List, [], ◌∷◌, ◌++◌, length, take, flat_map, arith}
use Rattle.std.specs.List.{AllByRecursion}
use Rattle.text.proofs.Texts.{length_text_more, text_within}

all_push : {X : Type 0} (P : X → Type 0) (xs : List X) (x : X) → AllByRecursion P xs → P x → AllByRecursion P (xs ++ x ∷ [])
all_push P [] x h p = (p, tt)
all_push P (y ∷ ys) x h p = (h.0, all_push P ys x h.1 p)

module _ {X : Type 0} (text : X → List ℕ) (Good : X → Type 0) (room : ℕ) (xs : List X) where
  -- the texts of the first i elements fit, and `left` is what they leave
  pub record RoomLeft (i left : ℕ) : Type 0 where
    pub fits : left + length (flat_map text (take i xs)) ≡ room
    pub good : AllByRecursion Good (take i xs)

  pub left_at_next : (i left next : ℕ) (x : X) → take (i + 1) xs ≡ take i xs ++ x ∷ [] → RoomLeft i left → next + length (text x) ≡ left → Good x → RoomLeft (i + 1) next
  left_at_next i left next x e was n g =
      record { fits = omega (arith, length_text_more text xs i x e, was.fits); good = rw e (all_push Good (take i xs) x was.good g) }

  pub too_short : (i left : ℕ) (x : X) → take (i + 1) xs ≡ take i xs ++ x ∷ [] → RoomLeft i left → left < length (text x) → room < length (flat_map text xs)
  too_short i left x e was short = omega (arith, text_within text xs i x e, was.fits)
