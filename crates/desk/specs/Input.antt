-- The lines of an input, one after another.
use Rattle.std.specs.Prelude.{◌≡◌, ℕ, Bool, false, cond, List, [], ◌∷◌, ◌==◌, Some, None, Option, Result, IfSome}
use Rattle.std.specs.Io.BufRead.{drop_through}
use Rattle.desk.specs.Questions.{asks}
use Rattle.desk.specs.declared.expected.Expected.{Expected}
use Rattle.desk.specs.declared.question.Question.{Question}

-- a byte put in front of a line
abbrev pub in_first : ℕ → List (List ℕ) → List (List ℕ)
in_first b [] = (b ∷ []) ∷ []
in_first b (l ∷ ls) = (b ∷ l) ∷ ls

-- the lines of an input, without their line feeds; the last may lack its own
abbrev pub lines : List ℕ → List (List ℕ)
lines [] = []
lines (b ∷ bs) = cond (b == 10) ([] ∷ lines bs) (in_first b (lines bs))

-- of an input that is known, its first line is taken, if it has one, and what stands behind that is left
abbrev pub TakesLine : Option (List ℕ) → Option (List ℕ) → Bool → List ℕ → Type 0
TakesLine before after more line =
    IfSome before (λ input. (after ≡ Some (drop_through 10 input))
    × (lines input ≡ cond more (line ∷ lines (drop_through 10 input)) [])
    × (more ≡ false → line ≡ []))

-- what a line of queries asks; an empty one asks nothing
abbrev pub asks_if_any : List ℕ → Option (Result Question Expected)
asks_if_any [] = None
asks_if_any (b ∷ bs) = Some (asks (b ∷ bs))
