-- A word noted for a pair is the answer at that pair, and every other answer stays.
use Rattle.std.proofs.Common.{◌≡◌, ℕ, Bool, true, false, cond, ◌&&◌, eqb, List, [], ◌∷◌, Some, unwrap_or, refl, ap, ◌∙◌, arith}
use Rattle.std.proofs.lemmas.Grind.{common_steps}
use Rattle.std.proofs.lemmas.Bool.Decides.{nat_tests}
use Rattle.calendar.specs.Layers.{layered, noting}
use Rattle.calendar.specs.Pairs.{Pairs}
use Rattle.calendar.specs.Words.{is_for, marked, entries, word_of, with_word, has_room, noted}
use Rattle.calendar.specs.declared.exceptions.Exception.{Exception}
use Rattle.calendar.specs.declared.exceptions.Exceptions.{Exceptions}

module _ (code day : ℕ) (word : Bool) (c d : ℕ) where
  -- one exception more, looked up in the list with the word
  word_step : (e : Exception) (es fs : List Exception) → word_of fs c d ≡ cond (eqb code c && eqb day d) (Some word) (word_of es c d)
      → word_of (cond (is_for e code day) (marked e word ∷ es) (e ∷ fs)) c d ≡ cond (eqb code c && eqb day d) (Some word) (word_of (e ∷ es) c d)
  word_step e es fs h = grind (arith, nat_tests, common_steps)

  word_with : (es : List Exception) → word_of (with_word es code day word) c d ≡ cond (eqb code c && eqb day d) (Some word) (word_of es c d)
  word_with [] = grind (arith, common_steps)
  word_with (e ∷ es) = word_step e es (with_word es code day word) (word_with es)

  answer_with : (es : List Exception) (below : Bool) → unwrap_or (word_of (with_word es code day word) c d) below ≡ cond (eqb code c && eqb day d) word (unwrap_or (word_of es c d) below)
  answer_with es below = grind (arith, common_steps, word_with es)

  answer_noted : (room : Bool) (es : List Exception) (below : Bool) → unwrap_or (word_of (cond room (with_word es code day word) es) c d) below ≡ cond (room && (eqb code c && eqb day d)) word (unwrap_or (word_of es c d) below)
  answer_noted true es below = answer_with es below
  answer_noted false es below = refl

-- over the same calendar below, the noted list has the pairs that noting says
pub pairs_noted : {C : Type 0} (runs : C → Pairs) (t : Exceptions C) (code day : ℕ) (word : Bool) (es : List Exception) → es ≡ noted t.listed code day word → (c d : ℕ) → unwrap_or (word_of es c d) (runs t.below c d) ≡ noting (has_room t.listed code day) code day word (layered runs t) c d
pairs_noted runs t code day word es e c d =
    ap (λ xs. unwrap_or (word_of xs c d) (runs t.below c d)) e ∙ answer_noted code day word c d (has_room t.listed code day) (entries t.listed) (runs t.below c d)
