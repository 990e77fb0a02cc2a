-- What is read up to a line feed is the first of the lines, and what is left has the others.
use Rattle.std.proofs.Common.{◌≡◌, ℕ, Bool, true, false, not, cond, eqb, nat_eq, List, [], ◌∷◌, ◌++◌, length, IfSome, Some, None, Option, refl, sym, ap, subst, ◌∙◌, arith}
use Rattle.std.proofs.lemmas.Bool.Decides.{nat_tests}
use Rattle.std.specs.Io.BufRead.{take_through, drop_through, strip_last, first_piece, DropsThrough}
use Rattle.desk.specs.Input.{in_first, lines, TakesLine}

-- a byte ahead of a last one that may be a line feed
strip_cons : (b c : ℕ) (cs : List ℕ) → strip_last 10 (b ∷ c ∷ cs) ≡ b ∷ strip_last 10 (c ∷ cs)
strip_cons b c cs = grind (arith, nat_tests)

-- one byte more of what is taken
some_taken : {b : ℕ} (c : ℕ) (cs : List ℕ) → strip_last 10 (b ∷ take_through 10 (c ∷ cs)) ≡ b ∷ strip_last 10 (take_through 10 (c ∷ cs))
some_taken {b} c cs = at_test (eqb c 10) where
  at_test : (t : Bool) → strip_last 10 (b ∷ cond t (c ∷ []) (c ∷ take_through 10 cs)) ≡ b ∷ strip_last 10 (cond t (c ∷ []) (c ∷ take_through 10 cs))
  at_test true = strip_cons b c []
  at_test false = strip_cons b c (take_through 10 cs)

first_more : (b : ℕ) (bs : List ℕ) → lines (b ∷ bs) ≡ first_piece 10 (b ∷ bs) ∷ lines (drop_through 10 (b ∷ bs))
first_more b [] = elim (eqb b 10) as (λ t. t ≡ eqb b 10 → cond t ([] ∷ []) ((b ∷ []) ∷ []) ≡ strip_last 10 (cond t (b ∷ []) (b ∷ [])) ∷ lines (cond t [] [])) [ true ↦ λ e. rw (sym e) refl | false ↦ λ e. rw (sym e) refl ] refl
first_more b (c ∷ cs) = elim (eqb b 10) as (λ t. t ≡ eqb b 10 → cond t ([] ∷ lines (c ∷ cs)) (in_first b (lines (c ∷ cs))) ≡ strip_last 10 (cond t (b ∷ []) (b ∷ take_through 10 (c ∷ cs))) ∷ lines (cond t (c ∷ cs) (drop_through 10 (c ∷ cs)))) [ true ↦ λ e. rw (sym e) refl | false ↦ λ e. ap (in_first b) (first_more c cs) ∙ ap (λ l. l ∷ lines (drop_through 10 (c ∷ cs))) (sym (some_taken c cs)) ] refl

-- something is taken where something is left
some_more : (b : ℕ) (bs : List ℕ) → not (nat_eq (length (take_through 10 (b ∷ bs))) 0) ≡ true
some_more b bs = grind (arith, nat_tests)

pub lines_taken : (bs : List ℕ) → lines bs ≡ cond (not (nat_eq (length (take_through 10 bs)) 0)) (first_piece 10 bs ∷ lines (drop_through 10 bs)) []
lines_taken [] = refl
lines_taken (b ∷ bs) = rw (some_more b bs) (first_more b bs)

none_taken : (bs : List ℕ) → not (nat_eq (length (take_through 10 bs)) 0) ≡ false → first_piece 10 bs ≡ []
none_taken [] h = refl
none_taken (b ∷ bs) h = let z : ◌≡◌ {A = ℕ} 0 1 = cc (sym (some_more b bs) ∙ h) in absurd (omega arith)

-- what a read up to a line feed took, its line feed taken off, is the next line
pub takes_line : (before after : Option (List ℕ)) (kept read line : List ℕ) → kept ≡ [] → IfSome before (λ input. read ≡ kept ++ take_through 10 input) → DropsThrough before after 10 → line ≡ strip_last 10 read → TakesLine before after (not (nat_eq (length read) 0)) line
takes_line None after kept read line empty bytes rest is = tt
takes_line (Some input) after kept read line empty bytes rest is =
    let taken : read ≡ take_through 10 input = bytes ∙ ap (λ l. l ++ take_through 10 input) empty in
    let same : line ≡ first_piece 10 input = is ∙ ap (strip_last 10) taken in
    (rest, rw (taken, same) (lines_taken input), λ none. same ∙ none_taken input (subst (λ l. not (nat_eq (length l) 0) ≡ false) taken none))
