-- A line's fields and a text's lines, taken apart and put together.
use Rattle.std.proofs.Common.{◌≡◌, ℕ, ◌≤◌, Bool, true, false, cond, eqb, List, [], ◌∷◌, ◌++◌, sym, refl, ap, ◌∙◌, arith}
use Rattle.std.specs.List.{flat_map, AllByRecursion as All}
use Rattle.std.proofs.lemmas.Bool.{eqb-true, ne_eqb}
use Rattle.std.proofs.lemmas.List.Splits.{join_with_byte-slice_split}
use Rattle.text.specs.Lines.{Line, whole, cut_off, in_first_line, lines, fields}
use Rattle.text.specs.Written.{with_commas}

-- ---- fields
-- the fields of a line, with commas, are the line
pub fields_joined : (l : List ℕ) → with_commas (fields l) ≡ l
fields_joined l = join_with_byte-slice_split 44 l

-- bytes of k and more
abbrev pub From : ℕ → List ℕ → Type 0
From k bs = All (λ c. k ≤ c) bs

fields_last : (f : List ℕ) → From 48 f → fields f ≡ f ∷ []
fields_last [] h = refl
fields_last (b ∷ bs) h = rw (ne_eqb b 44 (λ e. omega (arith, h.0)), fields_last bs h.1) refl

fields_more : (f rest : List ℕ) → From 48 f → fields (f ++ 44 ∷ rest) ≡ f ∷ fields rest
fields_more [] rest h = refl
fields_more (b ∷ bs) rest h = rw (ne_eqb b 44 (λ e. omega (arith, h.0)), fields_more bs rest h.1) refl

pub fields_written : (f : List ℕ) (fs : List (List ℕ)) → All (From 48) (f ∷ fs) → fields (with_commas (f ∷ fs)) ≡ f ∷ fs
fields_written f [] h = fields_last f h.0
fields_written f (g ∷ fs) h = fields_more f (with_commas (g ∷ fs)) h.0 ∙ ap (λ (x : List (List ℕ)). f ∷ x) (fields_written g fs h.1)

-- ---- lines
abbrev pub bytes_of : Line → List ℕ
bytes_of (whole l) = l ++ 10 ∷ []
bytes_of (cut_off l) = l

first_line_joined : (b : ℕ) (ls : List Line) → flat_map bytes_of (in_first_line b ls) ≡ b ∷ flat_map bytes_of ls
first_line_joined b [] = refl
first_line_joined b (whole l ∷ ls) = refl
first_line_joined b (cut_off l ∷ ls) = refl

pub lines_joined : (bs : List ℕ) → flat_map bytes_of (lines bs) ≡ bs
lines_joined [] = refl
lines_joined (b ∷ bs) = at_test (eqb b 10) refl (lines_joined bs) where
  at_test : (t : Bool) → eqb b 10 ≡ t → flat_map bytes_of (lines bs) ≡ bs → flat_map bytes_of (cond t (whole [] ∷ lines bs) (in_first_line b (lines bs))) ≡ b ∷ bs
  at_test true e rest = ap (λ (x : List ℕ). 10 ∷ x) rest ∙ ap (λ (c : ℕ). c ∷ bs) (sym (eqb-true b 10 e))
  at_test false e rest = first_line_joined b (lines bs) ∙ ap (λ (x : List ℕ). b ∷ x) rest

pub lines_more : (l rest : List ℕ) → From 44 l → lines (l ++ 10 ∷ rest) ≡ whole l ∷ lines rest
lines_more [] rest h = refl
lines_more (b ∷ bs) rest h = rw (ne_eqb b 10 (λ e. omega (arith, h.0)), lines_more bs rest h.1) refl
