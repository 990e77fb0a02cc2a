-- The lines of a text, and the fields of a line with their columns.
use Rattle.std.specs.Prelude.{ℕ, zero, suc, ◌+◌, Bool, true, false, cond, List, [], ◌∷◌, length, ◌==◌, slice_index_or}
use Rattle.std.specs.List.{slice_split}

-- ---- lines
pub data Line : Type 0 where
  -- the bytes ahead of a line feed
  whole : List ℕ → Line
  -- bytes that no line feed follows
  cut_off : List ℕ → Line

-- a byte ahead of a line
abbrev pub in_first_line : ℕ → List Line → List Line
in_first_line b [] = cut_off (b ∷ []) ∷ []
in_first_line b (whole l ∷ ls) = whole (b ∷ l) ∷ ls
in_first_line b (cut_off l ∷ ls) = cut_off (b ∷ l) ∷ ls

abbrev pub lines : List ℕ → List Line
lines [] = []
lines (b ∷ bs) = cond (b == 10) (whole [] ∷ lines bs) (in_first_line b (lines bs))

-- ---- fields, which commas part
abbrev pub fields : List ℕ → List (List ℕ)
fields l = slice_split (λ b. b == 44) l

-- the field k, the first being 0
abbrev pub field : ℕ → List (List ℕ) → List ℕ
field k fs = slice_index_or fs k []

-- the column in which it begins: 1 for the first, and one for each byte and comma ahead
abbrev pub column : ℕ → List (List ℕ) → ℕ
column zero fs = 1
column (suc k) [] = 1
column (suc k) (f ∷ fs) = length f + 1 + column k fs

-- a line whose bytes these are; `has_feed` where its line feed stands behind them
abbrev pub line_with : Bool → List ℕ → Line
line_with true l = whole l
line_with false l = cut_off l
