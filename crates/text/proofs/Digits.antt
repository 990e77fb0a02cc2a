-- A number is read digit after digit.
use Rattle.std.proofs.Common.{◌≡◌, ℕ, ◌+◌, ◌-◌, ◌*◌, ◌<◌, ◌≤◌, ◌&&◌, ltb, List, [], ◌∷◌, length, get_or, Some, None, Option, arith}
use Rattle.std.specs.Bool.{then_some}
use Rattle.std.specs.Str.{all_ascii_digits}
use Rattle.std.proofs.lemmas.Bool.Decides.{nat_tests}
use Rattle.text.specs.Numbers.{worth_behind, number_by_digits, with_digit}

-- what is read in the end, the number n being read and these bytes left
abbrev pub rest_number : ℕ → ℕ → List ℕ → Option ℕ
rest_number limit n bs = then_some (all_ascii_digits bs && ltb (worth_behind n bs) limit) (worth_behind n bs)

read_more : (n : ℕ) (bs : List ℕ) → n ≤ worth_behind n bs
read_more n [] = omega arith
read_more n (c ∷ cs) = omega (arith, read_more (10 * n + (c - 48)) cs)

pub no_digit : (limit n c : ℕ) (cs : List ℕ) → None ≡ with_digit limit n c → None ≡ rest_number limit n (c ∷ cs)
no_digit limit n c cs e = grind (arith, nat_tests, read_more)

pub number_start : (limit : ℕ) (bs : List ℕ) → 0 < length bs → (2 ≤ length bs → get_or bs 0 0 ≡ 48 → ⊥) → rest_number limit 0 bs ≡ number_by_digits limit bs
unfolding number_by_digits
number_start limit [] h k = absurd (omega arith)
number_start limit (c ∷ []) h k = grind (arith, nat_tests)
number_start limit (c ∷ d ∷ cs) h k = grind (arith, nat_tests, k (omega arith))

pub number_empty : (limit : ℕ) (bs : List ℕ) → length bs ≡ 0 → None ≡ number_by_digits limit bs
unfolding number_by_digits
number_empty limit bs e = grind (arith, nat_tests)

pub number_zero_ahead : (limit : ℕ) (bs : List ℕ) → 2 ≤ length bs → get_or bs 0 0 ≡ 48 → None ≡ number_by_digits limit bs
unfolding number_by_digits
number_zero_ahead limit [] h e = absurd (omega arith)
number_zero_ahead limit (c ∷ []) h e = absurd (omega arith)
number_zero_ahead limit (c ∷ d ∷ cs) h e = grind (arith, nat_tests)

pub number_below : (limit n : ℕ) (bs : List ℕ) → Some n ≡ number_by_digits limit bs → n < limit
unfolding number_by_digits
number_below limit n bs e = grind (arith, nat_tests)
