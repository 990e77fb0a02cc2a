-- The digits of a number, one by one from the left.
use Rattle.std.proofs.Common.{◌≡◌, ℕ, ◌+◌, ◌/◌, ◌%◌, ◌<◌, ◌≤◌, [], ◌∷◌, ◌++◌, length, decimal, ap, ◌∙◌, arith}
use Rattle.std.proofs.lemmas.List.{length_push}
use Rattle.std.proofs.lemmas.Fmt.{decimal_digit, decimal_step}
use Rattle.text.specs.Numbers.{end_of_16_bits}

pub digit_more : (n : ℕ) → 10 ≤ n → n < end_of_16_bits → decimal n ≡ decimal (n / 10) ++ (48 + n % 10) ∷ []
digit_more n h k = decimal_step n h (omega arith)

pub length_one_digit : (n : ℕ) → n < 10 → length (decimal n) ≡ 1
length_one_digit n h = ap length (decimal_digit n h)

pub length_digit_more : (n : ℕ) → 10 ≤ n → n < end_of_16_bits → length (decimal n) ≡ length (decimal (n / 10)) + 1
length_digit_more n h k = ap length (digit_more n h k) ∙ length_push (decimal (n / 10)) (48 + n % 10)

-- ---- how many digits there are
pub length_two_digits : (n : ℕ) → 10 ≤ n → n < 100 → length (decimal n) ≡ 2
length_two_digits n h k = omega (arith, length_digit_more n h (omega arith), length_one_digit (n / 10) (omega arith))

pub length_three_digits : (n : ℕ) → 100 ≤ n → n < 1000 → length (decimal n) ≡ 3
length_three_digits n h k = omega (arith, length_digit_more n (omega arith) (omega arith), length_two_digits (n / 10) (omega arith) (omega arith))

pub length_four_digits : (n : ℕ) → 1000 ≤ n → n < 10000 → length (decimal n) ≡ 4
length_four_digits n h k = omega (arith, length_digit_more n (omega arith) (omega arith), length_three_digits (n / 10) (omega arith) (omega arith))

pub length_five_digits : (n : ℕ) → 10000 ≤ n → n < end_of_16_bits → length (decimal n) ≡ 5
length_five_digits n h k = omega (arith, length_digit_more n (omega arith) k, length_four_digits (n / 10) (omega arith) (omega arith))
