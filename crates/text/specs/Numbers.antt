-- How a number is written, by carriers and by us: `decimal n` is its digits, as they are also printed, with no zero ahead.
use Rattle.std.specs.Prelude.{ℕ, ◌+◌, ◌-◌, ◌*◌, Bool, false, not, ◌&&◌, List, [], ◌∷◌, Option, ◌==◌, nat_lt, bytes_eq, decimal}
use Rattle.std.specs.Bool.{then_some}
use Rattle.std.specs.Char.{is_ascii_digit}
use Rattle.std.specs.Str.{all_ascii_digits}

-- the first numbers that 8 and 16 bits do not hold
abbrev pub end_of_8_bits : ℕ
end_of_8_bits = 256

abbrev pub end_of_16_bits : ℕ
end_of_16_bits = 65536

-- what digits are worth behind the number n: each moves what stands ahead of it one place up
abbrev pub worth_behind : ℕ → List ℕ → ℕ
worth_behind n [] = n
worth_behind n (c ∷ cs) = worth_behind (10 * n + (c - 48)) cs

abbrev pub worth : List ℕ → ℕ
worth bs = worth_behind 0 bs

-- the number below `limit` that is written as these bytes, if there is one
unfoldable pub number : ℕ → List ℕ → Option ℕ
number limit bs = then_some (bytes_eq bs (decimal (worth bs)) && nat_lt (worth bs) limit) (worth bs)

-- ---- in the words of the digits
-- at least one, and no zero ahead of another
abbrev pub are_digits : List ℕ → Bool
are_digits [] = false
are_digits (c ∷ []) = is_ascii_digit c
are_digits (c ∷ d ∷ cs) = not (c == 48) && all_ascii_digits (c ∷ d ∷ cs)

unfoldable pub number_by_digits : ℕ → List ℕ → Option ℕ
number_by_digits limit bs = then_some (are_digits bs && nat_lt (worth bs) limit) (worth bs)

-- the number n with one digit more, where that is below `limit`
abbrev pub with_digit : ℕ → ℕ → ℕ → Option ℕ
with_digit limit n c = then_some (is_ascii_digit c && nat_lt (10 * n + (c - 48)) limit) (10 * n + (c - 48))
