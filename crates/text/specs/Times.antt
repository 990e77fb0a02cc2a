-- How a time is written: two digits for the hours, a colon, and two digits for the minutes, from 00:00 to 99:59.
use Rattle.std.specs.Prelude.{ℕ, ◌+◌, ◌-◌, ◌*◌, ◌/◌, ◌%◌, Bool, ◌&&◌, List, [], ◌∷◌, length, Option, ◌==◌, nat_le, nat_lt, bytes_eq, slice_index_or}
use Rattle.std.specs.Bool.{then_some}
use Rattle.std.specs.Char.{is_ascii_digit}

-- minutes from midnight, as they are written
abbrev pub clock : ℕ → List ℕ
clock m = (48 + m / 60 / 10) ∷ (48 + m / 60 % 10) ∷ 58 ∷ (48 + m % 60 / 10) ∷ (48 + m % 60 % 10) ∷ []

-- the first minute with more than two digits of hours
abbrev pub end_of_clock : ℕ
end_of_clock = 6000

-- what two digits are worth
abbrev pub two : ℕ → ℕ → ℕ
two tens ones = 10 * (tens - 48) + (ones - 48)

abbrev pub byte : List ℕ → ℕ → ℕ
byte bs k = slice_index_or bs k 0

-- what the hours and minutes of these bytes are worth
abbrev pub clocked : List ℕ → ℕ
clocked bs = 60 * two (byte bs 0) (byte bs 1) + two (byte bs 3) (byte bs 4)

-- the minute that is written as these bytes, if there is one
unfoldable pub time : List ℕ → Option ℕ
time bs = then_some (bytes_eq bs (clock (clocked bs)) && nat_lt (clocked bs) end_of_clock) (clocked bs)

-- ---- in the words of the digits
-- four digits, the last two at most 59
abbrev pub are_clock_digits : ℕ → ℕ → ℕ → ℕ → Bool
are_clock_digits a b c d = is_ascii_digit a && is_ascii_digit b && (nat_le 48 c && nat_le c 53) && is_ascii_digit d

abbrev pub is_clock : List ℕ → Bool
is_clock bs = length bs == 5 && byte bs 2 == 58 && are_clock_digits (byte bs 0) (byte bs 1) (byte bs 3) (byte bs 4)

unfoldable pub time_by_digits : List ℕ → Option ℕ
time_by_digits bs = then_some (is_clock bs) (clocked bs)
