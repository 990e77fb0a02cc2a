-- What a call that puts bytes into a buffer leaves behind.
use Rattle.std.specs.Prelude.{◌≡◌, ℕ, ◌+◌, ◌≤◌, List, [], ◌∷◌, ◌++◌, Option, length, take, drop}
use Rattle.book.specs.Stops.{leaves}
use Rattle.book.specs.declared.rows.Departure.{Departure}
use Rattle.text.specs.Written.{clock_or_blank, fare_or_blank}

-- the buffer with bytes from `at` on, and all else as it was
abbrev pub placed : List ℕ → ℕ → List ℕ → List ℕ
placed bs at buffer = take at buffer ++ bs ++ drop (at + length bs) buffer

-- the bytes stand from `at` to `end`, and all else in the buffer is as it was
pub record Put (bs : List ℕ) (at : ℕ) (old : List ℕ) (end : ℕ) (new : List ℕ) : Type 0 where
  pub ends : end ≡ at + length bs
  pub fits : end ≤ length old
  pub bytes : new ≡ placed bs at old

-- a field that a comma follows
abbrev pub and_comma : List ℕ → List ℕ
and_comma f = f ++ 44 ∷ []

-- the last two fields of a line, and its end
abbrev pub departure_and_end : Option Departure → List ℕ
departure_and_end d = and_comma (clock_or_blank (leaves d)) ++ fare_or_blank d ++ 10 ∷ []
