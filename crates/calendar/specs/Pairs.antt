-- A set of pairs of a code and a day, as the test whether a pair is in it.
use Rattle.std.specs.Prelude.{ℕ, Bool}

abbrev pub Pairs : Type 0
Pairs = ℕ → ℕ → Bool
