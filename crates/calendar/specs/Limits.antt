-- How many exceptions a layer has room for.
use Rattle.std.specs.Prelude.{ℕ}

abbrev pub most_exceptions : ℕ
most_exceptions = 64
