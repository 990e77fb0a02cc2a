-- A number that is printed to so many digits has zeros ahead of it.
use Rattle.std.proofs.Common.{◌≡◌, ℕ, ◌-◌, ◌^◌, false, [], arith}
use Rattle.std.proofs.lemmas.Grind.{common_steps}
use Rattle.std.specs.Fmt.{decimal, format_spec, padded_integral, char_count}
use Rattle.calendar.specs.Dates.{zero_filled}

pub zeros_ahead : (digits n : ℕ) → padded_integral (format_spec 32 0 4 digits (2 ^ 64 - 1)) false [] (decimal n) ≡ zero_filled digits n
unfolding padded_integral char_count
zeros_ahead digits n = grind (arith, common_steps)
