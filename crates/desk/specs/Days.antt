-- How agents write a day: by its number, or by its date.
use Rattle.std.specs.Prelude.{ℕ, List, Option, option_and_then}
use Rattle.std.specs.Option.{option_or}
use Rattle.calendar.specs.Dates.{date_written, day_of}
use Rattle.text.specs.Numbers.{end_of_16_bits, number}

abbrev pub day : List ℕ → Option ℕ
day word = option_or (number end_of_16_bits word) (option_and_then day_of (date_written word))
