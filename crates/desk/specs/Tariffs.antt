-- How agents write the tariff by which connections are compared: `minutes:PENALTY`, `fares` or `waits`.
use Rattle.std.specs.Prelude.{ℕ, cond, List, ◌++◌, Some, None, Option, option_map, codes, decimal, bytes_eq}
use Rattle.text.specs.Cuts.{front, behind}
use Rattle.text.specs.Numbers.{end_of_16_bits, number}
use Rattle.desk.specs.declared.asked.Asked.{Asked}
use Rattle.desk.specs.declared.asked.Asked.TheVariants as tariffs

abbrev pub by_minutes : List ℕ → Option Asked
by_minutes word = cond (bytes_eq (front 58 word) (codes "minutes")) (option_map (λ penalty. tariffs.Minutes penalty) (number end_of_16_bits (behind 58 word))) None

abbrev pub tariff_named : List ℕ → Option Asked
tariff_named word =
    cond (bytes_eq word (codes "fares")) (Some tariffs.Fares) (
    cond (bytes_eq word (codes "waits")) (Some tariffs.Waits) (by_minutes word))

-- the words that name it
abbrev pub tariff_name : Asked → List ℕ
tariff_name (tariffs.Minutes penalty) = codes "minutes:" ++ decimal penalty
tariff_name tariffs.Fares = codes "fares"
tariff_name tariffs.Waits = codes "waits"
