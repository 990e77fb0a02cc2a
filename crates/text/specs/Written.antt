-- How trains are written: the line of names, and then each stop in a line of its own.
use Rattle.std.specs.Prelude.{◌≡◌, ℕ, ◌<◌, List, [], ◌∷◌, ◌++◌, Some, None, Option, codes, decimal, flat_map}
use Rattle.std.specs.List.{join_with_byte, AllByRecursion}
use Rattle.book.specs.Stops.{leaves}
use Rattle.book.specs.Trains.{Train}
use Rattle.book.specs.declared.rows.Departure.{Departure}
use Rattle.book.specs.declared.rows.StopRow.{StopRow}
use Rattle.text.specs.Numbers.{end_of_8_bits, end_of_16_bits}
use Rattle.text.specs.Times.{clock}
use Rattle.text.specs.declared.stop_line.StopLine.{StopLine}

abbrev pub names : List ℕ
names = codes "train,code,features,station,arrive,depart,fare"

abbrev pub clock_or_blank : Option ℕ → List ℕ
clock_or_blank None = []
clock_or_blank (Some m) = clock m

abbrev pub fare_or_blank : Option Departure → List ℕ
fare_or_blank None = []
fare_or_blank (Some d) = decimal d.fare

-- the fields of a stop's line
abbrev pub fields_of : StopLine → List (List ℕ)
fields_of l =
    decimal l.number ∷ decimal l.code ∷ decimal l.features ∷ decimal l.stop.station ∷ clock_or_blank l.stop.arrive
    ∷ clock_or_blank (leaves l.stop.depart) ∷ fare_or_blank l.stop.depart ∷ []

-- fields with a comma between each two
abbrev pub with_commas : List (List ℕ) → List ℕ
with_commas fs = join_with_byte 44 fs

unfoldable pub line_of : StopLine → List ℕ
line_of l = with_commas (fields_of l) ++ 10 ∷ []

abbrev pub stop_of : Train → StopRow → StopLine
stop_of t s = record { number = t.number; code = t.code; features = t.features; stop = s }

abbrev pub lines_of : Train → List ℕ
lines_of t = flat_map (λ s. line_of (stop_of t s)) t.stops

-- the text of these trains
abbrev pub text_of : List Train → List ℕ
text_of ts = names ++ 10 ∷ flat_map lines_of ts

-- ---- what the types of a line's values say of them
pub record Typed (l : StopLine) : Type 0 where
  pub number : l.number < end_of_16_bits
  pub code : l.code < end_of_8_bits
  pub features : l.features < end_of_16_bits
  pub station : l.stop.station < end_of_16_bits
  pub fare : (d : Departure) → l.stop.depart ≡ Some d → d.fare < end_of_16_bits

abbrev pub AllTyped : List Train → Type 0
AllTyped ts = AllByRecursion (λ (t : Train). AllByRecursion (λ (s : StopRow). Typed (stop_of t s)) t.stops) ts
