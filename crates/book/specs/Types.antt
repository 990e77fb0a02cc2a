-- What the types of a call's values say of them: a code has 8 bits, and every other number 16.
use Rattle.std.specs.Prelude.{ℕ, ◌≤◌, List, IfSome}
use Rattle.std.specs.List.{AllByRecursion}
use Rattle.book.specs.Trains.{Train}
use Rattle.book.specs.declared.rows.Departure.{Departure}
use Rattle.book.specs.declared.rows.StopRow.{StopRow}

abbrev pub last_of_8_bits : ℕ
last_of_8_bits = 255

abbrev pub last_of_16_bits : ℕ
last_of_16_bits = 65535

pub record DepartureTyped (d : Departure) : Type 0 where
  pub minute : d.minute ≤ last_of_16_bits
  pub fare : d.fare ≤ last_of_16_bits

pub record StopTyped (s : StopRow) : Type 0 where
  pub station : s.station ≤ last_of_16_bits
  pub arrive : IfSome s.arrive (λ m. m ≤ last_of_16_bits)
  pub depart : IfSome s.depart DepartureTyped

pub record TrainTyped (t : Train) : Type 0 where
  pub number : t.number ≤ last_of_16_bits
  pub code : t.code ≤ last_of_8_bits
  pub features : t.features ≤ last_of_16_bits
  pub stops : AllByRecursion StopTyped t.stops

abbrev pub TrainsTyped : List Train → Type 0
TrainsTyped ts = AllByRecursion TrainTyped ts
