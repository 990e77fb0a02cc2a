-- What the argument stands on: a tariff that keeps the laws, and trains that keep the rules.
use Rattle.std.proofs.Common.{ℕ}
use Rattle.tariff.specs.Laws.{Connex, Transitive, Grows, Keeps, Starts, Counts}
use Rattle.tariff.specs.Meaning.{Meaning}
use Rattle.connection.specs.Rides.{stops_at}
use Rattle.connection.specs.Timetable.{Timetable}
use Rattle.connection.proofs.Times.{Punctual}

pub record Ground {A : Type 0} (m : Meaning A) (timetable : Timetable) : Type 0 where
  pub connex : Connex m
  pub transitive : Transitive m
  pub grows : Grows m
  pub keeps : Keeps m
  pub starts : Starts m
  pub counts : Counts m
  pub on_time : (n : ℕ) → Punctual (stops_at timetable.trains n)
