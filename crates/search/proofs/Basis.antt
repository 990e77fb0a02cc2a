-- What every step of a search stands on: the laws of the tariff; and with the rows of an inquiry, what the argument stands on.
use Rattle.tariff.specs.Laws.{Connex, Transitive, Grows, Keeps, Starts, Counts}
use Rattle.tariff.specs.Meaning.{Meaning}
use Rattle.book.specs.Trains.{trains_in}
use Rattle.calendar.specs.Pairs.{Pairs}
use Rattle.connection.proofs.Ground.{Ground}
use Rattle.connection.proofs.Times.{on_time}
use Rattle.search.specs.Working.{asked_over}
use Rattle.search.specs.declared.inquiry.Inquiry.{Inquiry}

pub record Basis {A : Type 0} (m : Meaning A) : Type 0 where
  pub connex : Connex m
  pub transitive : Transitive m
  pub grows : Grows m
  pub keeps : Keeps m
  pub starts : Starts m
  pub counts : Counts m

pub ground : {A : Type 0} {m : Meaning A} → Basis m → {P : Type 0} (inquiry : Inquiry P) (runs : Pairs) → Ground m (asked_over inquiry runs)
ground basis inquiry runs =
    record {
      connex = basis.connex;
      transitive = basis.transitive;
      grows = basis.grows;
      keeps = basis.keeps;
      starts = basis.starts;
      counts = basis.counts;
      on_time = on_time (trains_in inquiry.trains.now inquiry.stops.now) inquiry.lawful;
    }
