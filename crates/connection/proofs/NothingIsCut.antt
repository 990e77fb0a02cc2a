-- No stretch is longer, or dearer, than a step can hold.
use Rattle.std.proofs.Common.{◌≡◌, ℕ, zero, suc, ◌+◌, ◌<◌, ◌≤◌, List, [], ◌∷◌, ◌++◌, length, take, drop, Some, None, Option, IfSome, refl, arith}
use Rattle.std.specs.List.{AllByRecursion}
use Rattle.std.proofs.ByRecursion.{All-weaker}
use Rattle.tariff.specs.declared.step.Kind.{Kind}
use Rattle.tariff.specs.declared.step.Kind.TheVariants.{Start, Change}
use Rattle.book.specs.Histories.{EveryHistoryIsLawful, EveryHistoryIsTyped}
use Rattle.book.specs.Limits.{last_minute}
use Rattle.book.specs.PlainList.{in_force}
use Rattle.book.specs.Rules.{Rules, stop_at}
use Rattle.book.specs.Trains.{Train}
use Rattle.book.specs.Types.{DepartureTyped, StopTyped, TrainTyped, TrainsTyped}
use Rattle.book.specs.declared.rows.Departure.{Departure}
use Rattle.book.specs.declared.rows.StopRow.{StopRow}
use Rattle.connection.specs.Clock.{ready}
use Rattle.connection.specs.Prices.{over, stops_of, stretches_from}
use Rattle.connection.specs.Rides.{arrival, departure, fare_on, stops_at, arrives}
use Rattle.connection.specs.Timetable.{Timetable, timetable_of}
use Rattle.connection.specs.Whole.{KeepTheRules, HaveFares, Whole, NothingIsCut, NothingIsCutInForce}
use Rattle.connection.specs.declared.query.Query.{Query}
use Rattle.connection.specs.declared.ride.Ride.{Ride}
use Rattle.connection.proofs.FewSteps.{midnight_by}

-- a stop with times and fare as the rules allow
record Small (s : StopRow) : Type 0 where
  gets_in : arrival s ≤ last_minute
  goes_out : departure s ≤ last_minute
  pays : fare_on s ≤ 65535

-- ---- lists
all_append : {X : Type 0} (P : X → Type 0) (xs ys : List X) → AllByRecursion P xs → AllByRecursion P ys → AllByRecursion P (xs ++ ys)
all_append P [] ys a b = b
all_append P (x ∷ xs) ys a b = (a.0, all_append P xs ys a.1 b)

all_take : {X : Type 0} (P : X → Type 0) (n : ℕ) (xs : List X) → AllByRecursion P xs → AllByRecursion P (take n xs)
all_take P zero xs a = tt
all_take P (suc n) [] a = tt
all_take P (suc n) (x ∷ xs) a = (a.0, all_take P n xs a.1)

all_drop : {X : Type 0} (P : X → Type 0) (n : ℕ) (xs : List X) → AllByRecursion P xs → AllByRecursion P (drop n xs)
all_drop P zero xs a = a
all_drop P (suc n) [] a = tt
all_drop P (suc n) (x ∷ xs) a = all_drop P n xs a.1

all_stops_small : (ss : List StopRow) → ((i : ℕ) → i < length ss → arrival (stop_at ss i) ≤ last_minute) → ((i : ℕ) → i < length ss → departure (stop_at ss i) ≤ last_minute) → AllByRecursion (λ (s : StopRow). fare_on s ≤ 65535) ss → AllByRecursion Small ss
all_stops_small [] a d f = tt
all_stops_small (s ∷ ss) a d f =
    (record { gets_in = a 0 (omega arith); goes_out = d 0 (omega arith); pays = f.0 }, all_stops_small ss (λ i h. a (suc i) (omega arith)) (λ i h. d (suc i) (omega arith)) f.1)

-- ---- times
arrives_small : (number : ℕ) (ss : List StopRow) → Rules number ss → (i : ℕ) → i < length ss → arrival (stop_at ss i) ≤ last_minute
arrives_small number ss rules i h = go (stop_at ss i).arrive (λ m e. rules.arrives_in_time i m h e) refl
  where
    go : (o : Option ℕ) → ((m : ℕ) → (stop_at ss i).arrive ≡ Some m → m ≤ last_minute) → (stop_at ss i).arrive ≡ o → elim o [ Some m ↦ m | None ↦ 0 ] ≤ last_minute
    go (Some m) small e = small m e
    go None small e = omega arith

departs_small : (number : ℕ) (ss : List StopRow) → Rules number ss → (i : ℕ) → i < length ss → departure (stop_at ss i) ≤ last_minute
departs_small number ss rules i h = go (stop_at ss i).depart (λ d e. rules.departs_in_time i d h e) refl
  where
    go : (o : Option Departure) → ((d : Departure) → (stop_at ss i).depart ≡ Some d → d.minute ≤ last_minute) → (stop_at ss i).depart ≡ o → elim o [ Some d ↦ d.minute | None ↦ 0 ] ≤ last_minute
    go (Some d) small e = small d e
    go None small e = omega arith

stops_small : (trains : List Train) → KeepTheRules trains → HaveFares trains → (n : ℕ) → AllByRecursion Small (stops_at trains n)
stops_small [] rules fares n = tt
stops_small (t ∷ ts) rules fares zero =
    all_stops_small t.stops (arrives_small t.number t.stops rules.0) (departs_small t.number t.stops rules.0) fares.0
stops_small (t ∷ ts) rules fares (suc n) = stops_small ts rules.1 fares.1 n

-- also past the last stop
leaves_small : (ss : List StopRow) → AllByRecursion Small ss → (i : ℕ) → departure (stop_at ss i) ≤ last_minute
leaves_small [] a i = omega arith
leaves_small (s ∷ ss) a zero = a.0.goes_out
leaves_small (s ∷ ss) a (suc i) = leaves_small ss a.1 i

-- ---- stretches
over_whole : (ss : List StopRow) → AllByRecursion Small ss → AllByRecursion Whole (over ss)
over_whole [] a = tt
over_whole (s ∷ []) a = tt
over_whole (s ∷ t ∷ []) a = ((omega (arith, a.1.0.gets_in), a.0.pays), tt)
over_whole (s ∷ t ∷ u ∷ more) a =
    ((omega (arith, a.1.0.gets_in), a.0.pays), ((omega (arith, a.1.0.goes_out), omega arith), over_whole (t ∷ u ∷ more) a.1))

module _ (timetable : Timetable) (q : Query) (small : (n : ℕ) → AllByRecursion Small (stops_at timetable.trains n)) where
  rides_whole : (wait : Kind) (since : ℕ) (rides : List Ride) → AllByRecursion Whole (stretches_from timetable q wait since rides)
  rides_whole wait since [] = tt
  rides_whole wait since (r ∷ rest) =
      let out = leaves_small (stops_at timetable.trains r.train) (small r.train) r.board in
      let ss = stops_at timetable.trains r.train in (
        (omega (arith, out, midnight_by q r.shift), omega arith),
        all_append Whole (over (stops_of timetable.trains r)) (stretches_from timetable q Change (arrives timetable q r) rest)
            (over_whole (stops_of timetable.trains r) (all_drop Small r.board (take (r.alight + 1) ss) (all_take Small (r.alight + 1) ss (small r.train))))
            (rides_whole Change (arrives timetable q r) rest),
      )

pub nothing_is_cut : NothingIsCut
nothing_is_cut timetable q rides rules fares = rides_whole timetable q (stops_small timetable.trains rules fares) Start (ready q) rides

-- ---- the trains in force
fare_fits : (o : Option Departure) → IfSome o DepartureTyped → elim o [ Some d ↦ d.fare | None ↦ 0 ] ≤ 65535
fare_fits (Some d) typed = typed.fare
fare_fits None typed = omega arith

have_fares : (trains : List Train) → TrainsTyped trains → HaveFares trains
have_fares =
    All-weaker TrainTyped (λ (t : Train). AllByRecursion (λ (s : StopRow). fare_on s ≤ 65535) t.stops)
    (λ t typed. All-weaker StopTyped (λ (s : StopRow). fare_on s ≤ 65535) (λ s it. fare_fits s.depart it.depart) t.stops typed.stops)

pub nothing_is_cut_in_force : EveryHistoryIsLawful → EveryHistoryIsTyped → NothingIsCutInForce
nothing_is_cut_in_force lawful typed tr sr calls st ts ss history runs q rides =
    let trains = (in_force tr sr calls).trains in
    nothing_is_cut (timetable_of trains runs) q rides (lawful tr sr calls st ts ss history).rules (have_fares trains (typed tr sr calls st ts ss history))
