-- What is answered to the journeys at the edges, by every search that keeps the guarantee.
use Rattle.std.specs.Prelude.{◌≡◌, ℕ, ◌≤◌, List, [], ◌∷◌, ◌++◌, length, map, flat_map, Contains, Some, None, Err, Option, Result, IsOkAnd}
use Rattle.std.specs.List.{AllByRecursion}
use Rattle.tariff.specs.Meaning.{Meaning}
use Rattle.book.specs.PlainList.{Call, begins, stops, finishes, in_force}
use Rattle.book.specs.Trains.{Train, all_stops}
use Rattle.connection.specs.Connections.{most_rides}
use Rattle.connection.specs.SmallTimetable.{Found, Case, Under, edge_journeys}
use Rattle.connection.specs.declared.ride.Ride.{Ride}
use Rattle.search.specs.Answers.{Guarantee}
use Rattle.search.specs.Limits.{records_needed}
use Rattle.search.specs.declared.refusal.Refusal.{Refusal}
use Rattle.search.specs.declared.refusal.Refusal.TheVariants.{NoConnection}

module _ {Total : Type 0} (m : Meaning Total) (shown : Total → List ℕ) (c : Case) where
  -- the total that is shown so, with one of these numbers of rides; or that there is no connection
  abbrev pub IsAnswer : Option Found → Result (Total × ℕ) Refusal → Type 0
  IsAnswer (Some f) r = IsOkAnd r (λ found. (shown found.0 ≡ f.total) × Contains f.counts found.1)
  IsAnswer None r = r ≡ Err NoConnection

  -- with a ride list and a work table that are long enough, whatever keeps the guarantee answers so. Of a total what is shown is told:
  -- the count of its steps counts for nothing in the order, so that two cheapest ones may differ in it
  abbrev pub IsAnswered : Type 0
  IsAnswered =
      (ride_room work_room : ℕ) (r : Result (Total × ℕ) Refusal) (rides : List Ride)
      → most_rides c.query ≤ ride_room → records_needed (all_stops c.timetable.trains) c.query ≤ work_room
      → Guarantee m c.timetable c.query ride_room work_room r rides → IsAnswer c.found r

-- of each case
unfoldable pub EveryEdgeJourneyIsAnswered : Type 0
EveryEdgeJourneyIsAnswered = AllByRecursion (λ c. Under c.tariff (λ Total m shown. IsAnswered m shown c)) edge_journeys

-- ---- that a book can have these timetables
-- the calls that enter the trains, one after another
abbrev pub entering : List Train → List Call
entering trains = flat_map (λ (t : Train). begins t.number t.code t.features ∷ map stops t.stops ++ finishes ∷ []) trains

-- after them just these trains are in force, in a new book with no more rows than they need
abbrev pub CanBeEntered : List Train → Type 0
CanBeEntered trains = (in_force (length trains) (all_stops trains) (entering trains)).trains ≡ trains

unfoldable pub EveryEdgeTimetableCanBeEntered : Type 0
EveryEdgeTimetableCanBeEntered = AllByRecursion (λ (c : Case). CanBeEntered c.timetable.trains) edge_journeys
