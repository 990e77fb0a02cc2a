-- Every journey at the edges is answered: it can be asked, and the answers of its cheapest connections are known.
use Rattle.std.proofs.Common.{◌≡◌, ℕ, ◌≤◌, Bool, true, false, not, ◌&&◌, ◌==◌, T, List, [], ◌∷◌, take, Some, None, Ok, Err, Option, Result, Contains, refl, subst}
use Rattle.std.proofs.lemmas.Bool.{le-ltb}
use Rattle.std.specs.List.{AllByRecursion}
use Rattle.tariff.specs.Meaning.{Meaning}
use Rattle.book.specs.Trains.{all_stops}
use Rattle.book.proofs.FirstReason.{no_reason}
use Rattle.connection.specs.Connections.{most_rides}
use Rattle.connection.specs.SmallTimetable.{TariffAsked, minutes_and_5_a_change, fares_then_minutes, longest_of_waits, Found, Case, Under, HoldsUnder, Holds, edge_journeys, EveryEdgeJourneyHolds}
use Rattle.connection.specs.declared.query.Query.{Query}
use Rattle.connection.specs.declared.ride.Ride.{Ride}
use Rattle.connection.proofs.Tests.{both_left, both_right}
use Rattle.search.specs.Answers.{Guarantee}
use Rattle.search.specs.EdgeAnswers.{IsAnswer, IsAnswered, EveryEdgeJourneyIsAnswered, EveryEdgeTimetableCanBeEntered}
use Rattle.search.specs.Limits.{records_needed}
use Rattle.search.specs.Refusals.{bad_query, query_reasons, query_fault}
use Rattle.search.specs.declared.refusal.Refusal.{Refusal}

-- ---- it can be asked
can_be_asked : Query → Bool
can_be_asked q = not (bad_query q) && not (q.origin == q.destination)

fails : (b : Bool) → T (not b) → b ≡ false
fails true t = absurd t
fails false t = refl

nothing_refuses : (c : Case) (ride_room work_room : ℕ) → T (can_be_asked c.query) → most_rides c.query ≤ ride_room → records_needed (all_stops c.timetable.trains) c.query ≤ work_room
    → query_fault c.timetable.trains c.query ride_room work_room ≡ None
unfolding can_be_asked
nothing_refuses c ride_room work_room t rides records =
    let fair = not (bad_query c.query) in
    no_reason (query_reasons c.query (all_stops c.timetable.trains) ride_room work_room)
    (fails _ (both_left fair _ t), (fails _ (both_right fair _ t), (le-ltb _ _ rides, (le-ltb _ _ records, tt))))

-- ---- under one tariff
module _ {Total : Type 0} (m : Meaning Total) (shown : Total → List ℕ) where
  answered : (c : Case) (found : Option Found) → HoldsUnder m shown c found → (ride_room work_room : ℕ) → query_fault c.timetable.trains c.query ride_room work_room ≡ None
      → (r : Result (Total × ℕ) Refusal) (rides : List Ride) → Guarantee m c.timetable c.query ride_room work_room r rides → IsAnswer m shown c found r
  answered c None none ride_room work_room passes r rides g = g.none.1 (passes, none)
  answered c (Some f) hold ride_room work_room passes (Err reason) rides g = absurd (cc (g.found.1 (passes, (f.rides, hold.0.connection))))
  answered c (Some f) hold ride_room work_room passes (Ok found) rides g =
      let finds = g.cheapest found.0 found.1 refl in
      let same = hold.1 found.0 (take found.1 rides) finds.cheapest in
      (same.0, subst (Contains f.counts) finds.counted same.1)

  is_answered : (c : Case) → T (can_be_asked c.query) → HoldsUnder m shown c c.found → IsAnswered m shown c
  is_answered c t hold ride_room work_room r rides long_rides long_work g = answered c c.found hold ride_room work_room (nothing_refuses c ride_room work_room t long_rides long_work) r rides g

-- ---- all of them
all_can_be_asked : List Case → Bool
all_can_be_asked [] = true
all_can_be_asked (c ∷ cs) = can_be_asked c.query && all_can_be_asked cs

each_can_be_asked : T (all_can_be_asked edge_journeys)
unfolding all_can_be_asked can_be_asked
each_can_be_asked = tt

answered_by : (p : TariffAsked) (c : Case) → T (can_be_asked c.query) → Under p (λ Total m shown. HoldsUnder m shown c c.found) → Under p (λ Total m shown. IsAnswered m shown c)
answered_by minutes_and_5_a_change c t hold = is_answered _ _ c t hold
answered_by fares_then_minutes c t hold = is_answered _ _ c t hold
answered_by longest_of_waits c t hold = is_answered _ _ c t hold

all_answered : (cs : List Case) → T (all_can_be_asked cs) → AllByRecursion Holds cs → AllByRecursion (λ c. Under c.tariff (λ Total m shown. IsAnswered m shown c)) cs
unfolding all_can_be_asked
all_answered [] t holds = tt
all_answered (c ∷ cs) t holds = (answered_by c.tariff c (both_left (can_be_asked c.query) _ t) holds.0, all_answered cs (both_right (can_be_asked c.query) _ t) holds.1)

pub edge_journeys_are_answered : EveryEdgeJourneyHolds → EveryEdgeJourneyIsAnswered
unfolding EveryEdgeJourneyHolds EveryEdgeJourneyIsAnswered
edge_journeys_are_answered holds = all_answered edge_journeys each_can_be_asked holds

-- ---- the timetables can be had
pub edge_timetables_can_be_entered : EveryEdgeTimetableCanBeEntered
unfolding EveryEdgeTimetableCanBeEntered
edge_timetables_can_be_entered = (refl, (refl, (refl, (refl, (refl, (refl, (refl, (refl, (refl, (refl, tt))))))))))
