-- All connections of a query, listed by plain recursion, and what the list tells. Where trains are few it can be computed.
use Rattle.std.specs.Prelude.{◌≡◌, ℕ, zero, suc, Bool, true, false, ◌&&◌, T, List, [], ◌∷◌, ◌++◌, length, map, filter, flat_map, Contains, nat_lt}
use Rattle.std.specs.List.{list_all, range_with_len}
use Rattle.tariff.specs.Meaning.{Meaning}
use Rattle.connection.specs.Cheapest.{HasNoConnection}
use Rattle.connection.specs.Connections.{Connection}
use Rattle.connection.specs.Moves.{boardable, starts, ends, meets}
use Rattle.connection.specs.Prices.{price}
use Rattle.connection.specs.Rides.{may_alight, stops_at, alights, ride}
use Rattle.connection.specs.Shifts.{all_shifts}
use Rattle.connection.specs.Timetable.{Timetable}
use Rattle.connection.specs.declared.query.Query.{Query}
use Rattle.connection.specs.declared.ride.Ride.{Ride}
use Rattle.connection.specs.declared.ride.Shift.{Shift}

-- each of the rides, before each list of rides that may come after it
abbrev pub each_before : (Ride → List (List Ride)) → List Ride → List (List Ride)
each_before after rides = flat_map (λ r. map (λ rest. r ∷ rest) (after r)) rides

-- no ride more, where that may be
abbrev pub no_more_if : Bool → List (List Ride)
no_more_if true = [] ∷ []
no_more_if false = []

module _ (timetable : Timetable) (q : Query) where
  -- ---- tests of rides
  -- the query may use the ride
  abbrev pub may_use : Ride → Bool
  may_use r =
      boardable timetable q r.train r.shift r.board
      && (nat_lt r.board r.alight && (nat_lt r.alight (length (stops_at timetable.trains r.train)) && may_alight (alights timetable.trains r)))

  -- it may be the first
  abbrev pub may_be_first : Ride → Bool
  may_be_first r = starts timetable q r.train r.shift r.board

  -- one may change from it to the next
  abbrev pub may_be_next : Ride → Ride → Bool
  may_be_next r next = meets timetable q r.train r.shift r.alight next.train next.shift next.board

  -- it ends at the destination
  abbrev pub may_be_last : Ride → Bool
  may_be_last r = ends timetable.trains q r.train r.alight

  -- ---- lists of rides
  -- those of a run, from any stop to any
  abbrev pub rides_of : ℕ → Shift → List Ride
  rides_of n s =
      let places = range_with_len 0 (length (stops_at timetable.trains n)) in
      flat_map (λ b. map (λ a. ride n s b a) places) places

  -- all that the query may use
  abbrev pub rides_to_use : List Ride
  rides_to_use = filter may_use (flat_map (λ n. flat_map (rides_of n) all_shifts) (range_with_len 0 (length timetable.trains)))

  -- ---- lists of journeys
  -- from the ride r on to the destination, by `more` of the rides at most: each can be made after the one before
  abbrev pub onward : List Ride → ℕ → Ride → List (List Ride)
  onward rides zero r = no_more_if (may_be_last r)
  onward rides (suc more) r = no_more_if (may_be_last r) ++ each_before (onward rides more) (filter (may_be_next r) rides)

  -- the connections, each as its rides
  abbrev pub connections : List (List Ride)
  connections = let rides = rides_to_use in each_before (onward rides q.changes) (filter may_be_first rides)

-- ---- what the list tells
module _ {Total : Type 0} (m : Meaning Total) where
  -- the total is at most the price of each listed connection
  abbrev pub at_most_each : Timetable → Query → Total → Bool
  at_most_each timetable q total = list_all (λ rides. m.at_most total (price m timetable q rides)) (connections timetable q)

  -- what it tells of one query
  pub record Tells (timetable : Timetable) (q : Query) : Type 0 where
    pub each_is_one : (rides : List Ride) → Contains (connections timetable q) rides → Connection timetable q rides
    pub each_is_listed : (rides : List Ride) → Connection timetable q rides → Contains (connections timetable q) rides
    pub none_is_missing : connections timetable q ≡ [] → HasNoConnection timetable q
    pub none_is_cheaper : (total : Total) → T (at_most_each timetable q total) → (rides : List Ride) → Connection timetable q rides → T (m.at_most total (price m timetable q rides))

  -- Of every query: each listed one is a connection, and each connection is listed; where none is listed, there is none; and a total
  -- that is at most the price of each listed one is at most the price of every connection.
  abbrev pub ListTells : Type 0
  ListTells = (timetable : Timetable) (q : Query) → Tells timetable q
