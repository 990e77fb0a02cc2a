-- The list holds each connection and nothing else. So it tells what every connection costs at least.
use Rattle.std.proofs.Common.{◌≡◌, ℕ, zero, suc, Bool, true, false, T, ltb, List, [], ◌∷◌, length, map, filter, flat_map, All, Contains, refl, subst, arith, eqb→eq, ltb→lt, lt→ltb}
use Rattle.std.specs.List.{range_with_len}
use Rattle.std.proofs.lemmas.List.Elements.{All-nil, All-cons, All-append, All-map, All-filter, All-contains, Contains-append_left, Contains-append_right}
use Rattle.tariff.specs.Meaning.{Meaning}
use Rattle.connection.specs.Cheapest.{HasNoConnection}
use Rattle.connection.specs.Connections.{Follows, Connection}
use Rattle.connection.specs.Listing.{each_before, no_more_if, may_use, may_be_first, may_be_next, may_be_last, rides_of, rides_to_use, onward, connections, ListTells}
use Rattle.connection.specs.Moves.{boardable}
use Rattle.connection.specs.Prices.{price}
use Rattle.connection.specs.Rides.{may_alight, stops_at, stop_of, Allowed, ride}
use Rattle.connection.specs.Shifts.{all_shifts}
use Rattle.connection.specs.Timetable.{Timetable}
use Rattle.connection.specs.declared.query.Query.{Query}
use Rattle.connection.specs.declared.ride.Ride.{Ride}
use Rattle.connection.specs.declared.ride.Shift.{Shift}
use Rattle.connection.specs.declared.ride.Shift.TheVariants.{DayBefore, SameDay, DayAfter}
use Rattle.connection.proofs.AllowedMoves.{may_ride, may_be_boarded, may_start, starting, meeting, may_change}
use Rattle.connection.proofs.InLists.{in_range, in_map, in_flat_map, all_in_flat_map, in_filter, passed_filter, passes_in}
use Rattle.connection.proofs.RideByRide.{GoesOn, after_first, from_first}
use Rattle.connection.proofs.Tests.{both_left, both_right, both_from, eq→eqb}

in_all_shifts : (s : Shift) → Contains all_shifts s
in_all_shifts DayBefore = (0, omega arith, refl)
in_all_shifts SameDay = (1, omega arith, refl)
in_all_shifts DayAfter = (2, omega arith, refl)

-- ---- one ride before others
in_each_before : (after : Ride → List (List Ride)) (rides : List Ride) (r : Ride) (rest : List Ride) → Contains rides r → Contains (after r) rest → Contains (each_before after rides) (r ∷ rest)
in_each_before after rides r rest c d =
    in_flat_map (λ x. map (λ l. x ∷ l) (after x)) rides r (r ∷ rest) c (in_map (λ l. r ∷ l) (after r) rest d)

all_each_before : (Q : Ride → Type 0) (P : List Ride → Type 0) (after : Ride → List (List Ride)) (rides : List Ride) → All Q rides → ((r : Ride) → Q r → All (λ rest. P (r ∷ rest)) (after r)) → All P (each_before after rides)
all_each_before Q P after rides a h =
    all_in_flat_map Q P (λ x. map (λ l. x ∷ l) (after x)) (λ r x. All-map P (λ l. r ∷ l) (after r) (h r x)) rides a

in_no_more : (b : Bool) → T b → Contains (no_more_if b) []
in_no_more true t = (0, omega arith, refl)
in_no_more false t = absurd t

all_no_more : (P : List Ride → Type 0) (b : Bool) → (T b → P []) → All P (no_more_if b)
all_no_more P true h = All-cons P [] [] (h tt) (All-nil P)
all_no_more P false h = All-nil P

module _ (timetable : Timetable) (q : Query) where
  -- ---- the rides to use are those that the query may use
  is_allowed : (r : Ride) → T (may_use timetable q r) → Allowed timetable q r
  is_allowed r t =
      let a = both_right (boardable timetable q r.train r.shift r.board) _ t in
      let b = both_right (ltb r.board r.alight) _ a in
      let on_the_train = ltb r.alight (length (stops_at timetable.trains r.train)) in
      may_ride timetable q r.train r.shift r.board r.alight (both_left (boardable timetable q r.train r.shift r.board) _ t) (ltb→lt _ _ (both_left (ltb r.board r.alight) _ a)) (ltb→lt _ _ (both_left on_the_train _ b)) (both_right on_the_train _ b)

  may_be_used : (r : Ride) → Allowed timetable q r → T (may_use timetable q r)
  may_be_used r a =
      both_from _ _ (may_be_boarded timetable q r a) (both_from _ _ (lt→ltb _ _ a.onward) (both_from _ _ (lt→ltb _ _ a.on_the_train) a.alighting))

  all_allowed : All (Allowed timetable q) (rides_to_use timetable q)
  all_allowed k d h = is_allowed _ (passed_filter (may_use timetable q) _ k d h)

  each_to_use : (r : Ride) → Allowed timetable q r → Contains (rides_to_use timetable q) r
  each_to_use r a =
      let places = range_with_len 0 (length (stops_at timetable.trains r.train)) in
      let of_run = in_flat_map (λ b. map (λ i. ride r.train r.shift b i) places) places r.board r (in_range _ _ (omega (arith, a.onward, a.on_the_train))) (in_map (λ i. ride r.train r.shift r.board i) places r.alight (in_range _ _ a.on_the_train)) in
      let of_train = in_flat_map (rides_of timetable q r.train) all_shifts r.shift r (in_all_shifts r.shift) of_run in
      in_filter (may_use timetable q) _ r (in_flat_map (λ n. flat_map (rides_of timetable q n) all_shifts) (range_with_len 0 (length timetable.trains)) r.train r (in_range _ _ a.in_force) of_train) (may_be_used r a)

  -- ---- the rides after one
  gets_there : (r : Ride) → T (may_be_last timetable q r) → GoesOn timetable q 0 r []
  gets_there r t = eqb→eq _ _ (both_right (may_alight (stop_of timetable.trains r.train r.alight)) _ t)

  ends_there : (r : Ride) → Allowed timetable q r → GoesOn timetable q 0 r [] → Contains (no_more_if (may_be_last timetable q r)) []
  ends_there r a e = in_no_more (may_be_last timetable q r) (both_from _ _ a.alighting (eq→eqb _ _ e))

  module _ (rides : List Ride) (allowed : All (Allowed timetable q) rides) (each : (r : Ride) → Allowed timetable q r → Contains rides r) where
    next_ones : (r : Ride) → All (λ next. Allowed timetable q next × Follows timetable q r next) (filter (may_be_next timetable q r) rides)
    next_ones r k d h = (
      All-filter (may_be_next timetable q r) (Allowed timetable q) rides allowed k d h,
      meeting timetable q r.train r.shift r.board r.alight _ _ _ _ (passed_filter (may_be_next timetable q r) rides k d h),
    )

    all_onward : (more : ℕ) (r : Ride) → All (GoesOn timetable q more r) (onward timetable q rides more r)
    all_onward zero r = all_no_more (GoesOn timetable q zero r) (may_be_last timetable q r) (gets_there r)
    all_onward (suc more) r =
        All-append (GoesOn timetable q (suc more) r) (no_more_if (may_be_last timetable q r)) _ (all_no_more (GoesOn timetable q (suc more) r) (may_be_last timetable q r) (gets_there r))
        (all_each_before (λ next. Allowed timetable q next × Follows timetable q r next) (GoesOn timetable q (suc more) r) (onward timetable q rides more) (filter (may_be_next timetable q r) rides) (next_ones r)
        (λ next x k d h. (x.0, x.1, all_onward more next k d h)))

    each_onward : (more : ℕ) (r : Ride) (rest : List Ride) → Allowed timetable q r → GoesOn timetable q more r rest → Contains (onward timetable q rides more r) rest
    each_onward zero r [] a g = ends_there r a g
    each_onward (suc more) r [] a g = Contains-append_left _ _ [] (ends_there r a g)
    each_onward zero r (next ∷ rest) a g = absurd g
    each_onward (suc more) r (next ∷ rest) a g =
        Contains-append_right (no_more_if (may_be_last timetable q r)) _ (next ∷ rest)
        (in_each_before (onward timetable q rides more) (filter (may_be_next timetable q r) rides) next rest
        (in_filter (may_be_next timetable q r) rides next (each next g.0) (may_change timetable q r next a g.1))
        (each_onward more next rest g.0 g.2))

  -- ---- the connections
  all_connections : All (Connection timetable q) (connections timetable q)
  all_connections =
      all_each_before (λ r. Allowed timetable q r × T (may_be_first timetable q r)) (Connection timetable q) (onward timetable q (rides_to_use timetable q) q.changes) (filter (may_be_first timetable q) (rides_to_use timetable q))
      (λ k d h. (
        All-filter (may_be_first timetable q) (Allowed timetable q) (rides_to_use timetable q) all_allowed k d h,
        passed_filter (may_be_first timetable q) (rides_to_use timetable q) k d h,
      ))
      (λ r x k d h.
      let here = starting timetable q r.train r.shift r.board x.1 in
      from_first timetable q r _ x.0 here.0 here.1 (all_onward (rides_to_use timetable q) all_allowed each_to_use q.changes r k d h))

  each_connection : (rides : List Ride) → Connection timetable q rides → Contains (connections timetable q) rides
  each_connection [] c = absurd (omega (arith, c.journey.some))
  each_connection (r ∷ rest) c =
      let a = c.journey.allowed 0 (omega arith) in
      in_each_before (onward timetable q (rides_to_use timetable q) q.changes) (filter (may_be_first timetable q) (rides_to_use timetable q)) r rest
      (in_filter (may_be_first timetable q) (rides_to_use timetable q) r (each_to_use r a) (may_start timetable q r a c.journey.not_before c.journey.from_the_origin))
      (each_onward (rides_to_use timetable q) all_allowed each_to_use q.changes r rest a (after_first timetable q r rest c))

  none_listed : connections timetable q ≡ [] → HasNoConnection timetable q
  none_listed e rides c =
      let x = subst (λ (l : List (List Ride)). Contains l rides) e (each_connection rides c) in omega (arith, x.1)

pub list_tells : {Total : Type 0} (m : Meaning Total) → ListTells m
list_tells m timetable q =
    record {
      each_is_one = λ rides c. All-contains (Connection timetable q) (connections timetable q) rides (all_connections timetable q) c;
      each_is_listed = each_connection timetable q;
      none_is_missing = none_listed timetable q;
      none_is_cheaper = λ total t rides c. passes_in (λ other. m.at_most total (price m timetable q other)) (connections timetable q) rides (each_connection timetable q rides c) t;
    }
