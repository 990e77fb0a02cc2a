-- A connection ride by ride: from each ride one may change to the next, and the last ends at the destination.
use Rattle.std.proofs.Common.{◌≡◌, ℕ, zero, suc, ◌-◌, ◌<◌, ◌≤◌, List, [], ◌∷◌, length, ap, ◌∙◌, arith}
use Rattle.connection.specs.Clock.{ready}
use Rattle.connection.specs.Connections.{ride_at, Follows, Connection}
use Rattle.connection.specs.Rides.{boards, alights, departs, Allowed}
use Rattle.connection.specs.Timetable.{Timetable}
use Rattle.connection.specs.declared.query.Query.{Query}
use Rattle.connection.specs.declared.ride.Ride.{Ride}

module _ (timetable : Timetable) (q : Query) where
  -- after the ride r the rest can be made, `more` rides at most
  abbrev pub GoesOn : ℕ → Ride → List Ride → Type 0
  GoesOn more r [] = (alights timetable.trains r).station ≡ q.destination
  GoesOn zero r (next ∷ rest) = ⊥
  GoesOn (suc more) r (next ∷ rest) = Allowed timetable q next × Follows timetable q r next × GoesOn more next rest

  -- the same by the places of the rides
  record ByPlace (more : ℕ) (r : Ride) (rest : List Ride) : Type 0 where
    few : length rest ≤ more
    allowed : (i : ℕ) → i < length (r ∷ rest) → Allowed timetable q (ride_at (r ∷ rest) i)
    changes : (i : ℕ) → suc i < length (r ∷ rest) → Follows timetable q (ride_at (r ∷ rest) i) (ride_at (r ∷ rest) (suc i))
    there : (alights timetable.trains (ride_at (r ∷ rest) (length rest))).station ≡ q.destination

  goes_on : (more : ℕ) (r : Ride) (rest : List Ride) → ByPlace more r rest → GoesOn more r rest
  goes_on more r [] p = p.there
  goes_on zero r (next ∷ rest) p = absurd (omega (arith, p.few))
  goes_on (suc more) r (next ∷ rest) p = (
    p.allowed 1 (omega arith),
    p.changes 0 (omega arith),
    goes_on more next rest (record {
      few = omega (arith, p.few);
      allowed = λ i h. p.allowed (suc i) (omega arith);
      changes = λ i h. p.changes (suc i) (omega arith);
      there = p.there;
    }),
  )

  first_allowed : (r : Ride) (rest : List Ride) → Allowed timetable q r → ((i : ℕ) → i < length rest → Allowed timetable q (ride_at rest i)) → (i : ℕ) → i < length (r ∷ rest) → Allowed timetable q (ride_at (r ∷ rest) i)
  first_allowed r rest a more zero h = a
  first_allowed r rest a more (suc i) h = more i (omega arith)

  first_change : (r next : Ride) (rest : List Ride) → Follows timetable q r next → ((i : ℕ) → suc i < length (next ∷ rest) → Follows timetable q (ride_at (next ∷ rest) i) (ride_at (next ∷ rest) (suc i))) → (i : ℕ) → suc i < length (r ∷ next ∷ rest) → Follows timetable q (ride_at (r ∷ next ∷ rest) i) (ride_at (r ∷ next ∷ rest) (suc i))
  first_change r next rest f more zero h = f
  first_change r next rest f more (suc i) h = more i (omega arith)

  by_place : (more : ℕ) (r : Ride) (rest : List Ride) → Allowed timetable q r → GoesOn more r rest → ByPlace more r rest
  by_place more r [] a g =
      record {
        few = omega arith;
        allowed = first_allowed r [] a (λ i h. absurd (omega arith));
        changes = λ i h. absurd (omega arith);
        there = g;
      }
  by_place zero r (next ∷ rest) a g = absurd g
  by_place (suc more) r (next ∷ rest) a g =
      let p = by_place more next rest g.0 g.2 in
      record {
        few = omega (arith, p.few);
        allowed = first_allowed r (next ∷ rest) a p.allowed;
        changes = first_change r next rest g.1 p.changes;
        there = p.there;
      }

  -- ---- a connection and its first ride
  pub after_first : (r : Ride) (rest : List Ride) → Connection timetable q (r ∷ rest) → GoesOn q.changes r rest
  after_first r rest c =
      let last : length rest ≡ length (r ∷ rest) - 1 = omega arith in
      goes_on q.changes r rest (record {
        few = omega (arith, c.within_the_limit);
        allowed = c.journey.allowed;
        changes = c.journey.changes;
        there = ap (λ k. (alights timetable.trains (ride_at (r ∷ rest) k)).station) last ∙ c.to_the_destination;
      })

  pub from_first : (r : Ride) (rest : List Ride) → Allowed timetable q r → (boards timetable.trains r).station ≡ q.origin → ready q ≤ departs timetable q r → GoesOn q.changes r rest → Connection timetable q (r ∷ rest)
  from_first r rest a o t g =
      let p = by_place q.changes r rest a g in
      let last : length (r ∷ rest) - 1 ≡ length rest = omega arith in
      record {
        journey = record { some = omega arith; allowed = p.allowed; from_the_origin = o; not_before = t; changes = p.changes };
        within_the_limit = omega (arith, p.few);
        to_the_destination = ap (λ k. (alights timetable.trains (ride_at (r ∷ rest) k)).station) last ∙ p.there;
      }
