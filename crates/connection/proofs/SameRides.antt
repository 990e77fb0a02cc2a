-- Numbers and rides that pass a test of being the same are the same.
use Rattle.std.proofs.Common.{◌≡◌, ℕ, Bool, true, false, ◌&&◌, T, eqb, List, [], ◌∷◌, refl, eqb→eq}
use Rattle.connection.specs.declared.ride.Ride.{Ride}
use Rattle.connection.specs.declared.ride.Shift.{Shift}
use Rattle.connection.specs.declared.ride.Shift.TheVariants.{DayBefore, SameDay, DayAfter}
use Rattle.connection.proofs.Tests.{both_left, both_right}

abbrev pub same_shift : Shift → Shift → Bool
same_shift DayBefore DayBefore = true
same_shift SameDay SameDay = true
same_shift DayAfter DayAfter = true
same_shift _ _ = false

abbrev pub same_ride : Ride → Ride → Bool
same_ride a b = eqb a.train b.train && (same_shift a.shift b.shift && (eqb a.board b.board && eqb a.alight b.alight))

-- ---- of two lists, element by element
module _ {X : Type 0} (same : X → X → Bool) where
  abbrev pub all_same : List X → List X → Bool
  all_same [] [] = true
  all_same (x ∷ xs) (y ∷ ys) = same x y && all_same xs ys
  all_same _ _ = false

  module _ (is_same : (x y : X) → T (same x y) → x ≡ y) where
    pub are_same : (xs ys : List X) → T (all_same xs ys) → xs ≡ ys
    are_same [] [] t = refl
    are_same (x ∷ xs) (y ∷ ys) t =
        let head = is_same x y (both_left (same x y) _ t) in
        let tail = are_same xs ys (both_right (same x y) _ t) in
        λ i. head i ∷ tail i
    are_same _ _ t = absurd t

is_same_shift : (a b : Shift) → T (same_shift a b) → a ≡ b
is_same_shift DayBefore DayBefore t = refl
is_same_shift SameDay SameDay t = refl
is_same_shift DayAfter DayAfter t = refl
is_same_shift _ _ t = absurd t

is_same_ride : (a b : Ride) → T (same_ride a b) → a ≡ b
is_same_ride a b t =
    let u = both_right (eqb a.train b.train) _ t in
    let v = both_right (same_shift a.shift b.shift) _ u in
    let train = eqb→eq a.train b.train (both_left (eqb a.train b.train) _ t) in
    let shift = is_same_shift a.shift b.shift (both_left (same_shift a.shift b.shift) _ u) in
    let board = eqb→eq a.board b.board (both_left (eqb a.board b.board) _ v) in
    let alight = eqb→eq a.alight b.alight (both_right (eqb a.board b.board) _ v) in
    λ i. record { train = train i; shift = shift i; board = board i; alight = alight i }

pub are_same_rides : (xs ys : List Ride) → T (all_same same_ride xs ys) → xs ≡ ys
are_same_rides = are_same same_ride is_same_ride

pub are_same_numbers : (xs ys : List ℕ) → T (all_same eqb xs ys) → xs ≡ ys
are_same_numbers = are_same eqb eqb→eq
