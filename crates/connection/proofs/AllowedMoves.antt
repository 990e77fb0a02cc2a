-- What the tests of the moves say: a ride may be used, may be the first, and may follow another, just where they pass.
use Rattle.std.proofs.Common.{◌≡◌, ℕ, ◌<◌, ◌≤◌, T, eqb, ltb, length, eqb→eq, ltb→lt, leb→le, le→leb, lt→ltb}
use Rattle.connection.specs.Clock.{ready}
use Rattle.connection.specs.Connections.{Follows}
use Rattle.connection.specs.Moves.{goes, boardable, starts, meets}
use Rattle.connection.specs.Rides.{may_board, may_alight, offers, train_in_row, stops_at, stop_of, run_leaves, Allowed, ride}
use Rattle.connection.specs.Timetable.{Timetable}
use Rattle.connection.specs.declared.query.Query.{Query}
use Rattle.connection.specs.declared.ride.Ride.{Ride}
use Rattle.connection.specs.declared.ride.Shift.{Shift}
use Rattle.connection.proofs.Tests.{both_left, both_right, both_from, eq→eqb}

module _ (timetable : Timetable) (q : Query) where
  pub may_ride : (n : ℕ) (s : Shift) (b a : ℕ) → T (boardable timetable q n s b) → b < a → a < length (stops_at timetable.trains n) → T (may_alight (stop_of timetable.trains n a)) → Allowed timetable q (ride n s b a)
  may_ride n s b a t on l off =
      let g = both_left (goes timetable q n s) (may_board (stop_of timetable.trains n b)) t in
      let r = both_right (ltb n (length timetable.trains)) _ g in
      record {
        in_force = ltb→lt n (length timetable.trains) (both_left (ltb n (length timetable.trains)) _ g);
        onward = on;
        on_the_train = l;
        boarding = both_right (goes timetable q n s) (may_board (stop_of timetable.trains n b)) t;
        alighting = off;
        offering = both_left (offers q (train_in_row timetable.trains n).features) _ r;
        running = both_right (offers q (train_in_row timetable.trains n).features) _ r;
      }

  pub may_be_boarded : (r : Ride) → Allowed timetable q r → T (boardable timetable q r.train r.shift r.board)
  may_be_boarded r a =
      both_from _ _ (both_from _ _ (lt→ltb r.train (length timetable.trains) a.in_force) (both_from _ _ a.offering a.running)) a.boarding

  pub may_start : (r : Ride) → Allowed timetable q r → ready q ≤ run_leaves timetable q r.train r.shift r.board → (stop_of timetable.trains r.train r.board).station ≡ q.origin → T (starts timetable q r.train r.shift r.board)
  may_start r a t o = both_from _ _ (may_be_boarded r a) (both_from _ _ (eq→eqb _ _ o) (le→leb _ _ t))

  pub starting : (n : ℕ) (s : Shift) (i : ℕ) → T (starts timetable q n s i) → ((stop_of timetable.trains n i).station ≡ q.origin) × (ready q ≤ run_leaves timetable q n s i)
  starting n s i t =
      let r = both_right (boardable timetable q n s i) _ t in
      let here = eqb (stop_of timetable.trains n i).station q.origin in
      (eqb→eq _ _ (both_left here _ r), leb→le _ _ (both_right here _ r))

  pub meeting : (n : ℕ) (s : Shift) (b i n' : ℕ) (s' : Shift) (i' a : ℕ) → T (meets timetable q n s i n' s' i') → Follows timetable q (ride n s b i) (ride n' s' i' a)
  meeting n s b i n' s' i' a t =
      let r = both_right (may_alight (stop_of timetable.trains n i)) _ t in
      let same = eqb (stop_of timetable.trains n' i').station (stop_of timetable.trains n i).station in
      record { where_it_ended = eqb→eq _ _ (both_left same _ r); in_time = both_right same _ r }

  pub may_change : (r next : Ride) → Allowed timetable q r → Follows timetable q r next → T (meets timetable q r.train r.shift r.alight next.train next.shift next.board)
  may_change r next a f = both_from _ _ a.alighting (both_from _ _ (eq→eqb _ _ f.where_it_ended) f.in_time)
