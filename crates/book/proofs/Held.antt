-- What follows where the tables hold.
use Rattle.std.proofs.Common.{◌≡◌, ℕ, ◌+◌, ◌<◌, ◌≤◌, true, List, [], ◌∷◌, length, take, drop, None, refl, ◌∙◌, arith, length-drop, length-take-le}
use lib.ListN.{length-map}
use Rattle.std.proofs.lemmas.Bool.{and_parts, and_from, leb-true, ltb-true, eqb-true, le-leb, lt-ltb}
use Rattle.book.specs.declared.rows.StopRow.{StopRow}
use Rattle.book.specs.declared.rows.TrainRow.{TrainRow}
use Rattle.book.specs.declared.state.Entry.{Entry}
use Rattle.book.specs.Limits.{most_trains, most_stops}
use Rattle.book.specs.Stops.{few, in_order}
use Rattle.book.specs.Trains.{all_sound, gapless, trains_in, train_at, listed, open_stops, holds, entry_holds, all_stops}

pub record Held (n s : ℕ) (trains : List TrainRow) (stops : List StopRow) : Type 0 where
  pub few_trains : n ≤ most_trains
  pub trains_fit : n ≤ length trains
  pub few_stops : s ≤ most_stops
  pub stops_fit : s ≤ length stops
  pub no_gap : gapless 0 s (take n trains) ≡ true
  pub are_sound : all_sound (listed n trains stops) ≡ true

pub held : (n s : ℕ) (trains : List TrainRow) (stops : List StopRow) → holds n s trains stops ≡ true → Held n s trains stops
unfolding holds
held n s trains stops h =
    let p = and_parts _ _ h in
    let q = and_parts _ _ p.1 in
    let u = and_parts _ _ p.0 in
    let v = and_parts _ _ u.0 in
    let w = and_parts _ _ v.0 in
    record {
      few_trains = leb-true _ _ w.0;
      trains_fit = leb-true _ _ w.1;
      few_stops = leb-true _ _ v.1;
      stops_fit = leb-true _ _ u.1;
      no_gap = q.0;
      are_sound = q.1;
    }

pub hold_from : (n s : ℕ) (trains : List TrainRow) (stops : List StopRow) → Held n s trains stops → holds n s trains stops ≡ true
unfolding holds
hold_from n s trains stops k =
    and_from _ _ (and_from _ _ (and_from _ _ (and_from _ _ (le-leb n most_trains k.few_trains) (le-leb n (length trains) k.trains_fit)) (le-leb s most_stops k.few_stops)) (le-leb s (length stops) k.stops_fit))
    (and_from _ _ k.no_gap k.are_sound)

-- no row is in use: whatever the tables are, they hold that
pub none_held : (trains : List TrainRow) (stops : List StopRow) → holds 0 0 trains stops ≡ true
none_held trains stops =
    hold_from 0 0 trains stops (record { few_trains = omega arith; trains_fit = omega arith; few_stops = omega arith; stops_fit = omega arith; no_gap = refl; are_sound = refl })

pub record EntryHeld (e : Entry) (trains : List TrainRow) (stops : List StopRow) : Type 0 where
  pub book : holds e.book.trains e.book.stops trains stops ≡ true
  pub few_trains : e.book.trains < most_trains
  pub trains_fit : e.book.trains < length trains
  pub few_stops : e.book.stops + e.taken ≤ most_stops
  pub stops_fit : e.book.stops + e.taken ≤ length stops
  pub few_taken : few (open_stops e stops) ≡ true
  pub taken_in_order : in_order None (open_stops e stops) ≡ true

pub entry_held : (e : Entry) (trains : List TrainRow) (stops : List StopRow) → entry_holds e trains stops ≡ true → EntryHeld e trains stops
unfolding entry_holds
entry_held e trains stops h =
    let p = and_parts _ _ h in
    let q = and_parts _ _ p.1 in
    let u = and_parts _ _ p.0 in
    let v = and_parts _ _ u.0 in
    let w = and_parts _ _ v.0 in
    let x = and_parts _ _ w.0 in
    record {
      book = x.0;
      few_trains = ltb-true _ _ x.1;
      trains_fit = ltb-true _ _ w.1;
      few_stops = leb-true _ _ v.1;
      stops_fit = leb-true _ _ u.1;
      few_taken = q.0;
      taken_in_order = q.1;
    }

pub entry_hold_from : (e : Entry) (trains : List TrainRow) (stops : List StopRow) → EntryHeld e trains stops → entry_holds e trains stops ≡ true
unfolding entry_holds
entry_hold_from e trains stops k =
    and_from _ _ (and_from _ _ (and_from _ _ (and_from _ _ (and_from _ _ k.book (lt-ltb e.book.trains most_trains k.few_trains)) (lt-ltb e.book.trains (length trains) k.trains_fit))
    (le-leb (e.book.stops + e.taken) most_stops k.few_stops)) (le-leb (e.book.stops + e.taken) (length stops) k.stops_fit))
    (and_from _ _ k.few_taken k.taken_in_order)

pub length_listed : (n : ℕ) (trains : List TrainRow) (stops : List StopRow) → n ≤ length trains → length (listed n trains stops) ≡ n
length_listed n trains stops h = length-map (take n trains) (train_at stops) ∙ length-take-le n trains h

pub length_open : (e : Entry) (stops : List StopRow) → e.book.stops + e.taken ≤ length stops → length (open_stops e stops) ≡ e.taken
length_open e stops h = length-take-le e.taken (drop e.book.stops stops) (simp length-drop (omega arith))

-- rows without a gap hold all the stops up to where they end
gapless_stops : (at end : ℕ) (rows : List TrainRow) (stops : List StopRow) → end ≤ length stops → gapless at end rows ≡ true → at + all_stops (trains_in rows stops) ≡ end
gapless_stops at end [] stops fit h = let e = eqb-true at end h in omega arith
gapless_stops at end (r ∷ rs) stops fit h =
    let p = and_parts _ _ h in
    let e = eqb-true r.first at p.0 in
    let rest = gapless_stops (at + r.count) end rs stops fit p.1 in
    let len : length (take r.count (drop r.first stops)) ≡ r.count = length-take-le r.count (drop r.first stops) (simp length-drop (omega arith)) in
    omega arith

pub all_stops_held : (n s : ℕ) (trains : List TrainRow) (stops : List StopRow) → holds n s trains stops ≡ true → all_stops (listed n trains stops) ≡ s
all_stops_held n s trains stops h =
    let k = held n s trains stops h in
    let e = gapless_stops 0 s (take n trains) stops k.stops_fit k.no_gap in
    omega arith
