-- Withdraw keeps what is kept from call to call.
use Rattle.std.proofs.Common.{◌≡◌, ℕ, ◌+◌, ◌-◌, true, List, ◌++◌, map, length, take, drop, Some, None, Option, sym, refl, ap, ◌∙◌, subst, ap₂, add-one, arith, length-take-le, get_or-take}
use Rattle.std.proofs.lemmas.List.{map-append}
use Rattle.book.specs.declared.rows.StopRow.{StopRow}
use Rattle.book.specs.declared.rows.TrainRow.{TrainRow}
use Rattle.book.specs.declared.state.Book.{Book}
use Rattle.book.specs.declared.refusal.Refusal.{Refusal}
use Rattle.book.specs.Trains.{Train, all_sound, gapless, trains_in, train_at, listed, holds}
use Rattle.book.specs.Answers.{unless, refused_or, place, train_row, forward, closed_up, withdraw_answer, withdraw_trains, withdraw_stops}
use Rattle.book.specs.Refusals.{withdraw_refusal}
use Rattle.book.proofs.Held.{hold_from}
use Rattle.book.proofs.Pushed.{gapless_append}
use Rattle.book.proofs.StopOrder.{no_stop}
use Rattle.book.proofs.Windows.{trains_same, trains_moved, gapless_forward}
use Rattle.book.proofs.Walk.{no_row}
use Rattle.book.proofs.Found.{Found, found_place}
use Rattle.book.proofs.Removed.{length_closed_up, take_closed_up, before_closed, after_closed, gapless_parts, without_is, all_sound_without}
use Rattle.book.specs.Histories.{withdrawn_to}
use Rattle.book.specs.PlainList.{withdraws, InForce, none_open, without}
use Rattle.book.proofs.KeptState.{Kept, next}
use Rattle.book.proofs.RefusalTests.{withdraw_same}

-- ---- withdraw
module _ (b : Book) (ts : List TrainRow) (ss : List StopRow) (n : ℕ) where
  abbrev at : ℕ
  at = place n (take b.trains ts)

  abbrev out : TrainRow
  out = train_row at ts

  left_trains : List TrainRow
  left_trains = closed_up (forward out.count) at 1 b.trains ts

  left_stops : List StopRow
  left_stops = closed_up (λ (s : StopRow). s) out.first out.count b.stops ss

  module _ (passed : withdraw_refusal b ts ss n ≡ None) where
    the : Found b ts ss at
    the = found_place b ts ss n passed

    parts : (gapless 0 out.first (take at (take b.trains ts)) ≡ true) × (gapless (out.first + out.count) b.stops (drop (at + 1) (take b.trains ts)) ≡ true)
    parts =
        let k = the in
        let len = length-take-le b.trains ts k.book.trains_fit in
        let same : train_row at (take b.trains ts) ≡ out = get_or-take b.trains ts at no_row k.below in
        let p = gapless_parts 0 b.stops (take b.trains ts) at k.book.no_gap (omega (arith, k.below)) in
        rw (add-one at) (rw same at p)

    take_left : take (b.trains - 1) left_trains ≡ take at (take b.trains ts) ++ map (forward out.count) (drop (at + 1) (take b.trains ts))
    unfolding left_trains
    take_left = let k = the in take_closed_up (forward out.count) at 1 b.trains ts (omega (arith, k.below)) k.book.trains_fit

    length_left_trains : length left_trains ≡ length ts
    unfolding left_trains
    length_left_trains = let k = the in length_closed_up (forward out.count) at 1 b.trains ts (omega (arith, k.below)) k.book.trains_fit

    length_left_stops : length left_stops ≡ length ss
    unfolding left_stops
    length_left_stops = let k = the in length_closed_up (λ (s : StopRow). s) out.first out.count b.stops ss k.within k.book.stops_fit

    first_trains : trains_in (take at (take b.trains ts)) left_stops ≡ trains_in (take at (take b.trains ts)) ss
    unfolding left_stops
    first_trains =
        let k = the in
        trains_same 0 out.first (take at (take b.trains ts)) ss left_stops parts.0 (omega (arith, k.within, k.book.stops_fit))
        (omega (arith, k.within, k.book.stops_fit, length_left_stops))
        (λ i less. before_closed out.first out.count b.stops ss k.within k.book.stops_fit i no_stop less)

    last_trains : trains_in (map (forward out.count) (drop (at + 1) (take b.trains ts))) left_stops ≡ trains_in (drop (at + 1) (take b.trains ts)) ss
    unfolding left_stops
    last_trains =
        let k = the in
        trains_moved out.count (out.first + out.count) b.stops (drop (at + 1) (take b.trains ts)) ss left_stops parts.1 (omega arith) k.book.stops_fit
        (omega (arith, k.book.stops_fit, length_left_stops))
        (λ i more less. after_closed out.first out.count b.stops ss k.within k.book.stops_fit i no_stop more less)

    listed_left : listed (b.trains - 1) left_trains left_stops ≡ without n (listed b.trains ts ss)
    listed_left =
        let k = the in
        let len = length-take-le b.trains ts k.book.trains_fit in
        ap (λ (rows : List TrainRow). trains_in rows left_stops) take_left
        ∙ map-append (train_at left_stops) (take at (take b.trains ts)) (map (forward out.count) (drop (at + 1) (take b.trains ts)))
        ∙ ap₂ (λ (x y : List Train). x ++ y) first_trains last_trains
        ∙ ap (λ (x : ℕ). trains_in (take at (take b.trains ts)) ss ++ trains_in (drop x (take b.trains ts)) ss) (add-one at)
        ∙ sym (without_is n (take b.trains ts) ss (omega (arith, k.below)))

    left_held : holds (b.trains - 1) (b.stops - out.count) left_trains left_stops ≡ true
    left_held =
        let k = the in
        let m : (out.first + out.count) - out.count ≡ out.first = omega arith in
        let moved = gapless_forward out.count (out.first + out.count) b.stops (drop (at + 1) (take b.trains ts)) (omega arith) parts.1 in
        hold_from (b.trains - 1) (b.stops - out.count) left_trains left_stops (record {
          few_trains = omega (arith, k.book.few_trains);
          trains_fit = omega (arith, k.book.trains_fit, length_left_trains);
          few_stops = omega (arith, k.book.few_stops);
          stops_fit = omega (arith, k.book.stops_fit, length_left_stops);
          no_gap = subst (λ (rows : List TrainRow). gapless 0 (b.stops - out.count) rows ≡ true) (sym take_left)
              (gapless_append 0 out.first (b.stops - out.count) (take at (take b.trains ts)) (map (forward out.count) (drop (at + 1) (take b.trains ts))) parts.0 (rw m at moved));
          are_sound = subst (λ (l : List Train). all_sound l ≡ true) (sym listed_left) (all_sound_without n (listed b.trains ts ss) k.book.are_sound);
        })

  withdraw_step : (r : Option Refusal) → holds b.trains b.stops ts ss ≡ true → withdraw_refusal b ts ss n ≡ r
      → Kept (length ts) (length ss) (unless r (none_open (listed b.trains ts ss)) (none_open (without n (listed b.trains ts ss))))
      (withdrawn_to (refused_or r b (record { trains = b.trains - 1; stops = b.stops - out.count }))) (unless r ts left_trains) (unless r ss left_stops)
  withdraw_step (Some x) h refused = record { train_rows = refl; stop_rows = refl; whole = h; same = refl }
  withdraw_step None h passed =
      record { train_rows = length_left_trains passed; stop_rows = length_left_stops passed; whole = left_held passed; same = ap none_open (sym (listed_left passed)) }

  pub withdraw_kept : (f : InForce) → holds b.trains b.stops ts ss ≡ true → f ≡ none_open (listed b.trains ts ss)
      → Kept (length ts) (length ss) (next (length ts) (length ss) f (withdraws n)) (withdrawn_to (withdraw_answer b ts ss n)) (withdraw_trains b ts ss n) (withdraw_stops b ts ss n)
  unfolding left_trains left_stops
  withdraw_kept f h same =
      let l = listed b.trains ts ss in
      subst (λ (g : InForce). Kept (length ts) (length ss) (next (length ts) (length ss) g (withdraws n)) (withdrawn_to (withdraw_answer b ts ss n)) (withdraw_trains b ts ss n) (withdraw_stops b ts ss n)) (sym same)
      (subst (λ (r : Option Refusal). Kept (length ts) (length ss) (unless r (none_open l) (none_open (without n l))) (withdrawn_to (withdraw_answer b ts ss n)) (withdraw_trains b ts ss n) (withdraw_stops b ts ss n)) (withdraw_same b ts ss n h)
      (withdraw_step (withdraw_refusal b ts ss n) h refl))
