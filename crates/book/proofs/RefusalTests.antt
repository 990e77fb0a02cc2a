-- Each refusal where the tables hold: that of the plain list, and over the numbers that the code compares.
use Rattle.std.proofs.Common.{◌≡◌, ℕ, ◌+◌, ◌<◌, Bool, true, false, cond, not, eqb, ltb, List, [], ◌∷◌, length, take, ok_or, Some, None, Ok, Err, Option, sym, refl, ap, ◌∙◌, length-take-le}
use Rattle.std.specs.Option.{option_or}
use Rattle.std.proofs.lemmas.Bool.{ltb-true, not-false, or_parts, leb-false}
use Rattle.book.specs.Answers.{check_answer, ok_unless, given_unless, place, place_if_any}
use Rattle.book.specs.Limits.{most_stops_of_train, most_trains, most_stops}
use Rattle.book.specs.Reasons.{first_of}
use Rattle.book.specs.Refusals.{no_train_row, no_stop_row, begin_reasons, begin_fault, next_fault, finish_fault, withdraw_fault, begin_refusal, stop_refusal, finish_refusal, withdraw_refusal}
use Rattle.book.specs.Stops.{stop_reasons, stop_fault, ended, last_of}
use Rattle.book.specs.Trains.{known, listed, open_stops, holds, entry_holds, open_train}
use Rattle.book.specs.declared.refusal.Refusal.{Refusal}
use Rattle.book.specs.declared.refusal.Refusal.TheVariants.{Damaged, NoStopRow, Unfinished, UnknownNumber}
use Rattle.book.specs.declared.rows.StopRow.{StopRow}
use Rattle.book.specs.declared.rows.TrainRow.{TrainRow}
use Rattle.book.specs.declared.state.Book.{Book}
use Rattle.book.specs.declared.state.Entry.{Entry}
use Rattle.book.proofs.FirstReason.{none_holds, first_of-append}
use Rattle.book.proofs.Held.{held, EntryHeld, entry_held, length_listed, length_open, all_stops_held}
use Rattle.book.proofs.Places.{known_place, place_if_any_is}
use Rattle.book.proofs.RefusedBy.{not_refused, not_damaged, check_failed}

-- ---- of a book
module _ (b : Book) (trains : List TrainRow) (stops : List StopRow) (n : ℕ) where
  pub begin_same : holds b.trains b.stops trains stops ≡ true → begin_refusal b trains stops n ≡ begin_fault (length trains) (listed b.trains trains stops) n
  unfolding begin_refusal
  begin_same h = rw h refl

  pub begin_held : begin_refusal b trains stops n ≡ None → holds b.trains b.stops trains stops ≡ true
  unfolding begin_refusal
  begin_held e = not_damaged (holds b.trains b.stops trains stops) (listed b.trains trains stops) Damaged (λ ts. begin_fault (length trains) ts n) e

  pub begin_passed : begin_refusal b trains stops n ≡ None → (eqb n 0 ≡ false) × (b.trains < most_trains) × (b.trains < length trains)
  begin_passed e =
      let h = begin_held e in
      let p = none_holds (begin_reasons (length trains) (listed b.trains trains stops) n) (sym (begin_same h) ∙ e) in
      let used : length (listed b.trains trains stops) ≡ b.trains = length_listed b.trains trains stops (held b.trains b.stops trains stops h).trains_fit in
      let no_row : no_train_row (length trains) b.trains ≡ false = rw used at p.1.1.0 in
      let room = or_parts _ _ no_row in
      (p.0, leb-false _ _ room.0, leb-false _ _ room.1)

  -- what the check finds comes first
  pub begin_damaged : (r : Refusal) → Err r ≡ check_answer b trains stops → begin_refusal b trains stops n ≡ Some r
  unfolding begin_refusal
  begin_damaged r e = let f = check_failed b trains stops r e in rw (f.0, f.1) refl

  pub withdraw_damaged : (r : Refusal) → Err r ≡ check_answer b trains stops → withdraw_refusal b trains stops n ≡ Some r
  unfolding withdraw_refusal
  withdraw_damaged r e = let f = check_failed b trains stops r e in rw (f.0, f.1) refl

  pub withdraw_same : holds b.trains b.stops trains stops ≡ true → withdraw_refusal b trains stops n ≡ withdraw_fault (listed b.trains trains stops) n
  unfolding withdraw_refusal
  withdraw_same h = rw h refl

  pub withdraw_held : withdraw_refusal b trains stops n ≡ None → holds b.trains b.stops trains stops ≡ true
  unfolding withdraw_refusal
  withdraw_held e = not_damaged (holds b.trains b.stops trains stops) (listed b.trains trains stops) Damaged (λ ts. withdraw_fault ts n) e

  module _ (h : holds b.trains b.stops trains stops ≡ true) where
    used : length (take b.trains trains) ≡ b.trains
    used = length-take-le b.trains trains (held b.trains b.stops trains stops h).trains_fit

    -- the number is known where its place is a row in use
    known_in_use : known n (listed b.trains trains stops) ≡ ltb (place n (take b.trains trains)) b.trains
    known_in_use = known_place n (take b.trains trains) stops ∙ ap (ltb (place n (take b.trains trains))) used

    -- the row that is found is the one that is withdrawn
    pub withdraw_found : ok_or (place_if_any n (take b.trains trains)) UnknownNumber ≡ given_unless (withdraw_refusal b trains stops n) (place n (take b.trains trains))
    withdraw_found =
        let k = place n (take b.trains trains) in
        let found : place_if_any n (take b.trains trains) ≡ cond (ltb k b.trains) (Some k) None = place_if_any_is n (take b.trains trains) ∙ ap (λ (m : ℕ). cond (ltb k m) (Some k) None) used in
        rw (found, withdraw_same h, known_in_use) (go (ltb k b.trains) k)
      where
        go : (found : Bool) (k : ℕ) → ok_or (cond found (Some k) None) UnknownNumber ≡ given_unless (first_of ((not found, UnknownNumber) ∷ [])) k
        go true k = refl
        go false k = refl

  pub withdraw_passed : withdraw_refusal b trains stops n ≡ None → place n (take b.trains trains) < b.trains
  withdraw_passed e =
      let h = withdraw_held e in
      let p = none_holds ((not (known n (listed b.trains trains stops)), UnknownNumber) ∷ []) (sym (withdraw_same h) ∙ e) in
      ltb-true _ _ (sym (known_in_use h) ∙ not-false _ p.0)

-- ---- of an entry
neither : (a b : Option Refusal) → option_or a b ≡ None → (a ≡ None) × (b ≡ None)
neither None b e = (refl, e)
neither (Some r) b e = absurd (cc)

module _ (e : Entry) (trains : List TrainRow) (stops : List StopRow) where
  module _ (s : StopRow) where
    pub stop_same : entry_holds e trains stops ≡ true → stop_refusal e trains stops s ≡ next_fault (length stops) (listed e.book.trains trains stops) (open_train e stops) s
    unfolding stop_refusal
    stop_same h = rw h refl

    -- what is wrong with the stop itself comes first
    pub stop_flat : entry_holds e trains stops ≡ true
        → stop_refusal e trains stops s ≡ option_or (stop_fault (last_of None (open_stops e stops)) s) (first_of ((no_stop_row (length stops) (e.book.stops + e.taken) e.taken, NoStopRow) ∷ []))
    unfolding stop_fault
    stop_flat h =
        let k = entry_held e trains stops h in
        rw (stop_same h, all_stops_held e.book.trains e.book.stops trains stops k.book, length_open e stops k.stops_fit)
        (first_of-append (stop_reasons (last_of None (open_stops e stops)) s) ((no_stop_row (length stops) (e.book.stops + e.taken) e.taken, NoStopRow) ∷ []))

    pub stop_held : stop_refusal e trains stops s ≡ None → entry_holds e trains stops ≡ true
    unfolding stop_refusal
    stop_held n = not_damaged (entry_holds e trains stops) (listed e.book.trains trains stops, open_train e stops) Damaged (λ x. next_fault (length stops) x.0 x.1 s) n

    pub stop_passed : stop_refusal e trains stops s ≡ None
        → (stop_fault (last_of None (open_stops e stops)) s ≡ None) × (e.taken < most_stops_of_train) × (e.book.stops + e.taken < most_stops) × (e.book.stops + e.taken < length stops)
    stop_passed n =
        let p = neither _ _ (sym (stop_flat (stop_held n)) ∙ n) in
        let room = none_holds ((no_stop_row (length stops) (e.book.stops + e.taken) e.taken, NoStopRow) ∷ []) p.1 in
        let q = or_parts _ _ room.0 in
        let u = or_parts _ _ q.0 in
        (p.0, leb-false _ _ u.0, leb-false _ _ u.1, leb-false _ _ q.1)

  pub finish_same : entry_holds e trains stops ≡ true → finish_refusal e trains stops ≡ finish_fault (open_train e stops)
  unfolding finish_refusal
  finish_same h = rw h refl

  pub finish_held : finish_refusal e trains stops ≡ None → entry_holds e trains stops ≡ true
  unfolding finish_refusal
  finish_held n = not_damaged (entry_holds e trains stops) (listed e.book.trains trains stops, open_train e stops) Damaged (λ x. finish_fault x.1) n

  pub finish_passed : finish_refusal e trains stops ≡ None → ended (last_of None (open_stops e stops)) ≡ true
  finish_passed n =
      let p = none_holds ((not (ended (last_of None (open_stops e stops))), Unfinished) ∷ []) (sym (finish_same (finish_held n)) ∙ n) in
      not-false _ p.0

  pub may_finish_held : Ok tt ≡ ok_unless (finish_refusal e trains stops) → EntryHeld e trains stops
  may_finish_held a = entry_held e trains stops (finish_held (not_refused _ a))
