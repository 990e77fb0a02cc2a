-- The line that is sold follows from what the call answers over what it is lent.
use Rattle.std.proofs.Common.{◌≡◌, ◌≢◌, ℕ, ◌<◌, ◌≤◌, Bool, true, false, cond, List, length, take, replicate, Some, None, Ok, Err, Option, Result, IsOk, is_ok, sym, refl, ap, ◌∙◌, subst, arith}
use Rattle.std.proofs.lemmas.Bool.{or_parts, eqb-false, ltb-false, leb-false}
use Rattle.std.proofs.lemmas.Option.{same_Some}
use Rattle.tariff.specs.Meaning.{Meaning}
use Rattle.book.specs.Limits.{most_stops}
use Rattle.book.specs.Reasons.{or_damaged}
use Rattle.book.specs.Rules.{SoundIsTheRules}
use Rattle.book.specs.Trains.{Train, all_stops, listed, trains_in, holds, meaning}
use Rattle.book.specs.declared.refusal.Refusal.{Refusal as BookRefusal}
use Rattle.book.specs.declared.refusal.Refusal.TheVariants.{Damaged}
use Rattle.book.specs.declared.rows.StopRow.{StopRow}
use Rattle.book.specs.declared.rows.TrainRow.{TrainRow}
use Rattle.book.proofs.FirstReason.{none_holds, never_first}
use Rattle.book.proofs.RefusedBy.{check_passed, check_failed}
use Rattle.calendar.specs.Pairs.{Pairs}
use Rattle.connection.specs.Timetable.{timetable_of}
use Rattle.connection.specs.Whole.{KeepTheRules}
use Rattle.connection.specs.declared.query.Query.{Query}
use Rattle.connection.specs.declared.ride.Ride.{Ride}
use Rattle.search.specs.Answers.{Finds, FoundOrNone, Guarantee, listed_in, AnswersUnless, Answers, work_left}
use Rattle.search.specs.Records.{blank}
use Rattle.search.specs.Refusals.{query_reasons, query_refusal, query_fault, search_refusal}
use Rattle.search.specs.Rows.{Askable, InOrder, Timely}
use Rattle.search.specs.declared.record.WorkRecord.{WorkRecord}
use Rattle.search.specs.declared.refusal.Refusal.{Refusal}
use Rattle.search.specs.declared.refusal.Refusal.TheVariants.{Book, NoConnection}
use Rattle.search.specs.declared.timetable.Timetable.{Timetable as Lent}
use Rattle.book.proofs.Held.{all_stops_held}
use Rattle.search.proofs.Prefix.{in_order, same_trains, long_stops}
use Rattle.search.proofs.RowsAreTrains.{keep_the_rules, timely}

-- ---- the check of the tables comes first
module _ {C : Type 0} (t : Lent C) where
  abbrev HoldsSo : Bool
  HoldsSo = holds t.book.now.trains t.book.now.stops t.trains.now t.stops.now

  abbrev own_trains : List Train
  own_trains = listed t.book.now.trains t.trains.now t.stops.now

  pub passed : Ok tt ≡ t.checked → HoldsSo ≡ true
  passed e = check_passed t.book.now t.trains.now t.stops.now (e ∙ t.found)

  module _ (q : Query) (ride_room work_room : ℕ) where
    abbrev refusal_by : Bool → Option Refusal
    refusal_by h = or_damaged (Book Damaged) (cond h (Some own_trains) None) (λ ts. query_fault ts q ride_room work_room)

    pub refused_first : (r : BookRefusal) → Err r ≡ t.checked → search_refusal t q ride_room work_room ≡ Some (Book r)
    unfolding search_refusal
    refused_first r e =
        let f = check_failed t.book.now t.trains.now t.stops.now r (e ∙ t.found) in
        ap refusal_by f.0 ∙ ap (λ x. Some (Book x)) (sym f.1)

    -- ---- after it the refusals are those of a plain list
    pub after_check : HoldsSo ≡ true → search_refusal t q ride_room work_room ≡ query_fault own_trains q ride_room work_room
    unfolding search_refusal
    after_check f = ap refusal_by f

    same_refusal : HoldsSo ≡ true → query_refusal q (length (take t.book.now.stops t.stops.now)) ride_room work_room ≡ search_refusal t q ride_room work_room
    same_refusal f =
        ap (λ n. query_refusal q n ride_room work_room)
        (long_stops t.book.now.trains t.book.now.stops t.trains.now t.stops.now f ∙ sym (all_stops_held t.book.now.trains t.book.now.stops t.trains.now t.stops.now f))
        ∙ sym (after_check f)

-- ---- a query that is not refused can be asked
module _ (q : Query) (stops ride_room work_room : ℕ) where
  not_none : query_refusal q stops ride_room work_room ≢ Some NoConnection
  not_none = never_first (query_reasons q stops ride_room work_room) NoConnection ((λ e. cc), ((λ e. cc), ((λ e. cc), ((λ e. cc), tt))))

  never_damaged : (reason : BookRefusal) → query_refusal q stops ride_room work_room ≢ Some (Book reason)
  never_damaged reason = never_first (query_reasons q stops ride_room work_room) (Book reason) ((λ e. cc), ((λ e. cc), ((λ e. cc), ((λ e. cc), tt))))

  pub askable : query_refusal q stops ride_room work_room ≡ None → Askable q
  askable e =
      let f = or_parts _ _ (none_holds (query_reasons q stops ride_room work_room) e).0 in
      let g = or_parts _ _ f.0 in
      let h = or_parts _ _ g.0 in
      let i = or_parts _ _ h.0 in
      record { day_before = positive q.day (eqb-false q.day 0 i.1); day_after = leb-false _ q.day h.1; minute = ltb-false _ q.minute g.1; changes = ltb-false _ q.changes f.1 }
    where
      positive : (n : ℕ) → (n ≡ 0 → ⊥) → 0 < n
      positive n h = omega (arith, h)

-- ---- the line
module _ {Total C : Type 0} (t : Lent C) (m : Meaning Total) (runs : Pairs) (q : Query) (ride_room work_room : ℕ) (rides : List Ride) where
  -- over a plain list of trains
  abbrev Kept : List Train → Result (Total × ℕ) Refusal → Type 0
  Kept trains r = Guarantee m (timetable_of trains runs) q ride_room work_room r rides

  ok_same : (x y : Total × ℕ) → ◌≡◌ {A = Result (Total × ℕ) Refusal} (Ok x) (Ok y) → x ≡ y
  ok_same x y p = cc

  err_same : (x y : Refusal) → ◌≡◌ {A = Result (Total × ℕ) Refusal} (Err x) (Err y) → x ≡ y
  err_same x y p = cc

  not_both : (reason : Refusal) (r : Result (Total × ℕ) Refusal) → r ≡ Err reason → IsOk r → ⊥
  not_both reason r a f = cc (ap is_ok (sym a) ∙ f)

  of_trains : (trains : List Train) (o : Option Refusal) → query_fault trains q ride_room work_room ≡ o → (r : Result (Total × ℕ) Refusal) → AnswersUnless m (timetable_of trains runs) q o r rides → Kept trains r
  of_trains trains (Some reason) e r a =
      record {
        cheapest = λ total count f. cc (sym a ∙ f);
        found = ((λ f. absurd (not_both reason r a f)), (λ h. cc (sym e ∙ h.0)));
        none = ((λ f. absurd (not_none q (all_stops trains) ride_room work_room (is_reason NoConnection f))), (λ h. cc (sym e ∙ h.0)));
        refused = λ other not_17. (is_reason other, (λ f. a ∙ ap Err (same_Some reason other (sym e ∙ f))));
        undamaged = λ other f. never_damaged q (all_stops trains) ride_room work_room other (is_reason (Book other) f);
      }
    where
      is_reason : (other : Refusal) → r ≡ Err other → query_fault trains q ride_room work_room ≡ Some other
      is_reason other f = e ∙ ap Some (err_same reason other (sym a ∙ f))
  of_trains trains None e (Ok answer) a =
      record {
        cheapest = λ total count f. subst (λ (x : Total × ℕ). Finds m (timetable_of trains runs) q x.0 x.1 rides) (ok_same answer (total, count) f) a;
        found = ((λ f. (e, (_, a.cheapest.connection))), (λ h. refl));
        none = ((λ f. cc f), (λ h. absurd (h.1 _ a.cheapest.connection)));
        refused = λ other not_17. ((λ f. cc f), (λ f. cc (sym e ∙ f)));
        undamaged = λ other f. cc f;
      }
  of_trains trains None e (Err reason) a =
      record {
        cheapest = λ total count f. cc f;
        found = ((λ f. absurd (not_both reason (Err reason) refl f)), (λ h. absurd (a.1 h.1.0 h.1.1)));
        none = ((λ f. (e, a.1)), (λ h. ap Err a.0));
        refused = λ other not_17. ((λ f. absurd (not_17 (sym (err_same reason other f) ∙ a.0))), (λ f. cc (sym e ∙ f)));
        undamaged = λ other f. cc (sym (err_same reason (Book other) f) ∙ a.0);
      }

  -- over the tables, where the rows mean these trains
  module _ (r : Result (Total × ℕ) Refusal) (answer : Answers t m runs q ride_room work_room r rides) where
    by_holding : (h : Bool) → HoldsSo t ≡ h → (ts : List Train) → cond h (Some (own_trains t)) None ≡ Some ts → Kept ts r
    by_holding false f ts e = cc
    by_holding true f ts e =
        let same = same_Some (own_trains t) ts e in
        subst (λ (l : List Train). Kept l r) same
        (of_trains (own_trains t) (query_fault (own_trains t) q ride_room work_room) refl r
        (subst (λ (o : Option Refusal). AnswersUnless m (timetable_of (own_trains t) runs) q o r rides) (after_check t q ride_room work_room f) answer))

    pub guaranteed : (ts : List Train) → meaning t.book.now.trains t.book.now.stops t.trains.now t.stops.now ≡ Some ts → Kept ts r
    guaranteed ts e = by_holding (HoldsSo t) refl ts e

-- ---- what is answered and left, by the refusal ahead of looking
module _ {Total C : Type 0} (t : Lent C) (m : Meaning Total) (runs : Pairs) (q : Query) (ride_room work_room : ℕ) (rides : List Ride) where
  pub answers_refusal : (reason : Refusal) → search_refusal t q ride_room work_room ≡ Some reason → Answers t m runs q ride_room work_room (Err reason) rides
  answers_refusal reason e = subst (λ (o : Option Refusal). AnswersUnless m (listed_in t runs) q o (Err reason) rides) (sym e) refl

  pub answers_found : (r : Result (Total × ℕ) Refusal) → search_refusal t q ride_room work_room ≡ None → FoundOrNone m (listed_in t runs) q r rides → Answers t m runs q ride_room work_room r rides
  answers_found r e f = subst (λ (o : Option Refusal). AnswersUnless m (listed_in t runs) q o r rides) (sym e) f

module _ {Total : Type 0} (o : Option Refusal) where
  pub leaves_work : (work : List (WorkRecord Total)) (reason : Refusal) → o ≡ Some reason → work ≡ work_left o work
  leaves_work work reason e = subst (λ (x : Option Refusal). work ≡ work_left x work) (sym e) refl

  pub blanks_work : (old mid new : List (WorkRecord Total)) → o ≡ None → length mid ≡ length old → new ≡ replicate (length mid) blank → new ≡ work_left o old
  blanks_work old mid new e long b = subst (λ (x : Option Refusal). new ≡ work_left x old) (sym e) (b ∙ ap (λ n. replicate n blank) long)

-- ---- the rows in use
-- the parts of the tables that are handed on hold the trains that are listed
pub record Handed {C : Type 0} (t : Lent C) (rows : List TrainRow) (used : List StopRow) : Type 0 where
  pub held : holds t.book.now.trains t.book.now.stops t.trains.now t.stops.now ≡ true
  pub ordered : InOrder rows used
  pub lawful : KeepTheRules (trains_in rows used)
  pub timely : Timely used
  pub same : trains_in rows used ≡ listed t.book.now.trains t.trains.now t.stops.now
  pub few : length used ≤ most_stops
  pub counted : used ≡ take t.book.now.stops t.stops.now

module _ {C : Type 0} (t : Lent C) where
  abbrev rows_of : ℕ → List TrainRow
  rows_of n = take n t.trains.now

  abbrev used_of : ℕ → List StopRow
  used_of s = take s t.stops.now

  pub handed : (n s : ℕ) → SoundIsTheRules → Ok tt ≡ t.checked → n ≡ t.book.now.trains → s ≡ t.book.now.stops → Handed t (take n t.trains.now) (take s t.stops.now)
  handed n s rules checked en es =
      let a = t.book.now.trains in
      let b = t.book.now.stops in
      let held = passed t checked in
      let ok = in_order a b t.trains.now t.stops.now held in
      let here : Handed t (rows_of a) (used_of b) =
      record {
        held = held;
        ordered = ok;
        lawful = keep_the_rules (rows_of a) (used_of b) ok rules;
        timely = timely (rows_of a) (used_of b) ok rules;
        same = same_trains a b t.trains.now t.stops.now held;
        few = ok.few_stops;
        counted = refl;
      }
      in
      subst (λ (x : ℕ). Handed t (rows_of x) (used_of s)) (sym en) (subst (λ (y : ℕ). Handed t (rows_of a) (used_of y)) (sym es) here)

  -- over them the query is refused as over the tables
  pub refused_alike : (rows : List TrainRow) (used : List StopRow) → Handed t rows used → (q : Query) (ride_room work_room : ℕ) → query_refusal q (length used) ride_room work_room ≡ search_refusal t q ride_room work_room
  refused_alike rows used hand q ride_room work_room = ap (λ (l : List StopRow). query_refusal q (length l) ride_room work_room) hand.counted ∙ same_refusal t q ride_room work_room hand.held
