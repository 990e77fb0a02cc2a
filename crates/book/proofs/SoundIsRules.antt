-- `sound` is the rules.
use Rattle.std.proofs.Common.{◌≡◌, ℕ, zero, suc, ◌-◌, ◌<◌, ◌≤◌, true, false, ltb, List, [], ◌∷◌, length, is_some, Some, None, Option, sym, refl, ap, subst, arith}
use Rattle.std.proofs.lemmas.Bool.{and_parts, and_from, or_parts, or_from, not-true, not-false, not_from_true, not_from_false, eqb-false, ne_eqb, ltb-false, le-ltb, leb-false, lt-leb, leb-true, le-leb, both_ways}
use Rattle.book.specs.declared.rows.StopRow.{StopRow}
use Rattle.book.specs.declared.rows.Departure.{Departure}
use Rattle.book.specs.Limits.{last_station, last_minute, most_stops_of_train}
use Rattle.book.specs.Stops.{ended, same_station, wrong_times, late, leaves, left_at, before_it, not_after, stop_reasons, stop_fault, in_order, last_of, sound}
use Rattle.book.specs.Rules.{stop_at, Rules, SoundIsTheRules}
use Rattle.book.proofs.FirstReason.{none_holds}
use Rattle.book.proofs.StopOrder.{no_stop, last_of_is}

-- ---- one stop
record Fits (before : Option StopRow) (s : StopRow) : Type 0 where
  opened : ended before ≡ false
  known : ltb last_station s.station ≡ false
  elsewhere : same_station before s ≡ false
  timed : wrong_times before s ≡ false
  late_in : late s.arrive ≡ false
  late_out : late (leaves s.depart) ≡ false
  waited : before_it s.arrive (leaves s.depart) ≡ false
  rode : not_after (left_at before) s.arrive ≡ false

none : {A : Type 0} (o : Option A) → is_some o ≡ false → o ≡ None
none None h = refl
none (Some x) h = absurd (cc)

fits : (before : Option StopRow) (s : StopRow) → is_some (stop_fault before s) ≡ false → Fits before s
unfolding stop_fault
fits before s h =
    let p = none_holds (stop_reasons before s) (none _ h) in
    let bad = or_parts _ _ p.1.1.1.1.0 in
    let bad2 = or_parts _ _ bad.0 in
    let bad3 = or_parts _ _ bad2.0 in
    record {
      opened = p.0;
      known = p.1.0;
      elsewhere = p.1.1.0;
      timed = p.1.1.1.0;
      late_in = bad3.0;
      late_out = bad3.1;
      waited = bad2.1;
      rode = bad.1;
    }

passes : (before : Option StopRow) (s : StopRow) → Fits before s → is_some (stop_fault before s) ≡ false
unfolding stop_fault
passes before s f =
    rw (f.opened, f.known, f.elsewhere, f.timed, f.late_in, f.late_out, f.waited, f.rode) refl

-- ---- one stop after another
before_at : Option StopRow → List StopRow → ℕ → Option StopRow
before_at b ss zero = b
before_at b ss (suc i) = Some (stop_at ss i)

before_on : (b : Option StopRow) (s : StopRow) (ss : List StopRow) (i : ℕ) → before_at (Some s) ss i ≡ before_at b (s ∷ ss) (suc i)
unfolding before_at
before_on b s ss zero = refl
before_on b s ss (suc i) = refl

each_fits : (b : Option StopRow) (ss : List StopRow) → in_order b ss ≡ true → (i : ℕ) → i < length ss → Fits (before_at b ss i) (stop_at ss i)
unfolding before_at
each_fits b [] h i l = absurd (omega arith)
each_fits b (s ∷ ss) h zero l = fits b s (not-true _ (and_parts _ _ h).0)
each_fits b (s ∷ ss) h (suc i) l = subst (λ (p : Option StopRow). Fits p (stop_at ss i)) (before_on b s ss i) (each_fits (Some s) ss (and_parts _ _ h).1 i (omega arith))

all_fit : (b : Option StopRow) (ss : List StopRow) → ((i : ℕ) → i < length ss → Fits (before_at b ss i) (stop_at ss i)) → in_order b ss ≡ true
unfolding before_at
all_fit b [] each = refl
all_fit b (s ∷ ss) each =
    and_from _ _ (not_from_false _ (passes b s (each 0 (omega arith))))
    (all_fit (Some s) ss (λ i l. subst (λ (p : Option StopRow). Fits p (stop_at ss i)) (sym (before_on b s ss i)) (each (suc i) (omega arith))))

-- ---- what a test of a minute says
not_late : (o : Option ℕ) → ((m : ℕ) → o ≡ Some m → m ≤ last_minute) → late o ≡ false
not_late None h = refl
not_late (Some m) h = le-ltb last_minute m (h m refl)

not_late_out : (o : Option Departure) → ((d : Departure) → o ≡ Some d → d.minute ≤ last_minute) → late (leaves o) ≡ false
not_late_out None h = refl
not_late_out (Some d) h = le-ltb last_minute d.minute (h d refl)

waited_from : (a : Option ℕ) (o : Option Departure) → ((m : ℕ) (d : Departure) → a ≡ Some m → o ≡ Some d → m ≤ d.minute) → before_it a (leaves o) ≡ false
waited_from None None h = refl
waited_from None (Some d) h = refl
waited_from (Some m) None h = refl
waited_from (Some m) (Some d) h = le-ltb d.minute m (h m d refl refl)

rode_from : (o : Option Departure) (a : Option ℕ) → ((d : Departure) (m : ℕ) → o ≡ Some d → a ≡ Some m → d.minute < m) → not_after (leaves o) a ≡ false
rode_from None None h = refl
rode_from None (Some m) h = refl
rode_from (Some d) None h = refl
rode_from (Some d) (Some m) h = lt-leb m d.minute (h d m refl refl)

-- ---- a train that passes keeps the rules
two : (ss : List StopRow) → in_order None ss ≡ true → ended (last_of None ss) ≡ true → 2 ≤ length ss
two [] h e = absurd (cc)
two (s ∷ []) h e =
    let f = fits None s (not-true _ (and_parts _ _ h).0) in
    absurd (both_ways _ (or_parts _ _ f.timed).1 e)
two (s ∷ t ∷ ss) h e = omega arith

sound_rules : (n : ℕ) (ss : List StopRow) → sound n ss ≡ true → Rules n ss
unfolding sound before_at
sound_rules n ss h =
    let p = and_parts _ _ h in
    let q = and_parts _ _ p.0 in
    let u = and_parts _ _ q.0 in
    let each = each_fits None ss q.1 in
    let more = two ss q.1 p.1 in
    let some : 0 < length ss = omega arith in
    let last : ended (Some (stop_at ss (length ss - 1))) ≡ true = rw (last_of_is None ss no_stop some) at p.1 in
    record {
      numbered = eqb-false n 0 (not-true _ u.0);
      several = more;
      not_many = leb-true _ _ u.1;
      stations = λ i l. ltb-false _ _ (each i l).known;
      apart = λ i l. eqb-false _ _ (each (suc i) l).elsewhere;
      no_first_arrival = none _ (or_parts _ _ (each 0 some).timed).0;
      arrives = λ i l. not-false _ (each (suc i) l).timed;
      departs = λ i l. not-false _ (each (suc i) l).opened;
      no_last_departure = none _ (not-true _ last);
      arrives_in_time = λ i m l e. let t : late (Some m) ≡ false = rw e at (each i l).late_in in ltb-false _ _ t;
      departs_in_time = λ i d l e. let t : late (leaves (Some d)) ≡ false = rw e at (each i l).late_out in ltb-false _ _ t;
      waits = λ i m d l e f. let t : before_it (Some m) (leaves (Some d)) ≡ false = rw (e, f) at (each i l).waited in ltb-false _ _ t;
      rides = λ i d m l e f. let t : not_after (leaves (Some d)) (Some m) ≡ false = rw (e, f) at (each (suc i) l).rode in leb-false _ _ t;
    }

-- ---- a train that keeps the rules passes
rules_fit : (n : ℕ) (ss : List StopRow) → Rules n ss → (i : ℕ) → i < length ss → Fits (before_at None ss i) (stop_at ss i)
unfolding before_at
rules_fit n ss r zero l =
    record {
      opened = refl;
      known = le-ltb last_station _ (r.stations 0 l);
      elsewhere = refl;
      timed = or_from _ _ (ap is_some r.no_first_arrival) (not_from_true _ (r.departs 0 (omega (arith, r.several))));
      late_in = not_late _ (λ m e. r.arrives_in_time 0 m l e);
      late_out = not_late_out _ (λ d e. r.departs_in_time 0 d l e);
      waited = waited_from _ _ (λ m d e f. r.waits 0 m d l e f);
      rode = refl;
    }
rules_fit n ss r (suc i) l =
    record {
      opened = not_from_true _ (r.departs i l);
      known = le-ltb last_station _ (r.stations (suc i) l);
      elsewhere = ne_eqb _ _ (r.apart i l);
      timed = not_from_true _ (r.arrives i l);
      late_in = not_late _ (λ m e. r.arrives_in_time (suc i) m l e);
      late_out = not_late_out _ (λ d e. r.departs_in_time (suc i) d l e);
      waited = waited_from _ _ (λ m d e f. r.waits (suc i) m d l e f);
      rode = rode_from _ _ (λ d m e f. r.rides i d m l e f);
    }

rules_sound : (n : ℕ) (ss : List StopRow) → Rules n ss → sound n ss ≡ true
unfolding sound
rules_sound n ss r =
    let last : ended (last_of None ss) ≡ true
    = rw (last_of_is None ss no_stop (omega (arith, r.several))) (not_from_false _ (ap is_some r.no_last_departure)) in
    and_from _ _ (and_from _ _ (and_from _ _ (not_from_false _ (ne_eqb n 0 r.numbered)) (le-leb (length ss) most_stops_of_train r.not_many)) (all_fit None ss (rules_fit n ss r))) last

pub sound_is_the_rules : SoundIsTheRules
sound_is_the_rules n ss = (sound_rules n ss, rules_sound n ss)
