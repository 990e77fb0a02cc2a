use Rattle.std.proofs.Common.{◌≡◌, ◌-◌, ◌≤◌, true, List, length, Some, None, sym, refl, ◌∙◌, subst, arith, rules}
use Rattle.std.proofs.lemmas.Result.{err_from_is_err_and}
use Rattle.book.specs.Trains.{Train, holds}
use Rattle.book.proofs.RefusedBy.{refused_by, not_refused}
use Rattle.connection.specs.Timetable.{timetable_of}
use Rattle.search.specs.Answers.{FoundOrNone}
use Rattle.search.specs.Layers.{BlankFrom}
use Rattle.search.specs.Refusals.{search_refusal}
use Rattle.search.proofs.BlankRecords.{blank_replicate}
use Rattle.search.proofs.Guaranteed.{passed, refused_first, refused_alike, askable, guaranteed, answers_refusal, answers_found, leaves_work, blanks_work, handed}
use Rattle.search.proofs.Leading.{reading_leads_on}
use Rattle.search.proofs.Prefix.{trains_fit, stops_fit}
use Rattle.search.proofs.search_over.Goals as goal
use Rattle.search.proofs.search_over.Goals.{then-not-is_blank, else-not-is_blank}

-- ---- the rows do not hold
pub returns-in_err-timetable : goal.returns-in_err-timetable
returns-in_err-timetable g c =
    let a = c.args in
    let t = a.timetable.now in
    let m = g.P.Tariff.meaning a.tariff.now in
    let runs = g.C.Calendar.runs t.calendar.now in
    let handed_on = err_from_is_err_and c.from_residual.result c.from_residual.ensures.1 in
    let refused = refused_first t a.query (length a.rides.now) (length a.work.now) c.in_err-timetable.field-0.0 (sym c.in_err-timetable.was) in
    let answer = answers_refusal t m runs a.query (length a.rides.now) (length a.work.now) a.rides.now _ refused in
    rw (handed_on.1, handed_on.2)
    record {
      answer = answer;
      rides = refl;
      work = leaves_work _ a.work.now _ refused;
      guarantee = λ calls h. guaranteed t m runs a.query (length a.rides.now) (length a.work.now) a.rides.now _ answer _ (c.every_history_holds.ensures.rows _ _ calls _ _ _ h).0;
      history = reading_leads_on c.every_history_holds.ensures.rows t.book.now t.trains.now t.stops.now;
    }

-- ---- the rows in use
pub slice_bounds-trains-end : goal.slice_bounds-trains-end
slice_bounds-trains-end g c =
    let t = c.args.timetable.now in
    let held : holds t.book.now.trains t.book.now.stops t.trains.now t.stops.now ≡ true = passed t (sym c.in_ok-timetable.was) in
    let fit : c.trains.result ≤ length t.trains.now = omega (arith, c.trains.ensures, trains_fit t.book.now.trains t.book.now.stops t.trains.now t.stops.now held) in
    search rules

pub slice_bounds-stops-end : goal.slice_bounds-stops-end
slice_bounds-stops-end g c =
    let t = c.args.timetable.now in
    let held : holds t.book.now.trains t.book.now.stops t.trains.now t.stops.now ≡ true = passed t (sym c.in_ok-timetable.was) in
    let fit : c.stops.result ≤ length t.stops.now = omega (arith, c.stops.ensures, stops_fit t.book.now.trains t.book.now.stops t.trains.now t.stops.now held) in
    search rules

pub judge-requires : goal.judge-requires
judge-requires g c =
    let hand = handed c.args.timetable.now (c.trains.result - 0) (c.stops.result - 0) c.every_history_holds.ensures.rules (sym c.in_ok-timetable.was) (omega (arith, c.trains.ensures)) (omega (arith, c.stops.ensures)) in
    record { few = hand.few }

-- ---- the query is refused
pub returns-in_err-judge : goal.returns-in_err-judge
returns-in_err-judge g c =
    let a = c.args in
    let t = a.timetable.now in
    let m = g.P.Tariff.meaning a.tariff.now in
    let runs = g.C.Calendar.runs t.calendar.now in
    let hand = handed t (c.trains.result - 0) (c.stops.result - 0) c.every_history_holds.ensures.rules (sym c.in_ok-timetable.was) (omega (arith, c.trains.ensures)) (omega (arith, c.stops.ensures)) in
    let handed_on = err_from_is_err_and c.from_residual-in_err-judge.result c.from_residual-in_err-judge.ensures.1 in
    let refused : search_refusal t a.query (length a.rides.now) (length a.work.now) ≡ Some c.in_err-judge.field-0.0 =
    sym (refused_alike t _ _ hand a.query (length a.rides.now) (length a.work.now)) ∙ refused_by _ _ c.in_err-judge.ensures
    in
    let answer = answers_refusal t m runs a.query (length a.rides.now) (length a.work.now) a.rides.now _ refused in
    rw (handed_on.1, handed_on.2)
    record {
      answer = answer;
      rides = refl;
      work = leaves_work _ a.work.now _ refused;
      guarantee = λ calls h. guaranteed t m runs a.query (length a.rides.now) (length a.work.now) a.rides.now _ answer _ (c.every_history_holds.ensures.rows _ _ calls _ _ _ h).0;
      history = reading_leads_on c.every_history_holds.ensures.rows t.book.now t.trains.now t.stops.now;
    }

-- ---- a connection is looked for
pub invariant_of-inquiry : goal.invariant_of-inquiry
invariant_of-inquiry g c =
    let a = c.args in
    let hand = handed a.timetable.now (c.trains.result - 0) (c.stops.result - 0) c.every_history_holds.ensures.rules (sym c.in_ok-timetable.was) (omega (arith, c.trains.ensures)) (omega (arith, c.stops.ensures)) in
    record { askable = askable a.query _ (length a.rides.now) (length a.work.now) (not_refused _ c.in_ok-judge.ensures); ordered = hand.ordered; lawful = hand.lawful; timely = hand.timely }

pub cheapest-requires-clause-blank : goal.cheapest-requires-clause-blank
cheapest-requires-clause-blank g c =
    elim c.if-not-is_blank.branch [
      | then-not-is_blank w ↦ subst (BlankFrom 0) (sym (w.work-is ∙ w.blank_all.ensures)) (blank_replicate (length c.args.work.now))
      | else-not-is_blank w ↦ subst (BlankFrom 0) (sym w.work-is) (c.requires.blank w.if-not-is_blank.false)
    ]

pub returns : goal.returns
returns g c =
    let a = c.args in
    let t = a.timetable.now in
    let m = g.P.Tariff.meaning a.tariff.now in
    let runs = g.C.Calendar.runs t.calendar.now in
    let hand = handed t (c.trains.result - 0) (c.stops.result - 0) c.every_history_holds.ensures.rules (sym c.in_ok-timetable.was) (omega (arith, c.trains.ensures)) (omega (arith, c.stops.ensures)) in
    let passes : search_refusal t a.query (length a.rides.now) (length a.work.now) ≡ None =
    sym (refused_alike t _ _ hand a.query (length a.rides.now) (length a.work.now)) ∙ not_refused _ c.in_ok-judge.ensures
    in
    let found = subst (λ (ts : List Train). FoundOrNone m (timetable_of ts runs) a.query c.cheapest.result c.cheapest.new.rides) hand.same c.cheapest.ensures.found in
    let answer = answers_found t m runs a.query (length a.rides.now) (length a.work.now) c.cheapest.new.rides c.cheapest.result passes found in
    record {
      answer = answer;
      rides = c.cheapest.ensures.rides;
      work = blanks_work _ a.work.now c.if-not-is_blank.work c.cheapest.new.work passes (omega arith) c.cheapest.ensures.work;
      guarantee = λ calls h. guaranteed t m runs a.query (length a.rides.now) (length a.work.now) c.cheapest.new.rides c.cheapest.result answer _ (c.every_history_holds.ensures.rows _ _ calls _ _ _ h).0;
      history = reading_leads_on c.every_history_holds.ensures.rows t.book.now t.trains.now t.stops.now;
    }
