use Rattle.std.proofs.Common.{◌≡◌, ℕ, ◌+◌, ◌*◌, ◌<◌, ◌≤◌, ◌||◌, not, Option, length, set, sym, ap, ◌∙◌, subst, ap₂, add_assoc, arith}
use Rattle.std.proofs.lemmas.List.{get_or_read}
use Rattle.std.proofs.lemmas.Bool.{ltb-true, ltb-false}
use Rattle.book.specs.Answers.{train_row}
use Rattle.book.specs.Rules.{stop_at}
use Rattle.book.specs.declared.rows.StopRow.{StopRow}
use Rattle.connection.specs.Choosing.{cheaper as cheaper_of}
use Rattle.connection.specs.declared.label.Label.{Label}
use Rattle.search.specs.Chains.{may_be_caught}
use Rattle.search.specs.Ends.{ends_no_dearer, known_total, is_end, end_here}
use Rattle.search.specs.Layers.{row_of}
use Rattle.search.specs.Notes.{noted}
use Rattle.search.specs.Records.{record_of}
use Rattle.search.specs.Working.{number, layer_at, part_at, if_worth_following}
use Rattle.search.specs.Limits.{block, blocks}
use Rattle.search.proofs.Basis.{Basis}
use Rattle.search.proofs.BlankRecords.{blank_less}
use Rattle.search.proofs.Chaining.{not_some}
use Rattle.search.proofs.FillingRuns.{FilledTo, filled_none, filled_more, filled_left, comes_next}
use Rattle.search.proofs.Layering.{record_below, few_records}
use Rattle.search.proofs.LeftStops.{left_by, nobody_boards}
use Rattle.search.proofs.RowsAreTrains.{fits, own_count, own_stop, place_below}
use Rattle.search.proofs.Unchanged.{linked_same}
use Rattle.search.proofs.WholeRuns.{fills_run}
use Rattle.search.proofs.WrittenRecords.{unchanged_still}
use Rattle.search.proofs.inquiry.Inquiry.fill_run.Goals as goal
use Rattle.search.proofs.inquiry.Inquiry.fill_run.Goals.{in-Some, in_default}

pub overflow_cast-first : goal.overflow_cast-first
overflow_cast-first g c =
    let s = c.args.self.now in
    omega (arith, s.ordered.few_stops, fits s.trains.now s.stops.now s.ordered c.args.run.train c.requires.in_force)

pub place-place-requires : goal.place-place-requires
place-place-requires g c =
    let s = c.args.self.now in
    record { inside = omega (arith, fits s.trains.now s.stops.now s.ordered c.args.run.train c.requires.in_force) }

pub loop-i-init : goal.loop-i-init
loop-i-init g c =
    let a = c.args in
    let s = a.self.now in
    let t = s.tariff.now in
    let laws = g.met.P.Tariff in
    let m = g.P.Tariff.meaning t in
    let basis : Basis m = record { connex = laws.connex t; transitive = laws.transitive t; grows = laws.grows t; keeps = laws.keeps t; starts = laws.starts t; counts = laws.counts t } in
    filled_none m s a.layer.number a.run.train a.run.shift a.reached.now basis c.requires.in_force a.work.now c.requires.blank

pub boarding-boarded-requires-clause-linked : goal.boarding-boarded-requires-clause-linked
boarding-boarded-requires-clause-linked g c later =
    let a = c.args in
    let s = a.self.now in
    let l = c.loop-i in
    let row = train_row a.run.train s.trains.now in
    let at : layer_at (length s.stops.now) a.layer.number + (c.place-place.result + l.i) ≡ part_at (length s.stops.now) a.layer.number a.run.shift + row.first + l.i = omega (arith, c.place-place.ensures) in
    let next = c.keep.ensures.work ∙ ap (λ x. set l.work x (record_of c.if_worth_following-aboard.result)) at in
    let unchanged = unchanged_still (part_at (length s.stops.now) a.layer.number a.run.shift + row.first) l.i a.work.now l.work c.keep.new.work c.if_worth_following-aboard.result l.invariant.unchanged next in
    let end = a.reached.now.end in
    (linked_same (g.P.Tariff.meaning s.tariff.now) s a.layer.number a.work.now c.keep.new.work a.arrivals.now end end (λ z h. unchanged z (omega arith)) (λ t h. h) c.requires.linked).chained later

pub if_worth_following-aboard-requires-clause-latest : goal.if_worth_following-aboard-requires-clause-latest
if_worth_following-aboard-requires-clause-latest g c =
    let a = c.args in
    let s = a.self.now in
    let size = length s.stops.now in
    let n = a.run.train in
    let l = c.loop-i in
    let row = row_of s.trains.now n l.i in
    let long : length c.stops-stops.result.now ≡ (train_row n s.trains.now).count = ap length c.stops-stops.ensures ∙ own_count s.trains.now s.stops.now s.ordered n c.requires.in_force in
    let inside : row < size = omega (arith, fits s.trains.now s.stops.now s.ordered n c.requires.in_force, c.loop-i-test.true, long) in
    let spot = ap (λ x. x + l.i) c.place-place.ensures ∙ add_assoc (number a.run.shift * size) (train_row n s.trains.now).first l.i in
    let far : c.place-place.result + l.i < 3 * size = omega (arith, spot, place_below a.run.shift size row inside) in
    (l.invariant.noted c.requires.noted).latest.behind (c.place-place.result + l.i) (omega (arith, c.place-place.ensures)) far

pub keep-requires-clause-blank : goal.keep-requires-clause-blank
keep-requires-clause-blank g c =
    let a = c.args in
    let size = length a.self.now.stops.now in
    let l = c.loop-i in
    let row = train_row a.run.train a.self.now.trains.now in
    blank_less (part_at size a.layer.number a.run.shift + row.first + l.i) (layer_at size a.layer.number + (c.place-place.result + l.i)) l.work (omega (arith, c.place-place.ensures)) l.invariant.blank

pub loop-i-preserved-then-not-may_be_caught : goal.loop-i-preserved-then-not-may_be_caught
loop-i-preserved-then-not-may_be_caught g c =
    let a = c.args in
    let s = a.self.now in
    let t = s.tariff.now in
    let laws = g.met.P.Tariff in
    let m = g.P.Tariff.meaning t in
    let basis : Basis m = record { connex = laws.connex t; transitive = laws.transitive t; grows = laws.grows t; keeps = laws.keeps t; starts = laws.starts t; counts = laws.counts t } in
    let size = length s.stops.now in
    let layer = a.layer.number in
    let n = a.run.train in
    let day = a.run.shift in
    let l = c.loop-i in
    let f = fits s.trains.now s.stops.now s.ordered n c.requires.in_force in
    let long : length c.stops-stops.result.now ≡ (train_row n s.trains.now).count = ap length c.stops-stops.ensures ∙ own_count s.trains.now s.stops.now s.ordered n c.requires.in_force in
    let li : l.i < (train_row n s.trains.now).count = omega (arith, c.loop-i-test.true) in
    let row = row_of s.trains.now n l.i in
    let below = record_below size layer day row (omega arith) in
    let room : part_at size layer day + (train_row n s.trains.now).first + l.i < length l.work = omega (arith, below) in
    let few : part_at size layer day + (train_row n s.trains.now).first + l.i < block * blocks = omega (arith, few_records size layer day row (omega arith) s.ordered.few_stops a.layer.shallow) in
    let stop_is = ap (λ x. stop_at x l.i) c.stops-stops.ensures ∙ own_stop s.trains.now s.stops.now s.ordered n l.i li in
    let gone = left_by a.arrivals.now layer s.query.now (stop_at s.stops.now row) day (ap (λ x. may_be_caught a.arrivals.now layer s.query.now x day) (sym stop_is) ∙ sym c.may_be_caught.ensures ∙ c.if-not-may_be_caught.true) in
    let end = a.reached.now.end in
    let linked = linked_same m s layer a.work.now l.work a.arrivals.now end end (λ z h. l.invariant.unchanged z (omega arith)) (λ total h. h) c.requires.linked in
    let none = not_some l.aboard (c.is_none.ensures ∙ ap not c.if-is_none.true) in
    let to = λ (i : ℕ) (o : Option (Label _)). FilledTo m s layer n day a.reached.now a.work.now l.work i l.found o l.reached in
    subst (to (l.i + 1)) (sym none)
    (filled_left m s layer n day a.reached.now basis c.requires.in_force a.work.now l.work l.i l.found l.reached (subst (to l.i) none l.invariant) li room few a.arrivals.now.known c.requires.linked.no_dearer
    (λ runs best worse may filled. nobody_boards m s basis n day c.requires.in_force l.work (known_total best) runs l.i li a.arrivals.now worse layer linked.chained filled gone))

pub loop-i-preserved : goal.loop-i-preserved
loop-i-preserved g c =
    let a = c.args in
    let s = a.self.now in
    let t = s.tariff.now in
    let laws = g.met.P.Tariff in
    let m = g.P.Tariff.meaning t in
    let basis : Basis m = record { connex = laws.connex t; transitive = laws.transitive t; grows = laws.grows t; keeps = laws.keeps t; starts = laws.starts t; counts = laws.counts t } in
    let size = length s.stops.now in
    let layer = a.layer.number in
    let n = a.run.train in
    let l = c.loop-i in
    let row = train_row n s.trains.now in
    let f = fits s.trains.now s.stops.now s.ordered n c.requires.in_force in
    let long : length c.stops-stops.result.now ≡ row.count = ap length c.stops-stops.ensures ∙ own_count s.trains.now s.stops.now s.ordered n c.requires.in_force in
    let li : l.i < row.count = omega (arith, c.loop-i-test.true) in
    let below = record_below size layer a.run.shift (row_of s.trains.now n l.i) (omega arith) in
    let room : part_at size layer a.run.shift + row.first + l.i < length l.work = omega (arith, below) in
    let spot = ap (λ x. x + l.i) c.place-place.ensures ∙ add_assoc (number a.run.shift * size) row.first l.i in
    let stop_is = ap (λ x. stop_at x l.i) c.stops-stops.ensures ∙ own_stop s.trains.now s.stops.now s.ordered n l.i li in
    let ends = λ (stop : StopRow) (x : ℕ). cheaper_of (ends_no_dearer m) l.reached.end (end_here (is_end stop s.query.now.destination) layer x c.if_worth_following-aboard.result) in
    let few : part_at size layer a.run.shift + row.first + l.i < block * blocks = omega (arith, few_records size layer a.run.shift (row_of s.trains.now n l.i) (omega arith) s.ordered.few_stops a.layer.shallow) in
    let known = c.keep.ensures.end ∙ ap₂ ends stop_is spot in
    let kept = c.if_worth_following-aboard.ensures ∙ ap (λ x. if_worth_following m size l.work x (known_total l.reached.end) layer l.aboard) spot in
    let at : layer_at (length s.stops.now) a.layer.number + (c.place-place.result + l.i) ≡ part_at (length s.stops.now) a.layer.number a.run.shift + row.first + l.i = omega (arith, c.place-place.ensures) in
    let notes = c.keep.ensures.notes ∙ ap₂ (λ (x y : ℕ). noted l.reached.notes layer x y c.if_worth_following-aboard.result) spot at in
    let next = c.keep.ensures.work ∙ ap (λ x. set l.work x (record_of c.if_worth_following-aboard.result)) at in
    filled_more m s layer n a.run.shift a.reached.now basis c.requires.in_force a.work.now l.work l.i l.found l.aboard c.if_worth_following-aboard.result l.reached c.keep.new.reached l.invariant li room few kept c.keep.new.work next known notes (l.found || c.is_some-found.result) c.match-get.aboard (ap (λ b. l.found || b) c.is_some-found.ensures)
    (elim c.match-get.branch [
      | in-Some w ↦
          let on : l.i + 1 < length c.stops-stops.result.now = ltb-true _ _ (sym w.in-Some.ensures.lookup.0) in
          let there_is = get_or_read c.stops-stops.result.now (l.i + 1) _ on w.in-Some.ensures.lookup.1 _ ∙ ap (λ x. stop_at x (l.i + 1)) c.stops-stops.ensures ∙ own_stop s.trains.now s.stops.now s.ordered n (l.i + 1) (omega arith) in
          comes_next m s layer n a.run.shift a.reached.now basis c.requires.in_force a.work.now l.work l.i l.found l.aboard c.if_worth_following-aboard.result l.reached c.keep.new.reached l.invariant li room few kept c.keep.new.work next known notes _ w.in-Some.next.now w.boarding-boarded.result w.if_promising-boarded.result c.match-get.aboard a.arrivals.now.known c.requires.linked.no_dearer stop_is there_is (omega arith) w.boarding-boarded.ensures.settles w.if_promising-boarded.ensures (w.aboard-is ∙ w.ride_on-aboard.ensures)
      | in_default w ↦ λ runs may filled more. let none : length c.stops-stops.result.now ≤ l.i + 1 = ltb-false _ _ (sym w.in_default.ensures.lookup.0) in absurd (omega arith)
    ])

pub returns : goal.returns
returns g c =
    let a = c.args in
    let s = a.self.now in
    let t = s.tariff.now in
    let laws = g.met.P.Tariff in
    let m = g.P.Tariff.meaning t in
    let basis : Basis m = record { connex = laws.connex t; transitive = laws.transitive t; grows = laws.grows t; keeps = laws.keeps t; starts = laws.starts t; counts = laws.counts t } in
    let n = a.run.train in
    let l = c.loop-i in
    let long : length c.stops-stops.result.now ≡ (train_row n s.trains.now).count = ap length c.stops-stops.ensures ∙ own_count s.trains.now s.stops.now s.ordered n c.requires.in_force in
    let end : l.i ≡ (train_row n s.trains.now).count = omega arith in
    let state = subst (λ (i : ℕ). FilledTo m s a.layer.number n a.run.shift a.reached.now a.work.now l.work i l.found l.aboard l.reached) end l.invariant in
    fills_run m s a.layer.number n a.run.shift a.reached.now basis c.requires.in_force a.work.now l.work l.found l.aboard l.reached state
