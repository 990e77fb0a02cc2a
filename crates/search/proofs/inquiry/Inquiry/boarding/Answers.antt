use Rattle.std.proofs.Common.{◌≡◌, ℕ, ◌+◌, ◌-◌, ◌<◌, Bool, true, false, ◌&&◌, length, sym, refl, ◌∙◌, subst, ap₂, arith}
use Rattle.book.specs.Answers.{train_row}
use Rattle.connection.specs.Rides.{may_board}
use Rattle.connection.specs.Settled.{SettlesBoarding}
use Rattle.search.specs.Chains.{ChainedLayer}
use Rattle.search.specs.Ends.{known_total}
use Rattle.search.specs.Layers.{row_of, Trail}
use Rattle.search.specs.Working.{asked_over, stop_in, may_use}
use Rattle.search.proofs.Basis.{Basis}
use Rattle.search.proofs.RowsAreTrains.{fits, few_stops_of}
use Rattle.search.proofs.WaysToBoard.{boards_nothing, boards_first, boards_later}
use Rattle.search.proofs.inquiry.Inquiry.boarding.Given.{Over}
use Rattle.search.proofs.inquiry.Inquiry.boarding.Goals as goal
use Rattle.search.proofs.inquiry.Inquiry.boarding.Goals.{Start}

basis : (g : Over) (c : Start g) → Basis (g.P.Tariff.meaning c.args.self.now.tariff.now)
basis g c =
    let t = c.args.self.now.tariff.now in
    let laws = g.met.P.Tariff in
    record { connex = laws.connex t; transitive = laws.transitive t; grows = laws.grows t; keeps = laws.keeps t; starts = laws.starts t; counts = laws.counts t }

inside : (g : Over) (c : Start g) → row_of c.args.self.now.trains.now c.args.run.train c.args.i < length c.args.self.now.stops.now
inside g c =
    let s = c.args.self.now in
    omega (arith, fits s.trains.now s.stops.now s.ordered c.args.run.train c.requires.in_force, c.requires.on_the_train)

and_false : (a b : Bool) → b ≡ false → (a && b) ≡ false
and_false true b e = e
and_false false b e = refl

pub overflow_add-row : goal.overflow_add-row
overflow_add-row g c = omega (arith, inside g (goal.at.overflow_add-row g c).Start, c.args.self.now.ordered.few_stops)

pub offset_bounds-self-row : goal.offset_bounds-self-row
offset_bounds-self-row g c = omega (arith, inside g (goal.at.offset_bounds-self-row g c).Start, c.args.self.now.ordered.few_stops)

pub bounds-self-row : goal.bounds-self-row
bounds-self-row g c = inside g (goal.at.bounds-self-row g c).Start

pub start-requires : goal.start-requires
start-requires g c = record { inside = inside g (goal.at.start-requires g c).Start }

pub leaves-requires : goal.leaves-requires
leaves-requires g c = record { inside = inside g (goal.at.leaves-requires g c).Start }

pub returns-then-not-may_board : goal.returns-then-not-may_board
returns-then-not-may_board g c =
    let a = c.args in
    let s = a.self.now in
    let m = g.P.Tariff.meaning s.tariff.now in
    let stop = stop_in s (row_of s.trains.now a.run.train a.i) in
    record {
      settles = λ runs known worse may filled.
          boards_nothing m s (basis g (goal.at.returns-then-not-may_board g c).Start) runs (known_total known) a.run.train a.run.shift a.i c.requires.in_force c.requires.on_the_train _ a.layer.number
          (and_false (may_use runs s.query.now (train_row a.run.train s.trains.now) a.run.shift) (may_board stop) (sym c.may_board.ensures ∙ c.if-not-may_board.true));
    }

pub overflow_cast-board : goal.overflow_cast-board
overflow_cast-board g c =
    let s = c.args.self.now in
    omega (arith, few_stops_of s.trains.now s.stops.now s.ordered s.lawful c.args.run.train c.requires.in_force)

pub returns-in_default : goal.returns-in_default
returns-in_default g c =
    let a = c.args in
    let s = a.self.now in
    let m = g.P.Tariff.meaning s.tariff.now in
    let first : a.layer.number ≡ 0 = c.in_default.ensures in
    record {
      settles = λ runs known worse may filled.
          subst (λ (k : ℕ). SettlesBoarding m (asked_over s runs) s.query.now (Trail s a.work.now k) (known_total known) k a.run.train a.run.shift a.i c.start.result) (sym first)
          (boards_first m s (basis g (goal.at.returns-in_default g c).Start) runs (known_total known) a.run.train a.run.shift a.i c.requires.in_force c.requires.on_the_train a.work.now c.start.result
          (ap₂ (λ x y. x && y) (sym may) (sym c.may_board.ensures ∙ c.if-not-may_board.false)) c.start.ensures);
    }

pub best_change-requires-clause-linked : goal.best_change-requires-clause-linked
best_change-requires-clause-linked g c =
    let a = c.args in
    let next : c.in-Some.before.number + 1 ≡ a.layer.number = c.in-Some.ensures in
    let e : a.layer.number - 1 ≡ c.in-Some.before.number = omega arith in
    let later : 0 < a.layer.number = omega arith in
    subst (λ (k : ℕ). ChainedLayer (g.P.Tariff.meaning a.self.now.tariff.now) a.self.now a.work.now k a.arrivals.now) e (c.requires.linked later)

pub returns : goal.returns
returns g c =
    let a = c.args in
    let s = a.self.now in
    let m = g.P.Tariff.meaning s.tariff.now in
    record {
      settles = λ runs known worse may filled.
          boards_later m s (basis g (goal.at.returns g c).Start) runs (known_total known) (known_total a.arrivals.now.known) worse a.layer.number c.in-Some.before.number a.work.now a.run.train a.run.shift a.i c.leaves.result c.best_change.result c.in-Some.ensures filled c.requires.in_force c.requires.on_the_train
          (ap₂ (λ x y. x && y) (sym may) (sym c.may_board.ensures ∙ c.if-not-may_board.false)) c.leaves.ensures c.best_change.ensures.best;
    }
