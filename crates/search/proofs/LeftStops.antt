-- Nobody boards a run at a stop that it has left by the time that somebody comes there.
use Rattle.std.proofs.Common.{◌≡◌, ℕ, zero, suc, ◌<◌, ◌-◌, Bool, true, false, cond, ◌&&◌, eqb, leb, List, length, Some, None, Option, sym, refl, ap, ap₂, ◌∙◌, subst, add-one, arith}
use Rattle.std.proofs.lemmas.Bool.{lt-leb, leb-false}
use Rattle.tariff.specs.Meaning.{Meaning}
use Rattle.tariff.specs.declared.step.Kind.TheVariants.{Start}
use Rattle.book.specs.Answers.{train_row}
use Rattle.book.specs.declared.rows.StopRow.{StopRow}
use Rattle.book.specs.declared.rows.TrainRow.{TrainRow}
use Rattle.calendar.specs.Pairs.{Pairs}
use Rattle.connection.specs.Choosing.{only_when}
use Rattle.connection.specs.Clock.{midnight, ready}
use Rattle.connection.specs.Moves.{with}
use Rattle.connection.specs.Prices.{stretch}
use Rattle.connection.specs.Rides.{may_board, leaves_at}
use Rattle.connection.specs.Settled.{Hopeless, SettlesBoarding}
use Rattle.connection.specs.declared.query.Query.{Query}
use Rattle.connection.specs.declared.ride.Shift.{Shift}
use Rattle.search.specs.Chains.{never, ChainedLayer, promising, there_from, missed_at, may_be_caught}
use Rattle.search.specs.Ends.{known_total}
use Rattle.search.specs.Layers.{row_of, Trail, Filled}
use Rattle.search.specs.Working.{may_use, asked_over, size_of, stop_in}
use Rattle.search.specs.declared.chains.Arrivals.{Arrivals}
use Rattle.search.specs.declared.inquiry.Inquiry.{Inquiry}
use Rattle.search.specs.declared.record.WorkRecord.{WorkRecord}
use Rattle.search.proofs.Basis.{Basis}
use Rattle.search.proofs.BestChange.{no_changes}
use Rattle.search.proofs.WaysToBoard.{boards_nothing, boards_first, boards_later, onward_from}

-- what cannot be caught is left by then
pub left_by : {A : Type 0} (arrivals : Arrivals A) (k : ℕ) (q : Query) (stop : StopRow) (s : Shift) → may_be_caught arrivals k q stop s ≡ false → may_board stop ≡ true → leaves_at q s stop < there_from arrivals k q stop.station
left_by arrivals k q stop s none may =
    let late = missed_at arrivals k q stop in
    omega (arith, leb-false late (midnight q s) (sym (ap (λ b. b && leb late (midnight q s)) may) ∙ none))

module _ {P A : Type 0} (m : Meaning A) (inquiry : Inquiry P) (basis : Basis m) (n : ℕ) (s : Shift) (ln : n < length inquiry.trains.now) (table : List (WorkRecord A)) (known : Option A) (runs : Pairs) (i : ℕ) (li : i < (train_row n inquiry.trains.now).count) where
  abbrev rows : List TrainRow
  rows = inquiry.trains.now

  abbrev stops : List StopRow
  stops = inquiry.stops.now

  abbrev q : Query
  q = inquiry.query.now

  abbrev size : ℕ
  size = size_of inquiry

  abbrev stop : StopRow
  stop = stop_in inquiry (row_of rows n i)

  abbrev leaves : ℕ
  leaves = leaves_at q s stop

  abbrev None_boards : ℕ → Type 0
  None_boards k = SettlesBoarding m (asked_over inquiry runs) q (Trail inquiry table k) known k n s i None

  too_early : (b : Bool) → eqb stop.station q.origin ≡ b → leaves < cond b (ready q) never → (eqb stop.station q.origin && leb (ready q) leaves) ≡ false
  too_early true e h = ap (λ b. b && leb (ready q) leaves) e ∙ lt-leb (ready q) leaves h
  too_early false e h = ap (λ b. b && leb (ready q) leaves) e

  at_the_start : (may_use runs q (train_row n rows) s && may_board stop) ≡ true → leaves < cond (eqb stop.station q.origin) (ready q) never → None_boards 0
  at_the_start e h =
      boards_first m inquiry basis runs known n s i ln li table None e
      (ap (λ b. only_when b (Some (record { total = with m m.empty (stretch Start (leaves - ready q) 0); board = i; from = 0 }))) (sym (too_early (eqb stop.station q.origin) refl h)))

  module _ (arrivals : Arrivals A) (worse : (t : A) → Hopeless m (known_total arrivals.known) t → Hopeless m known t) where
    after_a_change : (k : ℕ) → (0 < suc k → ChainedLayer m inquiry table (suc k - 1) arrivals) → Filled m inquiry runs known table (suc k) → leaves < there_from arrivals (suc k) q stop.station → (may_use runs q (train_row n rows) s && may_board stop) ≡ true → None_boards (suc k)
    after_a_change k linked filled gone e =
        let same : suc k - 1 ≡ k = omega arith in
        let c = known_total arrivals.known in
        let chained = subst (λ (j : ℕ). ChainedLayer m inquiry table j arrivals) same (linked (omega arith)) in
        boards_later m inquiry basis runs known c worse (suc k) k table n s i leaves None (add-one k) filled ln li e refl (no_changes m inquiry (promising m inquiry table c k) arrivals (onward_from inquiry n i leaves) chained gone)

    either : (k : ℕ) → (0 < k → ChainedLayer m inquiry table (k - 1) arrivals) → Filled m inquiry runs known table k → (may_board stop ≡ true → leaves < there_from arrivals k q stop.station) → (u : Bool) → may_use runs q (train_row n rows) s ≡ u → (b : Bool) → may_board stop ≡ b → None_boards k
    either k linked filled gone false eu b eb = boards_nothing m inquiry basis runs known n s i ln li (Trail inquiry table k) k (ap (λ x. x && may_board stop) eu)
    either k linked filled gone true eu false eb = boards_nothing m inquiry basis runs known n s i ln li (Trail inquiry table k) k (ap₂ (λ x y. x && y) eu eb)
    either zero linked filled gone true eu true eb = at_the_start (ap₂ (λ x y. x && y) eu eb) (gone eb)
    either (suc k) linked filled gone true eu true eb = after_a_change k linked filled (gone eb) (ap₂ (λ x y. x && y) eu eb)

    pub nobody_boards : (k : ℕ) → (0 < k → ChainedLayer m inquiry table (k - 1) arrivals) → Filled m inquiry runs known table k → (may_board stop ≡ true → leaves < there_from arrivals k q stop.station) → None_boards k
    nobody_boards k linked filled gone = either k linked filled gone (may_use runs q (train_row n rows) s) refl (may_board stop) refl
