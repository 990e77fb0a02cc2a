-- Nobody is on board a run that nobody boards, so its blank records settle its stops.
use Rattle.std.proofs.Common.{◌≡◌, ℕ, zero, suc, ◌+◌, ◌*◌, ◌<◌, ◌≤◌, Bool, false, ◌&&◌, List, length, None, Option, sym, refl, ap, subst, add_assoc, arith}
use Rattle.tariff.specs.Meaning.{Meaning}
use Rattle.book.specs.Answers.{train_row}
use Rattle.book.specs.Trains.{trains_in}
use Rattle.book.specs.declared.rows.StopRow.{StopRow}
use Rattle.book.specs.declared.rows.TrainRow.{TrainRow}
use Rattle.calendar.specs.Pairs.{Pairs}
use Rattle.connection.specs.Rides.{may_board, stops_at}
use Rattle.connection.specs.Settled.{SettlesBoarding}
use Rattle.connection.specs.declared.query.Query.{Query}
use Rattle.connection.specs.declared.ride.Shift.{Shift}
use Rattle.connection.proofs.Onward.{settles_first_stop, settles_next_stop}
use Rattle.search.specs.Chains.{LinkedBefore, OutOfReach}
use Rattle.search.specs.Ends.{known_total}
use Rattle.search.specs.Layers.{row_of, Trail, Holds, Filled, BlankFrom, Fills, RunAsked, run_begins, run_ends}
use Rattle.search.specs.Working.{number, place, layer_at, part_at, label_in, asked_over, size_of, stop_in}
use Rattle.search.specs.declared.chains.Arrivals.{Arrivals}
use Rattle.search.specs.declared.inquiry.Inquiry.{Inquiry}
use Rattle.search.specs.declared.reached.Reached.{Reached}
use Rattle.search.specs.declared.record.WorkRecord.{WorkRecord}
use Rattle.search.proofs.Basis.{Basis, ground}
use Rattle.search.proofs.BlankRecords.{blank_less, blank_label}
use Rattle.search.proofs.KnownEnds.{known_over}
use Rattle.search.proofs.LeftStops.{left_by, nobody_boards}
use Rattle.search.proofs.NotedLabels.{noted_over}
use Rattle.search.proofs.RowsAreTrains.{count_is}
use Rattle.search.proofs.WaysToBoard.{boards_nothing}
use Rattle.search.proofs.WholeRuns.{of_the_run}

module _ {P A : Type 0} (m : Meaning A) (inquiry : Inquiry P) (basis : Basis m) (layer n : ℕ) (s : Shift) (ln : n < length inquiry.trains.now) (table : List (WorkRecord A)) where
  abbrev rows : List TrainRow
  rows = inquiry.trains.now

  abbrev stops : List StopRow
  stops = inquiry.stops.now

  abbrev q : Query
  q = inquiry.query.now

  abbrev size : ℕ
  size = size_of inquiry

  idle : (runs : Pairs) (known : Option A) → ((i : ℕ) → i < (train_row n rows).count → SettlesBoarding m (asked_over inquiry runs) q (Trail inquiry table layer) known layer n s i None) → (i : ℕ) → i < (train_row n rows).count → Holds m inquiry runs known table layer n s i None
  idle runs known none zero li =
      settles_first_stop (ground basis inquiry runs) q known (Trail inquiry table layer) layer n s
  idle runs known none (suc i) li =
      let long : suc i < length (stops_at (trains_in rows stops) n) = omega (arith, count_is rows stops inquiry.ordered n ln) in
      settles_next_stop (ground basis inquiry runs) q known (Trail inquiry table layer) layer n s i long None None (none i (omega arith)) (idle runs known none i (omega arith))

  module _ (before : Reached A) (blank : BlankFrom (layer_at size layer + run_begins inquiry n s) table) where
    no_label : (s' : Shift) (row : ℕ) → run_begins inquiry n s ≤ place size s' row → label_in size table layer s' row ≡ None
    no_label s' row low =
        blank_label (layer_at size layer + run_begins inquiry n s) (part_at size layer s' + row) table blank (omega (arith, low, add_assoc (layer_at size layer) (number s' * size) row))

    -- nobody boards the run where the calendar says what May tells
    fills : (May : Pairs → Type 0) → ((runs : Pairs) → May runs → Filled m inquiry runs (known_total before.end) table layer → (i : ℕ) → i < (train_row n rows).count → SettlesBoarding m (asked_over inquiry runs) q (Trail inquiry table layer) (known_total before.end) layer n s i None) → Fills m inquiry layer May table table (run_begins inquiry n s) (run_ends inquiry n s) false before before
    fills May none =
        let begins : layer_at size layer + run_begins inquiry n s ≤ layer_at size layer + run_ends inquiry n s = omega arith in
        record {
          unchanged = λ z h. refl;
          blank = blank_less (layer_at size layer + run_begins inquiry n s) (layer_at size layer + run_ends inquiry n s) table begins;
          nothing = λ e n' s' i' ln' li' low high. no_label s' (row_of rows n' i') low;
          known = known_over m basis.connex basis.transitive inquiry (layer_at size layer + run_begins inquiry n s) (layer_at size layer + run_ends inquiry n s) table before.end begins blank;
          no_dearer = λ t h. h;
          noted = noted_over m size layer (run_begins inquiry n s) (run_ends inquiry n s) table before.notes (omega arith) blank;
          settled = λ runs may filled n' s' i' ln' li' low high.
              subst (Holds m inquiry runs (known_total before.end) table layer n' s' i') (sym (no_label s' (row_of rows n' i') low))
              (of_the_run m inquiry layer n s before basis ln (λ k t j. Holds m inquiry runs (known_total before.end) table layer k t j None) n' s' i' ln' li' low high
              (idle runs (known_total before.end) (none runs may filled)));
        }

    -- the query may not use it
    pub fills_unused : Fills m inquiry layer (RunAsked inquiry n s false) table table (run_begins inquiry n s) (run_ends inquiry n s) false before before
    fills_unused =
        fills (RunAsked inquiry n s false)
        (λ runs may filled i li. boards_nothing m inquiry basis runs (known_total before.end) n s i ln li (Trail inquiry table layer) layer (ap (λ b. b && may_board (stop_in inquiry (row_of rows n i))) (sym may)))

    -- it has left each of its stations by the time that one is there
    pub fills_out_of_reach : (usable : Bool) (arrivals : Arrivals A) → LinkedBefore m inquiry table layer arrivals before.end → OutOfReach inquiry layer arrivals n s → Fills m inquiry layer (RunAsked inquiry n s usable) table table (run_begins inquiry n s) (run_ends inquiry n s) false before before
    fills_out_of_reach usable arrivals linked gone =
        fills (RunAsked inquiry n s usable)
        (λ runs may filled i li. nobody_boards m inquiry basis n s ln table (known_total before.end) runs i li arrivals linked.no_dearer layer linked.chained filled (left_by arrivals layer q (stop_in inquiry (row_of rows n i)) s (gone i li)))
