-- The label of who boards settles the ways to board.
use Rattle.std.proofs.Common.{◌≡◌, ℕ, zero, suc, ◌+◌, ◌-◌, ◌<◌, Bool, true, false, ◌&&◌, T, eqb, ltb, leb, List, [], ◌∷◌, ◌++◌, length, Some, None, Option, sym, refl, ap, ◌∙◌, subst, ap₂, arith, eqb→eq, lt→ltb}
use Rattle.tariff.specs.Meaning.{Meaning}
use Rattle.tariff.specs.declared.step.Kind.TheVariants.{Start, Change}
use Rattle.book.specs.Answers.{train_row}
use Rattle.book.specs.Trains.{Train, trains_in}
use Rattle.book.specs.declared.rows.StopRow.{StopRow}
use Rattle.book.specs.declared.rows.TrainRow.{TrainRow}
use Rattle.calendar.specs.Pairs.{Pairs}
use Rattle.connection.specs.Choosing.{only_when}
use Rattle.connection.specs.Clock.{ready}
use Rattle.connection.specs.Moves.{goes, boardable, with}
use Rattle.connection.specs.Prices.{stretch}
use Rattle.connection.specs.Rides.{can_catch, may_board, may_alight, does_run, offers, leaves_at, reaches_at, train_in_row, stops_at, stop_of, run_leaves, run_reaches, ride}
use Rattle.connection.specs.Settled.{no_dearer, Hopeless, SettlesBoarding, SettlesArrival}
use Rattle.connection.specs.Timetable.{Timetable}
use Rattle.connection.specs.Ways.{Best, Boards, Arrives}
use Rattle.connection.specs.declared.label.Label.{Label}
use Rattle.connection.specs.declared.query.Query.{Query}
use Rattle.connection.specs.declared.ride.Ride.{Ride}
use Rattle.connection.specs.declared.ride.Shift.{Shift}
use Rattle.connection.proofs.Best.{best_same}
use Rattle.connection.proofs.Onward.{settles_start, Changed, settles_change}
use Rattle.connection.proofs.Settling.{settles_none}
use Rattle.connection.proofs.Tests.{both_left, both_right, both_from, is_true, eq→eqb}
use Rattle.search.specs.Boarding.{Changes}
use Rattle.search.specs.Chains.{promising}
use Rattle.search.specs.Layers.{row_of, Trail, Filled}
use Rattle.search.specs.Working.{size_of, asked_over, stop_in, may_use, place}
use Rattle.search.specs.declared.inquiry.Inquiry.{Inquiry}
use Rattle.search.specs.declared.record.WorkRecord.{WorkRecord}
use Rattle.search.specs.declared.run.Onward.{Onward}
use Rattle.search.proofs.Basis.{Basis, ground}
use Rattle.search.proofs.LabelsInRecords.{trail_goes_on}
use Rattle.search.proofs.PromisingLabels.{promising_held, settles_promising}
use Rattle.search.proofs.RowsAreTrains.{many, fits, count_is, stop_is, code_is, features_is, spot_of}

-- what one wants to catch at the stop i of the train, where it leaves at that minute
abbrev pub onward_from : {P : Type 0} → Inquiry P → (n i minute : ℕ) → Onward
onward_from inquiry n i minute = record { station = (stop_in inquiry (row_of inquiry.trains.now n i)).station; minute = minute; board = i }

module _ {P A : Type 0} (m : Meaning A) (inquiry : Inquiry P) (basis : Basis m) (runs : Pairs) (known : Option A) where
  abbrev rows : List TrainRow
  rows = inquiry.trains.now

  abbrev stops : List StopRow
  stops = inquiry.stops.now

  abbrev q : Query
  q = inquiry.query.now

  abbrev trains : List Train
  trains = trains_in rows stops

  abbrev timetable : Timetable
  timetable = asked_over inquiry runs

  -- ---- the tests over the rows
  module _ (n : ℕ) (s : Shift) (i : ℕ) (ln : n < length rows) (li : i < (train_row n rows).count) where
    abbrev stop : StopRow
    stop = stop_in inquiry (row_of rows n i)

    same_stop : stop_of trains n i ≡ stop
    same_stop = stop_is rows stops inquiry.ordered n i ln li

    goes_is : goes timetable q n s ≡ may_use runs q (train_row n rows) s
    goes_is =
        ap (λ b. b && (offers q (train_in_row trains n).features && does_run runs q (train_in_row trains n).code s)) (is_true (ltb n (length trains)) (lt→ltb n (length trains) (omega (arith, many rows stops))))
        ∙ ap₂ (λ f c. offers q f && does_run runs q c s) (features_is rows stops inquiry.ordered n ln) (code_is rows stops inquiry.ordered n ln)

    boardable_is : boardable timetable q n s i ≡ (may_use runs q (train_row n rows) s && may_board stop)
    boardable_is = ap₂ (λ (b : Bool) (x : StopRow). b && may_board x) goes_is same_stop

    pub boards_nothing : (trail : ℕ → List Ride → Type 0) (k : ℕ) → (may_use runs q (train_row n rows) s && may_board stop) ≡ false → SettlesBoarding m timetable q trail known k n s i None
    boards_nothing trail k e = settles_none m _ _ _ (λ t x. absurd (subst T (boardable_is ∙ e) (needs k t x)))
      where
        needs : (k : ℕ) (t : A) → Boards m timetable q k n s i t → T (boardable timetable q n s i)
        needs zero t x = both_left (boardable timetable q n s i) _ x.0
        needs (suc k) t x = x.0

    -- ---- at the origin
    abbrev starting : StopRow → Label A
    starting x = record { total = with m m.empty (stretch Start (leaves_at q s x - ready q) 0); board = i; from = 0 }

    pub boards_first : (table : List (WorkRecord A)) (r : Option (Label A)) → (may_use runs q (train_row n rows) s && may_board stop) ≡ true → r ≡ only_when (eqb stop.station q.origin && leb (ready q) (leaves_at q s stop)) (Some (starting stop)) → SettlesBoarding m timetable q (Trail inquiry table 0) known 0 n s i r
    boards_first table r e er =
        let there = λ (b : Bool) (x : StopRow). only_when (b && (eqb x.station q.origin && leb (ready q) (leaves_at q s x))) (Some (starting x)) in
        subst (SettlesBoarding m timetable q (Trail inquiry table 0) known 0 n s i)
        (ap₂ there (boardable_is ∙ e) same_stop ∙ sym er)
        (settles_start (ground basis inquiry runs) q known (Trail inquiry table 0) n s i refl)

  -- ---- after a change
  -- from the labels of which something can come, where a connection is known at the total c
  module _ (c : Option A) (worse : (t : A) → Hopeless m c t → Hopeless m known t) (k : ℕ) (table : List (WorkRecord A)) (filled : Filled m inquiry runs known table (suc k)) where
    abbrev label : ℕ → Shift → ℕ → Option (Label A)
    label n s i = promising m inquiry table c k s (row_of rows n i)

    abbrev spot : ℕ → Shift → ℕ → ℕ
    spot n s i = place (size_of inquiry) s (row_of rows n i)

    in_rows : (n : ℕ) → n < length trains → n < length rows
    in_rows n h = omega (arith, many rows stops)

    on_train : (n i : ℕ) → n < length trains → i < length (stops_at trains n) → i < (train_row n rows).count
    on_train n i ln li = omega (arith, count_is rows stops inquiry.ordered n (in_rows n ln))

    settled : (n : ℕ) (s : Shift) (i : ℕ) → n < length trains → i < length (stops_at trains n) → SettlesArrival m timetable q (Trail inquiry table k) known k n s i (label n s i)
    settled n s i ln li =
        settles_promising m c basis.connex basis.transitive known worse _ (λ j. Arrives m timetable q j n s i) k _ _ (filled k n s i (omega arith) (in_rows n ln) (on_train n i ln li))

    leads : (n : ℕ) (s : Shift) (i : ℕ) (l : Label A) (rides : List Ride) → n < length trains → i < length (stops_at trains n) → label n s i ≡ Some l → Trail inquiry table k l.from rides → Trail inquiry table (suc k) (spot n s i) (rides ++ (ride n s l.board i ∷ []))
    leads n s i l rides ln li e t =
        trail_goes_on inquiry table k n s i l rides (in_rows n ln) (on_train n i ln li) (promising_held m c _ l e) t

    module _ (n : ℕ) (s : Shift) (i : ℕ) (ln : n < length rows) (li : i < (train_row n rows).count) where
      abbrev here : StopRow
      here = stop_in inquiry (row_of rows n i)

      abbrev Made : Label A → Type 0
      Made = Changed (ground basis inquiry runs) q known k (Trail inquiry table k) label settled spot n s i

      abbrev Possible : Label A → Type 0
      Possible = Changes m inquiry (promising m inquiry table c k) (onward_from inquiry n i (leaves_at q s here))

      to_made : (l : Label A) → Possible l → Made l
      to_made l x =
          let s' = x.0 in
          let row = x.1.0 in
          let d = x.1.1 in
          let w = spot_of rows stops inquiry.ordered row d.inside in
          let n' = w.0 in
          let i' = w.1 in
          let there : stop_in inquiry row ≡ stop_of trains n' i' = ap (stop_in inquiry) w.4 ∙ sym (stop_is rows stops inquiry.ordered n' i' w.2 w.3) in
          let me : here ≡ stop_of trains n i = sym (same_stop n s i ln li) in
          let at = λ (x y : StopRow). may_alight x && (eqb y.station x.station && can_catch (reaches_at q s' x) (leaves_at q s y)) in
          let before : T (at (stop_in inquiry row) here) = both_from (may_alight (stop_in inquiry row)) _ d.off (both_from _ _ (eq→eqb here.station (stop_in inquiry row).station (sym d.here)) d.in_time) in
          record {
            train = n';
            shift = s';
            stop = i';
            before = d.before;
            in_force = omega (arith, many rows stops, w.2);
            on_the_train = omega (arith, count_is rows stops inquiry.ordered n' w.2, w.3);
            possible = subst T (ap₂ at there me) before;
            held = ap (promising m inquiry table c k s') (sym w.4) ∙ d.held;
            is =
                d.is
                ∙ ap₂ (λ (x y : StopRow). record { total = with m d.before.total (stretch Change (leaves_at q s y - reaches_at q s' x) 0); board = i; from = place (size_of inquiry) s' row }) there me
                ∙ ap (λ j. record { total = with m d.before.total (stretch Change (run_leaves timetable q n s i - run_reaches timetable q n' s' i') 0); board = i; from = place (size_of inquiry) s' j }) w.4;
          }

      from_made : (l : Label A) → Made l → Possible l
      from_made l d =
          let n' = d.train in
          let s' = d.shift in
          let i' = d.stop in
          let ln' = in_rows n' d.in_force in
          let li' = on_train n' i' d.in_force d.on_the_train in
          let row = row_of rows n' i' in
          let there : stop_of trains n' i' ≡ stop_in inquiry row = stop_is rows stops inquiry.ordered n' i' ln' li' in
          let me : stop_of trains n i ≡ here = same_stop n s i ln li in
          let at = λ (x y : StopRow). may_alight x && (eqb y.station x.station && can_catch (reaches_at q s' x) (leaves_at q s y)) in
          let t : T (at (stop_in inquiry row) here) = subst T (ap₂ at there me) d.possible in
          let r = both_right (may_alight (stop_in inquiry row)) _ t in (
            s',
            (
              row,
              record {
                inside = omega (arith, fits rows stops inquiry.ordered n' ln', li');
                here = sym (eqb→eq here.station (stop_in inquiry row).station (both_left (eqb here.station (stop_in inquiry row).station) _ r));
                off = both_left (may_alight (stop_in inquiry row)) _ t;
                in_time = both_right (eqb here.station (stop_in inquiry row).station) _ r;
                before = d.before;
                held = d.held;
                is = d.is ∙ ap₂ (λ (x y : StopRow). record { total = with m d.before.total (stretch Change (leaves_at q s y - reaches_at q s' x) 0); board = i; from = place (size_of inquiry) s' row }) there me;
              },
            ),
          )

      pub boards_after : (r : Option (Label A)) → (may_use runs q (train_row n rows) s && may_board here) ≡ true → Best (no_dearer m) Possible r → SettlesBoarding m timetable q (Trail inquiry table (suc k)) known (suc k) n s i r
      boards_after r e best =
          subst (λ (b : Bool). SettlesBoarding m timetable q (Trail inquiry table (suc k)) known (suc k) n s i (only_when b r)) (boardable_is n s i ln li ∙ e)
          (settles_change (ground basis inquiry runs) q known k (Trail inquiry table k) label settled spot (Trail inquiry table (suc k)) leads n s i r
          (best_same (no_dearer m) Possible Made r to_made from_made best))

  -- the layer by the one before it, and the minute by what it equals
  pub boards_later : (c : Option A) → ((t : A) → Hopeless m c t → Hopeless m known t) → (layer before : ℕ) (table : List (WorkRecord A)) (n : ℕ) (s : Shift) (i until : ℕ) (r : Option (Label A)) → before + 1 ≡ layer → Filled m inquiry runs known table layer → n < length rows → i < (train_row n rows).count → (may_use runs q (train_row n rows) s && may_board (stop_in inquiry (row_of rows n i))) ≡ true → until ≡ leaves_at q s (stop_in inquiry (row_of rows n i)) → Best (no_dearer m) (Changes m inquiry (promising m inquiry table c before) (onward_from inquiry n i until)) r → SettlesBoarding m timetable q (Trail inquiry table layer) known layer n s i r
  boards_later c worse layer before table n s i until r next filled ln li e w best =
      let k : suc before ≡ layer = omega arith in
      subst (λ (j : ℕ). Filled m inquiry runs known table j → SettlesBoarding m timetable q (Trail inquiry table j) known j n s i r) k
      (λ f. boards_after c worse before table f n s i ln li r e (subst (λ (u : ℕ). Best (no_dearer m) (Changes m inquiry (promising m inquiry table c before) (onward_from inquiry n i u)) r) w best)) filled
