-- The cheapest end of filled layers is the price of a cheapest connection; without an end there is no connection.
use Rattle.connection.specs.Connections.{most_rides}
use Rattle.std.proofs.Common.{◌≡◌, ℕ, suc, ◌+◌, ◌<◌, ◌≤◌, T, ◌⊎◌, List, [], ◌∷◌, ◌++◌, length, take, drop, Some, None, Option, sym, refl, ap, ◌∙◌, subst, inl, inr, eqb, arith}
use Rattle.std.proofs.lemmas.List.{length_push, take_all, take-append-le}
use Rattle.std.proofs.lemmas.Bool.{cases_lt}
use Rattle.tariff.specs.Meaning.{Meaning}
use Rattle.book.specs.Answers.{train_row}
use Rattle.book.specs.Trains.{Train, trains_in}
use Rattle.book.specs.declared.rows.StopRow.{StopRow}
use Rattle.book.specs.declared.rows.TrainRow.{TrainRow}
use Rattle.calendar.specs.Pairs.{Pairs}
use Rattle.connection.specs.Cheapest.{Cheapest, HasNoConnection}
use Rattle.connection.specs.Moves.{ends}
use Rattle.connection.specs.Rides.{may_alight, stops_at, stop_of, ride}
use Rattle.connection.specs.Settled.{Beats, Excused}
use Rattle.connection.specs.Underway.{Aboard}
use Rattle.connection.specs.Ways.{Arrives}
use Rattle.connection.specs.declared.label.Label.{Label}
use Rattle.connection.specs.declared.query.Query.{Query}
use Rattle.connection.specs.declared.ride.Ride.{Ride}
use Rattle.connection.specs.declared.ride.Shift.{Shift}
use Rattle.connection.proofs.Found.{NothingNew, nothing_from, none_found, cheapest_found}
use Rattle.connection.proofs.Tests.{both_left, both_right, both_from}
use Rattle.search.specs.Answers.{Finds}
use Rattle.search.specs.Ends.{known_total, is_end, Ends, Known}
use Rattle.search.specs.Layers.{row_of, Trail, Holds, Filled, AllLayers, AllFilled, label_of_run}
use Rattle.search.specs.Working.{asked_over, place, layer_at, label_in, size_of, stop_in}
use Rattle.search.specs.declared.ends.End.{End}
use Rattle.search.specs.declared.reached.Reached.{Reached}
use Rattle.search.specs.declared.record.WorkRecord.{WorkRecord}
use Rattle.search.specs.declared.inquiry.Inquiry.{Inquiry}
use Rattle.connection.specs.Timetable.{Timetable}
use Rattle.search.proofs.Basis.{Basis, ground}
use Rattle.search.proofs.KnownEnds.{layer_ahead}
use Rattle.search.proofs.LabelsInRecords.{trail_goes_on}
use Rattle.search.proofs.Layering.{next_layer, layers_below}
use Rattle.search.proofs.RowsAreTrains.{many, fits, count_is, stop_is, spot_of, place_below}

-- the list is the front, and what stood behind it
front_of : {X : Type 0} (front rest : List X) (n : ℕ) → length front ≡ n → take n (front ++ rest) ≡ front
front_of front rest n e = take-append-le n front rest (omega (arith, e)) ∙ take_all n front (omega (arith, e))

-- what is known once the layers are filled
pub record Searched {P A : Type 0} (m : Meaning A) (inquiry : Inquiry P) (runs : Pairs) (table : List (WorkRecord A)) (layers : ℕ) (end : Option (End A)) : Type 0 where
  pub basis : Basis m
  pub few : layers ≤ most_rides inquiry.query.now
  pub all : AllLayers inquiry table layers
  pub known_end : Known m inquiry table (layer_at (size_of inquiry) layers) end
  pub filled : Filled m inquiry runs (known_total end) table layers

pub searched : {P A : Type 0} (m : Meaning A) (inquiry : Inquiry P) (runs : Pairs) (May : Pairs → Type 0) (table : List (WorkRecord A)) (reached : Reached A) → Basis m → (all : AllFilled m inquiry May table reached) → May runs → Searched m inquiry runs table all.layers reached.end
searched m inquiry runs May table reached basis all may =
    record { basis = basis; few = all.few; all = all.all; known_end = all.known; filled = all.filled runs may }

module _ {P A : Type 0} {m : Meaning A} {inquiry : Inquiry P} {runs : Pairs} {table : List (WorkRecord A)} {layers : ℕ} {end : Option (End A)} (known : Searched m inquiry runs table layers end) where
  abbrev rows : List TrainRow
  rows = inquiry.trains.now

  abbrev stops : List StopRow
  stops = inquiry.stops.now

  abbrev q : Query
  q = inquiry.query.now

  abbrev basis : Basis m
  basis = known.basis

  abbrev size : ℕ
  size = size_of inquiry

  -- what the cheapest end costs
  abbrev least : Option A
  least = known_total end

  abbrev trains : List Train
  trains = trains_in rows stops

  abbrev timetable : Timetable
  timetable = asked_over inquiry runs

  abbrev label : ℕ → ℕ → Shift → ℕ → Option (Label A)
  label k n s i = label_of_run inquiry table k n s i

  in_rows : (n : ℕ) → n < length trains → n < length rows
  in_rows n h = omega (arith, many rows stops)

  on_train : (n i : ℕ) → n < length trains → i < length (stops_at trains n) → i < (train_row n rows).count
  on_train n i ln li = omega (arith, count_is rows stops inquiry.ordered n (in_rows n ln))

  -- ---- every way is beaten by a label, or need not be followed
  abbrev BeatenOrExcused : ℕ → ℕ → Shift → ℕ → A → Type 0
  BeatenOrExcused k n s i t = ((k < layers) × Beats m (label k n s i) t) ⊎ Excused m (λ j. Arrives m timetable q j n s i) k least t

  in_layers : (k n : ℕ) (s : Shift) (i : ℕ) (t : A) → k < layers → n < length trains → i < length (stops_at trains n) → Arrives m timetable q k n s i t → BeatenOrExcused k n s i t
  in_layers k n s i t lk ln li x =
      elim ((known.filled k n s i lk (in_rows n ln) (on_train n i ln li)).none_cheaper t x) [ inl b ↦ inl (lk, b) | inr d ↦ inr d ]

  -- the last layer has no label, and so nothing is new there
  last_has_none : (k : ℕ) → layers ≡ suc k → ((n : ℕ) (s : Shift) (i : ℕ) → n < length rows → i < (train_row n rows).count → label k n s i ≡ None) → NothingNew (ground basis inquiry runs) q least k
  last_has_none k e empty n s i t ln li x =
      let h = subst (Holds m inquiry runs least table k n s i) (empty n s i (in_rows n ln) (on_train n i ln li)) (known.filled k n s i (omega arith) (in_rows n ln) (on_train n i ln li)) in
      elim (h.none_cheaper t x) [ inl b ↦ absurd b | inr d ↦ d ]

  past_layers : (k n : ℕ) (s : Shift) (i : ℕ) (t : A) → k < most_rides q → layers ≤ k → n < length trains → i < length (stops_at trains n) → Arrives m timetable q k n s i t → BeatenOrExcused k n s i t
  past_layers k n s i t lk h ln li x =
      elim known.all [
        | inl e ↦ absurd (omega (arith, e))
        | inr w ↦
            let empty = λ (n : ℕ) (s : Shift) (i : ℕ) (a : n < length rows) (b : i < (train_row n rows).count). w.2 n s i a b (omega arith) (place_below s size (row_of rows n i) (omega (arith, fits rows stops inquiry.ordered n a))) in
            inr (nothing_from (ground basis inquiry runs) q least w.0 (last_has_none w.0 w.1 empty) k (omega (arith, w.1)) n s i t ln li x)
      ]

  settled : (k : ℕ) → k < most_rides q → (n : ℕ) (s : Shift) (i : ℕ) (t : A) → n < length trains → i < length (stops_at trains n) → Arrives m timetable q k n s i t → BeatenOrExcused k n s i t
  settled k lk n s i t ln li x =
      elim (cases_lt k layers) [ inl h ↦ in_layers k n s i t h ln li x | inr h ↦ past_layers k n s i t lk h ln li x ]

  -- ---- ends are labels at the destination
  end_of : (k n : ℕ) (s : Shift) (i : ℕ) (l : Label A) → k < layers → n < length trains → i < length (stops_at trains n) → T (ends trains q n i) → label k n s i ≡ Some l → Ends inquiry table (layer_at size layers) (record { total = l.total; layer = k; place = place size s (row_of rows n i) })
  end_of k n s i l lk ln li e held =
      let same = stop_is rows stops inquiry.ordered n i (in_rows n ln) (on_train n i ln li) in
      let inside = fits rows stops inquiry.ordered n (in_rows n ln) in
      let on = on_train n i ln li in
      record {
        shift = s;
        row = row_of rows n i;
        label = l;
        ahead = omega (arith, next_layer size k, layers_below size (suc k) layers (omega arith), place_below s size (row_of rows n i) (omega arith));
        inside = omega arith;
        off =
            both_from (eqb (stop_in inquiry (row_of rows n i)).station q.destination) _
            (subst (λ (x : StopRow). T (eqb x.station q.destination)) same (both_right (may_alight (stop_of trains n i)) _ e))
            (subst (λ (x : StopRow). T (may_alight x)) same (both_left (may_alight (stop_of trains n i)) _ e));
        held = held;
        total_is = refl;
        place_is = refl;
      }

  abbrev IsBest : Option (End A) → Type 0
  IsBest = Known m inquiry table (layer_at size layers)

  pub nothing_found : end ≡ None → HasNoConnection timetable q
  nothing_found none =
      none_found (ground basis inquiry runs) q least layers label settled (ap known_total none)
      (λ k n s i l lk ln li e held. subst IsBest none known.known_end _ (end_of k n s i l lk ln li e held))

  -- ---- the cheapest of them
  module _ (e : End A) (it : end ≡ Some e) where
    best : IsBest (Some e)
    best = subst IsBest it known.known_end

    at : Ends inquiry table (layer_at size layers) e
    at = best.0

    pub end_layer : e.layer < layers
    end_layer = layer_ahead size e.layer e.place layers at.ahead

    stop : (n : ℕ) × (i : ℕ) × (n < length rows) × (i < (train_row n rows).count) × (at.row ≡ row_of rows n i)
    stop = spot_of rows stops inquiry.ordered at.row at.inside

    held : label e.layer stop.0 at.shift stop.1 ≡ Some at.label
    held = ap (label_in size table e.layer at.shift) (sym stop.4) ∙ at.held

    settles : Holds m inquiry runs least table e.layer stop.0 at.shift stop.1 (Some at.label)
    settles = subst (Holds m inquiry runs least table e.layer stop.0 at.shift stop.1) held (known.filled e.layer stop.0 at.shift stop.1 end_layer stop.2 stop.3)

    aboard : Aboard m timetable q e.layer stop.0 at.shift stop.1 at.label.total
    aboard = settles.is_one.1.0

    -- its rides
    pub whole : List Ride
    whole = aboard.boarded.rides ++ (ride stop.0 at.shift at.label.board stop.1 ∷ [])

    pub whole_told : Trail inquiry table (suc e.layer) e.place whole
    unfolding aboard settles whole
    whole_told =
        subst (λ (f : ℕ). Trail inquiry table (suc e.layer) f whole) (sym (at.place_is ∙ ap (place size at.shift) stop.4))
        (trail_goes_on inquiry table e.layer stop.0 at.shift stop.1 at.label aboard.boarded.rides stop.2 stop.3 held settles.is_one.1.2)

    whole_long : length whole ≡ e.layer + 1
    unfolding whole
    whole_long = length_push aboard.boarded.rides _ ∙ ap (λ n. n + 1) aboard.boarded.counted

    ends_there : T (ends trains q stop.0 stop.1)
    ends_there =
        let same : stop_in inquiry at.row ≡ stop_of trains stop.0 stop.1 = ap (stop_in inquiry) stop.4 ∙ sym (stop_is rows stops inquiry.ordered stop.0 stop.1 stop.2 stop.3) in
        let is = subst (λ (x : StopRow). T (is_end x q.destination)) same at.off in
        both_from (may_alight (stop_of trains stop.0 stop.1)) _ (both_right (eqb (stop_of trains stop.0 stop.1).station q.destination) _ is) (both_left (eqb (stop_of trains stop.0 stop.1).station q.destination) _ is)

    whole_cheapest : Cheapest m timetable q e.total whole
    unfolding aboard settles whole
    whole_cheapest =
        let n = stop.0 in
        let i = stop.1 in
        let li : i < length (stops_at trains n) = omega (arith, count_is rows stops inquiry.ordered n stop.2, stop.3) in
        let same_rides : aboard.boarded.rides ++ (ride n at.shift aboard.board i ∷ []) ≡ whole = ap (λ b. aboard.boarded.rides ++ (ride n at.shift b i ∷ [])) (sym settles.is_one.1.1) in
        let no_dearer : (j n' : ℕ) (s' : Shift) (i' : ℕ) (l : Label A) → j < layers → n' < length trains → i' < length (stops_at trains n') → T (ends trains q n' i') → label j n' s' i' ≡ Some l → T (m.at_most at.label.total l.total) =
        λ j n' s' i' l lj ln' li' e' h. subst (λ (t : A). T (m.at_most t l.total)) at.total_is (best.1 _ (end_of j n' s' i' l lj ln' li' e' h))
        in
        subst (λ (t : A). Cheapest m timetable q t whole) (sym at.total_is)
        (subst (Cheapest m timetable q at.label.total) same_rides
        (cheapest_found (ground basis inquiry runs) q least layers label settled e.layer n at.shift i at.label.total li aboard (ap known_total it ∙ ap Some at.total_is) (omega (arith, end_layer, known.few)) ends_there no_dearer))

    -- ---- as they stand in the ride list
    module _ (old new : List Ride) (written : new ≡ whole ++ drop (e.layer + 1) old) where
      front : take (e.layer + 1) new ≡ whole
      front = ap (take (e.layer + 1)) written ∙ front_of whole (drop (e.layer + 1) old) (e.layer + 1) whole_long

      pub finds : Finds m timetable q e.total (e.layer + 1) new
      finds = record { cheapest = subst (Cheapest m timetable q e.total) (sym front) whole_cheapest; counted = ap length front ∙ whole_long }

      pub rest_stands : new ≡ take (e.layer + 1) new ++ drop (e.layer + 1) old
      rest_stands = written ∙ ap (λ l. l ++ drop (e.layer + 1) old) (sym front)
