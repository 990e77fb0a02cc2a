-- The labels of a run, filled in stop by stop, settle its stops.
use Rattle.std.proofs.Common.{◌≡◌, ℕ, suc, ◌+◌, ◌*◌, ◌<◌, ◌≤◌, Bool, true, false, cond, ◌||◌, ◌⊎◌, List, length, set, is_some, Some, None, Option, sym, refl, ap, ◌∙◌, subst, ap₂, inl, inr, add_assoc, add-one, arith, option_map}
use Rattle.std.proofs.Math.Bool.{or-false}
use Rattle.std.proofs.lemmas.Bool.{cases_lt}
use Rattle.tariff.specs.Meaning.{Meaning}
use Rattle.book.specs.Answers.{train_row}
use Rattle.book.specs.Trains.{trains_in}
use Rattle.book.specs.declared.rows.StopRow.{StopRow}
use Rattle.book.specs.declared.rows.TrainRow.{TrainRow}
use Rattle.calendar.specs.Pairs.{Pairs}
use Rattle.connection.specs.Choosing.{cheaper}
use Rattle.connection.specs.Moves.{hop_at, stand_at}
use Rattle.connection.specs.Prices.{hop, stand}
use Rattle.connection.specs.Rides.{stops_at, stop_of}
use Rattle.connection.specs.Settled.{extended, no_dearer, Sooner, Hopeless, Excused, SettlesBoarding}
use Rattle.connection.specs.Ways.{Arrives, Boards}
use Rattle.connection.specs.declared.label.Label.{Label}
use Rattle.connection.specs.declared.query.Query.{Query}
use Rattle.connection.specs.declared.ride.Shift.{Shift}
use Rattle.connection.proofs.Onward.{settles_first_stop, settles_next_stop, settles_excused}
use Rattle.search.specs.Ends.{ends_no_dearer, known_total, is_end, end_here, Known, NoDearer}
use Rattle.search.specs.Layers.{row_of, Trail, Holds, Filled, UnchangedBelow, BlankFrom, RunAsked}
use Rattle.search.specs.Notes.{noted as with_label, Noted}
use Rattle.search.specs.Records.{record_of, label_of}
use Rattle.search.specs.Working.{number, place, layer_at, part_at, label_at, label_in, hopeless, beaten, if_promising, if_worth_following, asked_over, size_of, stop_in}
use Rattle.search.specs.declared.ends.End.{End}
use Rattle.search.specs.declared.inquiry.Inquiry.{Inquiry}
use Rattle.search.specs.declared.reached.Reached.{Reached}
use Rattle.search.specs.declared.record.WorkRecord.{WorkRecord}
use Rattle.search.specs.Limits.{block, blocks}
use Rattle.search.proofs.Basis.{Basis, ground}
use Rattle.search.proofs.BeatenLabels.{Beater, beater, is_hopeless, worth_not_beaten}
use Rattle.search.proofs.BlankRecords.{blank_less, blank_behind, blank_kept}
use Rattle.search.proofs.Chaining.{not_some}
use Rattle.search.proofs.Chosen.{cheaper_none}
use Rattle.search.proofs.KnownEnds.{cheaper_no_dearer, known_more, no_end_here}
use Rattle.search.proofs.NotedLabels.{noted_written}
use Rattle.search.proofs.PromisingLabels.{settles_promising}
use Rattle.search.proofs.RowsAreTrains.{fits, count_is, stop_is, place_below}
use Rattle.search.proofs.Unchanged.{label_same, unchanged_sym, boarding_same, filled_same, holds_still, filled_still}
use Rattle.search.proofs.WrittenRecords.{written_same, written_here, unchanged_still}

pub or_none : (a b : Bool) → (a || b) ≡ false → (a ≡ false) × (b ≡ false)
or_none true b e = cc
or_none false b e = (refl, e)

module _ {P A : Type 0} (m : Meaning A) (inquiry : Inquiry P) (layer n : ℕ) (s : Shift) (before : Reached A) where
  abbrev rows : List TrainRow
  rows = inquiry.trains.now

  abbrev stops : List StopRow
  stops = inquiry.stops.now

  abbrev q : Query
  q = inquiry.query.now

  abbrev size : ℕ
  size = size_of inquiry

  abbrev first : ℕ
  first = (train_row n rows).first

  abbrev count : ℕ
  count = (train_row n rows).count

  abbrev start : ℕ
  start = part_at size layer s + first

  -- if the calendar says so, and the layers before are filled
  abbrev pub When : (Pairs → Type 0) → List (WorkRecord A) → Type 0
  When P table = (runs : Pairs) → RunAsked inquiry n s true runs → Filled m inquiry runs (known_total before.end) table layer → P runs

  -- the run up to its stop i; `before` was reached ahead of it, `now` is
  pub record FilledTo (old new : List (WorkRecord A)) (i : ℕ) (found : Bool) (aboard : Option (Label A)) (now : Reached A) : Type 0 where
    pub unchanged : UnchangedBelow start old new
    pub blank : BlankFrom (start + i) new
    pub nothing : found ≡ false → (j : ℕ) → j < i → label_at new (start + j) ≡ None
    pub known_end : Known m inquiry old (layer_at size layer + place size s first) before.end → Known m inquiry new (start + i) now.end
    pub no_dearer : NoDearer m before.end now.end
    pub noted : Noted m size old layer (place size s first) before.notes → Noted m size new layer (place size s first + i) now.notes
    pub settled : When (λ runs. (j : ℕ) → j < i → Holds m inquiry runs (known_total now.end) old layer n s j (label_at new (start + j))) old
    pub coming : When (λ runs. i < count → Holds m inquiry runs (known_total now.end) old layer n s i aboard) old

  layer_before_start : layer_at size layer ≤ start
  layer_before_start = omega arith

  pub start_is : start ≡ layer_at size layer + place size s first
  start_is = add_assoc (layer_at size layer) (number s * size) first

  module _ (basis : Basis m) (ln : n < length rows) where
    pub filled_none : (old : List (WorkRecord A)) → BlankFrom (layer_at size layer + place size s first) old → FilledTo old old 0 false None before
    filled_none old b =
        record {
          unchanged = λ z h. refl;
          blank = blank_less (layer_at size layer + place size s first) (start + 0) old (omega (arith, start_is)) b;
          nothing = λ e j h. absurd (omega arith);
          known_end = subst (λ (x : ℕ). Known m inquiry old x before.end) (omega (arith, start_is));
          no_dearer = λ t h. h;
          noted = subst (λ (x : ℕ). Noted m size old layer x before.notes) (omega arith);
          settled = λ runs may filled j h. absurd (omega arith);
          coming = λ runs may filled h. settles_first_stop (ground basis inquiry runs) q (known_total before.end) (Trail inquiry old layer) layer n s;
        }

    -- ---- a label that is not worth following is dropped
    module _ (old new : List (WorkRecord A)) (unchanged : UnchangedBelow start old new) (known : Option (End A)) (runs : Pairs) (filled : Filled m inquiry runs (known_total before.end) old layer) (i : ℕ) (li : i < count) where
      abbrev Held : Option (Label A) → Type 0
      Held = Holds m inquiry runs (known_total known) old layer n s i

      dropped : (l : Label A) → Excused m (λ j. Arrives m (asked_over inquiry runs) q j n s i) layer (known_total known) l.total → Held (Some l) → Held None
      dropped l e h =
          settles_excused (ground basis inquiry runs) q (known_total known) (Trail inquiry old layer) layer n s i l e h

      sooner : (l : Label A) → Beater m size new (place size s (row_of rows n i)) l.total layer → Sooner m (λ j. Arrives m (asked_over inquiry runs) q j n s i) layer l.total
      sooner l b =
          let k = b.in_layer in
          let row = row_of rows n i in
          let inside = fits rows stops inquiry.ordered n ln in
          let held_new : label_in size new k s row ≡ Some b.label = ap (label_at new) (add_assoc (layer_at size k) (number s * size) row) ∙ b.held in
          let same = label_same size k layer s row old new b.earlier (omega arith) (λ z w. unchanged z (omega (arith, layer_before_start))) in
          let there = subst (Holds m inquiry runs (known_total before.end) old k n s i) (sym same ∙ held_new) (filled k n s i b.earlier ln li) in
          (k, b.earlier, b.label.total, there.is_one.0, b.no_dearer)

      kept : (o : Option (Label A)) → Held o → Held (if_worth_following m size new (place size s (row_of rows n i)) (known_total known) layer o)
      kept None h = h
      kept (Some l) h =
          go (hopeless m (known_total known) l.total) refl (beaten m size new (place size s (row_of rows n i)) layer l.total) refl
        where
          go : (x : Bool) → hopeless m (known_total known) l.total ≡ x → (y : Bool) → beaten m size new (place size s (row_of rows n i)) layer l.total ≡ y → Held (cond (x || y) None (Some l))
          go true e y f = dropped l (inr (is_hopeless m (known_total known) l.total e)) h
          go false e true f = dropped l (inl (sooner l (beater m size new (place size s (row_of rows n i)) l.total layer f))) h
          go false e false f = h

    -- ---- one stop more
    module _ (old new : List (WorkRecord A)) (i : ℕ) (found : Bool) (aboard KeptLabel : Option (Label A)) (now now' : Reached A) (state : FilledTo old new i found aboard now) (li : i < count) (room : start + i < length new) (few_records : start + i < block * blocks) (is_kept : KeptLabel ≡ if_worth_following m size new (place size s (row_of rows n i)) (known_total now.end) layer aboard) (next : List (WorkRecord A)) (is_next : next ≡ set new (start + i) (record_of KeptLabel)) (is_known : now'.end ≡ cheaper (ends_no_dearer m) now.end (end_here (is_end (stop_in inquiry (row_of rows n i)) q.destination) layer (place size s (row_of rows n i)) KeptLabel)) (is_noted : now'.notes ≡ with_label now.notes layer (place size s (row_of rows n i)) (start + i) KeptLabel) where
      abbrev known : Option (End A)
      known = now.end

      abbrev known' : Option (End A)
      known' = now'.end

      at_is : start + i ≡ layer_at size layer + place size s (row_of rows n i)
      at_is = omega (arith, start_is, add_assoc (number s * size) first i)

      next_unchanged : UnchangedBelow start old next
      next_unchanged = unchanged_still start i old new next KeptLabel state.unchanged is_next

      abbrev Still : Pairs → ℕ → Option (Label A) → Type 0
      Still runs = Holds m inquiry runs (known_total known') old layer n s

      better : NoDearer m known known'
      better t h = subst (λ (e : Option (End A)). Hopeless m (known_total e) t) (sym is_known) (cheaper_no_dearer m basis.connex basis.transitive known _ t h)

      still : (runs : Pairs) (j : ℕ) (o : Option (Label A)) → Holds m inquiry runs (known_total known) old layer n s j o → Still runs j o
      still runs j o h = holds_still m inquiry runs known known' better layer n s j o old h

      next_known : Known m inquiry old (layer_at size layer + place size s first) before.end → Known m inquiry next (start + (i + 1)) known'
      next_known h =
          let inside = fits rows stops inquiry.ordered n ln in
          let more = known_more m basis.connex basis.transitive inquiry layer s (row_of rows n i) (start + i) (omega arith) at_is new next KeptLabel room is_next known known' is_known (state.known_end h) in
          subst (λ (x : ℕ). Known m inquiry next x known') (add_assoc start i 1) more

      -- the label that is kept is not beaten
      fresh : (l : Label A) → KeptLabel ≡ Some l → beaten m size new (place size s (row_of rows n i)) layer l.total ≡ false
      fresh l e = worth_not_beaten m size new (place size s (row_of rows n i)) (known_total known) layer aboard l (sym is_kept ∙ e)

      next_noted : Noted m size old layer (place size s first) before.notes → Noted m size next layer (place size s first + (i + 1)) now'.notes
      next_noted h =
          let row = row_of rows n i in
          let inside : row < size = omega (arith, fits rows stops inquiry.ordered n ln) in
          let here : place size s first + i ≡ place size s row = add_assoc (number s * size) first i in
          let so_far = subst (λ (x : ℕ). Noted m size new layer x now.notes) here (state.noted h) in
          let more = noted_written m size layer basis.connex basis.transitive (place size s row) (start + i) at_is (place_below s size row inside) (omega (arith, inquiry.ordered.few_stops)) few_records new next room now.notes KeptLabel is_next fresh so_far in
          let there : place size s row + 1 ≡ place size s first + (i + 1) = omega (arith, here) in
          subst (λ (x : ℕ). Noted m size next layer x now'.notes) there (subst (Noted m size next layer (place size s row + 1)) (sym is_noted) more)

      kept_holds : When (λ runs. Still runs i KeptLabel) old
      kept_holds runs may filled = still runs i KeptLabel (subst (Holds m inquiry runs (known_total known) old layer n s i) (sym is_kept) (kept old new state.unchanged known runs filled i li aboard (state.coming runs may filled li)))

      label_before : (j : ℕ) → j < i → label_at next (start + j) ≡ label_at new (start + j)
      label_before j h = ap (λ t. label_at t (start + j)) is_next ∙ ap label_of (written_same new (start + i) KeptLabel (start + j) (inl (omega arith)))

      -- what holds of each stop before i, and of the label at i, holds of each up to i
      up_to : (P : ℕ → Option (Label A) → Type 0) → ((j : ℕ) → j < i → P j (label_at new (start + j))) → P i KeptLabel → (j : ℕ) → j < i + 1 → P j (label_at next (start + j))
      up_to P before here j h = go (cases_lt j i)
        where
          go : ((j < i) ⊎ (i ≤ j)) → P j (label_at next (start + j))
          go (inl l) = subst (P j) (sym (label_before j l)) (before j l)
          go (inr l) =
              let e : i ≡ j = omega arith in
              subst (λ (k : ℕ). P k (label_at next (start + k))) e (subst (P i) (sym (ap (λ t. label_at t (start + i)) is_next ∙ written_here new (start + i) KeptLabel room)) here)

      pub filled_more : (found' : Bool) (aboard' : Option (Label A)) → found' ≡ (found || is_some KeptLabel) → When (λ runs. i + 1 < count → Still runs (i + 1) aboard') old → FilledTo old next (i + 1) found' aboard' now'
      filled_more found' aboard' ef coming =
          record {
            unchanged = next_unchanged;
            blank = blank_less (start + i + 1) (start + (i + 1)) next (omega arith) (blank_behind (start + i) new next KeptLabel state.blank is_next);
            nothing = λ e. let p = or_none found (is_some KeptLabel) (sym ef ∙ e) in up_to (λ j o. o ≡ None) (state.nothing p.0) (not_some KeptLabel p.1);
            known_end = next_known;
            no_dearer = λ t h. better t (state.no_dearer t h);
            noted = next_noted;
            settled = λ runs may filled. up_to (Still runs) (λ j l. still runs j _ (state.settled runs may filled j l)) (kept_holds runs may filled);
            coming = coming;
          }

      -- ---- on to the next stop
      pub comes_next : (stop there : StopRow) (first_boarded boarded aboard' : Option (Label A)) (c : Option (End A)) → NoDearer m c before.end → stop ≡ stop_in inquiry (row_of rows n i) → there ≡ stop_in inquiry (row_of rows n (i + 1)) → i + 1 < count → ((runs : Pairs) (best : Option (End A)) → NoDearer m c best → RunAsked inquiry n s true runs → Filled m inquiry runs (known_total best) next layer → SettlesBoarding m (asked_over inquiry runs) q (Trail inquiry next layer) (known_total best) layer n s i first_boarded) → boarded ≡ if_promising m (known_total known') first_boarded → aboard' ≡ option_map (extended m (hop stop there)) (cheaper (no_dearer m) boarded (option_map (extended m (stand stop)) KeptLabel)) → When (λ runs. i + 1 < count → Still runs (i + 1) aboard') old
      comes_next stop there first_boarded boarded aboard' c worse at_stop at_there on boards eb ea runs may filled h =
          let ss = stops_at (trains_in rows stops) n in
          let below : UnchangedBelow (layer_at size layer) old next = λ z w. next_unchanged z (omega (arith, layer_before_start)) in
          let back : UnchangedBelow (layer_at size layer) next old = unchanged_sym (layer_at size layer) old next below in
          let best = known_total known' in
          let later = filled_still m inquiry runs before.end known' (λ t w. better t (state.no_dearer t w)) layer old filled in
          let any = boarding_same m inquiry runs best layer n s i first_boarded next old back (boards runs known' (λ t w. better t (state.no_dearer t (worse t w))) may (filled_same m inquiry runs best layer old next below later)) in
          let b =
          subst (SettlesBoarding m (asked_over inquiry runs) q (Trail inquiry old layer) best layer n s i) (sym eb)
          (settles_promising m best basis.connex basis.transitive best (λ t w. w) _ (λ j. Boards m (asked_over inquiry runs) q j n s i) layer _ first_boarded any)
          in
          let is_stop : stop_of (trains_in rows stops) n i ≡ stop = stop_is rows stops inquiry.ordered n i ln li ∙ sym at_stop in
          let is_there : stop_of (trains_in rows stops) n (suc i) ≡ there = stop_is rows stops inquiry.ordered n (suc i) ln (omega arith) ∙ ap (λ j. stop_in inquiry (row_of rows n j)) (sym (add-one i)) ∙ sym at_there in
          let long : suc i < length ss = omega (arith, count_is rows stops inquiry.ordered n ln) in
          let goes = settles_next_stop (ground basis inquiry runs) q best (Trail inquiry old layer) layer n s i long boarded KeptLabel b (kept_holds runs may filled) in
          let same : option_map (extended m (hop_at ss i)) (cheaper (no_dearer m) boarded (option_map (extended m (stand_at ss i)) KeptLabel)) ≡ aboard' =
          ap₂ (λ (x y : StopRow). option_map (extended m (hop x y)) (cheaper (no_dearer m) boarded (option_map (extended m (stand x)) KeptLabel))) is_stop is_there ∙ sym ea
          in
          subst (λ (j : ℕ). Still runs j aboard') (sym (add-one i)) (subst (Still runs (suc i)) same goes)

    -- ---- a stop at which nobody is on board, and nobody boards
    pub filled_left : (old new : List (WorkRecord A)) (i : ℕ) (found : Bool) (now : Reached A) → FilledTo old new i found None now → i < count → start + i < length new → start + i < block * blocks → (c : Option (End A)) → NoDearer m c before.end → ((runs : Pairs) (best : Option (End A)) → NoDearer m c best → RunAsked inquiry n s true runs → Filled m inquiry runs (known_total best) new layer → SettlesBoarding m (asked_over inquiry runs) q (Trail inquiry new layer) (known_total best) layer n s i None) → FilledTo old new (i + 1) found None now
    filled_left old new i found now state li room few_records c worse boards =
        let b = is_end (stop_in inquiry (row_of rows n i)) q.destination in
        let same : now.end ≡ cheaper (ends_no_dearer m) now.end (end_here b layer (place size s (row_of rows n i)) None) = cheaper_none (ends_no_dearer m) now.end ∙ ap (cheaper (ends_no_dearer m) now.end) (sym (no_end_here b layer (place size s (row_of rows n i)))) in
        let kept = blank_kept (start + i) new state.blank in
        filled_more old new i found None None now now state li room few_records refl new kept same refl found None (sym (or-false found))
        (λ runs may filled h. comes_next old new i found None None now now state li room few_records refl new kept same refl (stop_in inquiry (row_of rows n i)) (stop_in inquiry (row_of rows n (i + 1))) None None None c worse refl refl h boards refl refl runs may filled h)
