-- A place is the spot of one stop, so the records tell one trail to it; and its last ride, put after the rides before, ends the trail.
use Rattle.connection.specs.Rides.{ride}
use Rattle.std.proofs.Common.{◌≡◌, ℕ, zero, suc, ◌+◌, ◌<◌, ◌≤◌, List, [], ◌∷◌, ◌++◌, length, get_or, drop, set, sym, ap, ◌∙◌, subst, ap₂, append_assoc, add-one, arith, length-append, drop-cons}
use lib.Seq.{set_at}
use Rattle.std.proofs.lemmas.List.{get_or_read}
use Rattle.book.specs.declared.rows.StopRow.{StopRow}
use Rattle.book.specs.declared.rows.TrainRow.{TrainRow}
use Rattle.connection.specs.declared.ride.Ride.{Ride}
use Rattle.connection.specs.declared.ride.Shift.{Shift}
use Rattle.search.specs.Layers.{Spot, Trail, row_of}
use Rattle.search.specs.Limits.{layer_size}
use Rattle.search.specs.Records.{blank}
use Rattle.search.specs.Working.{size_of, layer_at}
use Rattle.search.specs.declared.inquiry.Inquiry.{Inquiry}
use Rattle.search.specs.declared.record.WorkRecord.{WorkRecord}
use Rattle.search.proofs.RowsAreTrains.{fits, same_row, place_below, same_place}

-- ---- lists
put_after : (before rides : List Ride) (k : ℕ) (r : Ride) → length before ≡ k → k < length rides → set (before ++ drop k rides) k r ≡ (before ++ (r ∷ [])) ++ drop (k + 1) rides
put_after before rides k r n h =
    ap (λ (rest : List Ride). set (before ++ rest) k r) (drop-cons rides k r h)
    ∙ set_at before (get_or rides k r) (drop (suc k) rides) r k n
    ∙ sym (append_assoc before (r ∷ []) (drop (suc k) rides))
    ∙ ap (λ (j : ℕ). (before ++ (r ∷ [])) ++ drop j rides) (sym (add-one k))

-- ---- spots
module _ {P : Type 0} (inquiry : Inquiry P) where
  abbrev rows : List TrainRow
  rows = inquiry.trains.now

  abbrev stops : List StopRow
  stops = inquiry.stops.now

  row_inside : (n : ℕ) (s : Shift) (i f : ℕ) → Spot inquiry n s i f → row_of rows n i < size_of inquiry
  row_inside n s i f spot = omega (arith, fits rows stops inquiry.ordered n spot.in_force, spot.on_the_train)

  spot_inside : (n : ℕ) (s : Shift) (i f : ℕ) → Spot inquiry n s i f → f < layer_size (size_of inquiry)
  spot_inside n s i f spot = omega (arith, spot.is, place_below s (size_of inquiry) (row_of rows n i) (row_inside n s i f spot))

  same_ride : (r : Ride) (n : ℕ) (s : Shift) (b i f : ℕ) → Spot inquiry r.train r.shift r.alight f → r.board ≡ b → Spot inquiry n s i f → r ≡ ride n s b i
  same_ride r n s b i f here e spot k =
      let p = same_place r.shift s (size_of inquiry) (row_of rows r.train r.alight) (row_of rows n i) (row_inside r.train r.shift r.alight f here) (row_inside n s i f spot) (sym here.is ∙ spot.is) in
      let q = same_row rows stops inquiry.ordered r.train r.alight n i here.in_force here.on_the_train spot.in_force spot.on_the_train p.1 in
      record { train = q.0 k; shift = p.0 k; board = e k; alight = q.1 k }

  -- ---- trails
  module _ {A : Type 0} (table : List (WorkRecord A)) where
    -- the records tell a trail to the place f
    abbrev pub Told : ℕ → ℕ → Type 0
    Told k f = (rides : List Ride) × Trail inquiry table k f rides

    -- the record of its last ride
    abbrev last : ℕ → ℕ → WorkRecord A
    last k f = get_or table (layer_at (size_of inquiry) k + f) blank

    pub trail_length : (k f : ℕ) (rides : List Ride) → Trail inquiry table k f rides → length rides ≡ k
    trail_length zero f rides e = ap length e
    trail_length (suc k) f rides (n, s, i, spot, before, trail, is) =
        omega (arith, simp length-append at (ap length is), trail_length k (last k f).from before trail)

    pub trail_inside : (k f : ℕ) → Told (suc k) f → f < layer_size (size_of inquiry)
    trail_inside k f (whole, (n, s, i, spot, before, trail, is)) = spot_inside n s i f spot

    pub last_inside : (k f : ℕ) → layer_at (size_of inquiry) (k + 1) ≤ length table → Told (suc k) f → layer_at (size_of inquiry) k + f < length table
    last_inside k f within told = omega (arith, trail_inside k f told)

    pub last_is : (k f : ℕ) (x : WorkRecord A) → layer_at (size_of inquiry) (k + 1) ≤ length table → Told (suc k) f → x ≡ get_or table (layer_at (size_of inquiry) k + f) x → x ≡ last k f
    last_is k f x within told is = get_or_read table (layer_at (size_of inquiry) k + f) x (last_inside k f within told) is blank

    -- the trail before the last ride
    from_read : (k j f : ℕ) (x : WorkRecord A) (before : List Ride) → x ≡ last k f → j + 1 ≡ k → Trail inquiry table k (last k f).from before → Trail inquiry table (suc j) x.from before
    from_read k j f x before is h trail =
        let up : k ≡ suc j = omega arith in
        subst (λ (y : WorkRecord A). Trail inquiry table (suc j) y.from before) (sym is)
        (subst (λ (i : ℕ). Trail inquiry table i (last k f).from before) up trail)

    pub trail_before : (k j f : ℕ) (x : WorkRecord A) → x ≡ last k f → j + 1 ≡ k → Told (suc k) f → Told (suc j) x.from
    trail_before k j f x is h (whole, (n, s, i, spot, before, trail, e)) = (before, from_read k j f x before is h trail)

    -- if the rides before are written, the last ride ends the trail
    ended : (k f : ℕ) (rides after : List Ride) (r : Ride) → k < length rides → Spot inquiry r.train r.shift r.alight f → r.board ≡ (last k f).board
        → ((before : List Ride) → Trail inquiry table k (last k f).from before → after ≡ before ++ drop k rides)
        → (whole : List Ride) → Trail inquiry table (suc k) f whole → set after k r ≡ whole ++ drop (k + 1) rides
    ended k f rides after r h here e written whole (n, s, i, spot, before, trail, is) =
        ap₂ (λ (l : List Ride) (x : Ride). set l k x) (written before trail) (same_ride r n s (last k f).board i f here e spot)
        ∙ put_after before rides k (ride n s (last k f).board i) (trail_length k (last k f).from before trail) h
        ∙ ap (λ (l : List Ride). l ++ drop (k + 1) rides) (sym is)

    pub first_ends : (k f : ℕ) (x : WorkRecord A) (rides after : List Ride) (r : Ride) → x ≡ last k f → k ≡ 0 → k < length rides → Spot inquiry r.train r.shift r.alight f → r.board ≡ x.board
        → after ≡ rides
        → (whole : List Ride) → Trail inquiry table (suc k) f whole → set after k r ≡ whole ++ drop (k + 1) rides
    first_ends zero f x rides after r is z h here e same =
        ended zero f rides after r h here (e ∙ ap (λ (y : WorkRecord A). y.board) is) (λ before none. same ∙ ap (λ (l : List Ride). l ++ rides) (sym none))
    first_ends (suc k) f x rides after r is z h here e same = absurd (omega arith)

    pub next_ends : (k j f : ℕ) (x : WorkRecord A) (rides written after : List Ride) (r : Ride) → x ≡ last k f → j + 1 ≡ k → k < length rides → Spot inquiry r.train r.shift r.alight f → r.board ≡ x.board
        → ((before : List Ride) → Trail inquiry table (suc j) x.from before → written ≡ before ++ drop (j + 1) rides)
        → after ≡ written
        → (whole : List Ride) → Trail inquiry table (suc k) f whole → set after k r ≡ whole ++ drop (k + 1) rides
    next_ends k j f x rides written after r is up h here e ends same =
        ended k f rides after r h here (e ∙ ap (λ (y : WorkRecord A). y.board) is)
        (λ before trail. same ∙ ends before (from_read k j f x before is up trail) ∙ ap (λ (i : ℕ). before ++ drop i rides) up)
