-- Chains that grow place by place.
use Rattle.std.proofs.Common.{◌≡◌, ℕ, ◌+◌, ◌<◌, ◌≤◌, true, false, ◌≢◌, ◌⊎◌, min, length, get_or, is_some, Some, None, Option, sym, refl, ap, ap₂, ◌∙◌, subst, inl, inr, arith, get_or-set_other, get_or-set_same}
use Rattle.std.proofs.lemmas.List.{length-set, length-replicate, get_or-replicate}
use Rattle.std.proofs.lemmas.Bool.{cases_lt}
use Rattle.book.specs.Limits.{last_station, most_stops}
use Rattle.connection.specs.declared.label.Label.{Label}
use Rattle.connection.specs.declared.ride.Shift.{Shift}
use Rattle.search.specs.Chains.{never, comes, cleared, with_arrival, ArrivesAt, Link, Chained}
use Rattle.search.specs.Limits.{stations, most_places}
use Rattle.search.specs.Working.{size_of, stop_in, place}
use Rattle.search.specs.declared.chains.Arrivals.{Arrivals}
use Rattle.search.specs.declared.ends.End.{End}
use Rattle.search.specs.declared.inquiry.Inquiry.{Inquiry}
use Rattle.search.proofs.RowsAreTrains.{place_below, same_place}

-- with a label at the place it is taken
abbrev pub arrived : {A : Type 0} → Arrivals A → (station minute x : ℕ) → Option (Label A) → Arrivals A
arrived a station minute x None = a
arrived a station minute x (Some l) = with_arrival a station minute x

pub not_some : {A : Type 0} (o : Option A) → is_some o ≡ false → o ≡ None
not_some None e = refl
not_some (Some a) e = let z : ◌≡◌ {A = ℕ} 0 1 = cc in absurd (omega arith)

no_label : {A B : Type 0} (o : Option A) → is_some o ≡ true → o ≡ None → B
no_label None s e = let z : ◌≡◌ {A = ℕ} 0 1 = cc in absurd (omega arith)
no_label (Some a) s e = let z : ◌≡◌ {A = ℕ} 0 1 = cc in absurd (omega arith)

module _ {P A : Type 0} (inquiry : Inquiry P) where
  -- ---- no place is taken yet
  pub chained_none : (label : Shift → ℕ → Option (Label A)) (c : Arrivals A) (known : Option (End A)) → length c.nexts ≡ most_places → length c.minutes ≡ most_places → Chained inquiry label 0 (cleared c known)
  chained_none label c known long long_minutes =
      record {
        long_heads = length-replicate {A = Option ℕ} stations None;
        long_nexts = long;
        first = λ station h.
            subst (Link inquiry label station 0) (sym (get_or-replicate stations station None None (omega arith)))
            (record { ahead = omega arith; passed_over = λ s row i a b e. absurd (omega arith); arrives = tt });
        long_minutes = long_minutes;
        long_earliest = length-replicate stations never;
        next = λ station x h a. absurd (omega arith);
        minute = λ station x h w. absurd (omega arith);
        not_before = λ station x h w. absurd (omega arith);
      }

  -- ---- chains speak only of the labels ahead
  module _ (label label' : Shift → ℕ → Option (Label A)) (a : ℕ) (same : (s : Shift) (row : ℕ) → row < size_of inquiry → place (size_of inquiry) s row < a → label' s row ≡ label s row) where
    arrives_same : (station x : ℕ) → x < a → ArrivesAt inquiry label station x → ArrivesAt inquiry label' station x
    arrives_same station x h w =
        record { shift = w.shift; row = w.row; inside = w.inside; is = w.is; here = w.here; labelled = ap is_some (same w.shift w.row w.inside (omega (arith, w.is))) ∙ w.labelled }

    abbrev arrives_back : (station x : ℕ) → x < a → ArrivesAt inquiry label' station x → ArrivesAt inquiry label station x
    arrives_back station x h w =
        record { shift = w.shift; row = w.row; inside = w.inside; is = w.is; here = w.here; labelled = ap is_some (sym (same w.shift w.row w.inside (omega (arith, w.is)))) ∙ w.labelled }

    link_same : (station b : ℕ) (o : Option ℕ) → b ≤ a → Link inquiry label station b o → Link inquiry label' station b o
    link_same station b None h l =
        record { ahead = l.ahead; passed_over = λ s row i lo hi e. same s row i (omega arith) ∙ l.passed_over s row i lo hi e; arrives = tt }
    link_same station b (Some x) h l =
        record {
          ahead = l.ahead;
          passed_over = λ s row i lo hi e. same s row i (omega arith) ∙ l.passed_over s row i lo hi e;
          arrives = arrives_same station x (omega (arith, l.ahead)) l.arrives;
        }

    pub chained_same : (c : Arrivals A) → Chained inquiry label a c → Chained inquiry label' a c
    chained_same c h =
        record {
          long_heads = h.long_heads;
          long_nexts = h.long_nexts;
          long_minutes = h.long_minutes;
          long_earliest = h.long_earliest;
          first = λ station known. link_same station a (get_or c.heads station None) (omega arith) (h.first station known);
          next = λ station x l w. link_same station x (get_or c.nexts x None) (omega arith) (h.next station x l (arrives_back station x l w));
          minute = λ station x l w. h.minute station x l (arrives_back station x l w);
          not_before = λ station x l w. h.not_before station x l (arrives_back station x l w);
        }

  module _ (label : Shift → ℕ → Option (Label A)) where
    link_on : (station a b : ℕ) (o : Option ℕ) → a ≤ b → ((s : Shift) (row : ℕ) → row < size_of inquiry → a ≤ place (size_of inquiry) s row → place (size_of inquiry) s row < b → (stop_in inquiry row).station ≡ station → label s row ≡ None) → Link inquiry label station a o → Link inquiry label station b o
    link_on station a b o h none l =
        record {
          ahead = omega (arith, l.ahead);
          passed_over = λ s row i lo hi e. elim (cases_lt (place (size_of inquiry) s row) a) [ inl g ↦ l.passed_over s row i lo g e | inr g ↦ none s row i g hi e ];
          arrives = l.arrives;
        }

    -- ---- places without a label are passed over
    pub chained_over : (a b : ℕ) (c : Arrivals A) → a ≤ b → ((s : Shift) (row : ℕ) → row < size_of inquiry → a ≤ place (size_of inquiry) s row → place (size_of inquiry) s row < b → label s row ≡ None) → Chained inquiry label a c → Chained inquiry label b c
    chained_over a b c h none w =
        record {
          long_heads = w.long_heads;
          long_nexts = w.long_nexts;
          long_minutes = w.long_minutes;
          long_earliest = w.long_earliest;
          first = λ station known. link_on station a b (get_or c.heads station None) h (λ s row i lo hi e. none s row i lo hi) (w.first station known);
          next = λ station x l r. w.next station x (before station x l r (cases_lt x a)) r;
          minute = λ station x l r. w.minute station x (before station x l r (cases_lt x a)) r;
          not_before = λ station x l r. w.not_before station x (before station x l r (cases_lt x a)) r;
        }
      where
        before : (station x : ℕ) → x < b → ArrivesAt inquiry label station x → (x < a) ⊎ (a ≤ x) → x < a
        before station x l r (inl g) = g
        before station x l r (inr g) = no_label (label r.shift r.row) r.labelled (none r.shift r.row r.inside (omega (arith, r.is)) (omega (arith, r.is)))

    -- ---- one more place
    module _ (s : Shift) (row : ℕ) (inside : row < size_of inquiry) (few : size_of inquiry ≤ most_stops) (known : (stop_in inquiry row).station ≤ last_station) (c : Arrivals A) (minute : ℕ) (minute_is : minute ≡ comes inquiry.query.now (stop_in inquiry row) s) (so_far : Chained inquiry label (place (size_of inquiry) s row) c) where
      abbrev at : ℕ
      at = place (size_of inquiry) s row

      abbrev station : ℕ
      station = (stop_in inquiry row).station

      -- the place itself is that row of that shift
      only : (s' : Shift) (row' : ℕ) → row' < size_of inquiry → at ≤ place (size_of inquiry) s' row' → place (size_of inquiry) s' row' < at + 1 → (s ≡ s') × (row ≡ row')
      only s' row' i lo hi = same_place s s' (size_of inquiry) row row' inside i (omega arith)

      add_none : label s row ≡ None → Chained inquiry label (at + 1) c
      add_none none = chained_over at (at + 1) c (omega arith) skip so_far
        where
          skip : (s' : Shift) (row' : ℕ) → row' < size_of inquiry → at ≤ place (size_of inquiry) s' row' → place (size_of inquiry) s' row' < at + 1 → label s' row' ≡ None
          skip s' row' i lo hi = let w = only s' row' i lo hi in subst (λ (r : ℕ). label s' r ≡ None) w.1 (subst (λ (t : Shift). label t row ≡ None) w.0 none)

      module _ (some : is_some (label s row) ≡ true) where
        abbrev c' : Arrivals A
        c' = with_arrival c station minute at

        here : Link inquiry label station (at + 1) (Some at)
        here =
            record {
              ahead = omega arith;
              passed_over = λ s' row' i lo hi e. absurd (omega arith);
              arrives = record { shift = s; row = row; inside = inside; is = refl; here = refl; labelled = some };
            }

        other : (st : ℕ) → st ≤ last_station → st ≢ station → Link inquiry label st (at + 1) (get_or c'.heads st None)
        other st h ne =
            subst (Link inquiry label st (at + 1)) (sym (get_or-set_other c.heads station st (Some at) None ne))
            (link_on st at (at + 1) (get_or c.heads st None) (omega arith)
            (λ s' row' i lo hi e. let w = only s' row' i lo hi in absurd (ne (sym (ap (λ r. (stop_in inquiry r).station) w.1 ∙ e)))) (so_far.first st h))

        first_at : (st : ℕ) → st ≤ last_station → ((st < station) ⊎ (station ≤ st)) → ((station < st) ⊎ (st ≤ station)) → Link inquiry label st (at + 1) (get_or c'.heads st None)
        first_at st h (inr g) (inr f) =
            let e : station ≡ st = omega arith in
            let w : station < length c.heads = omega (arith, so_far.long_heads) in
            subst (λ (x : ℕ). Link inquiry label x (at + 1) (get_or c'.heads x None)) e
            (subst (Link inquiry label station (at + 1)) (sym (get_or-set_same c.heads station (Some at) None w)) here)
        first_at st h (inl g) f = let ne : st ≢ station = omega arith in other st h ne
        first_at st h (inr g) (inl f) = let ne : st ≢ station = omega arith in other st h ne

        next_at : (st x : ℕ) → x < at + 1 → ArrivesAt inquiry label st x → ((x < at) ⊎ (at ≤ x)) → Link inquiry label st x (get_or c'.nexts x None)
        next_at st x l r (inl g) =
            let ne : x ≢ at = omega arith in
            subst (Link inquiry label st x) (sym (get_or-set_other c.nexts at x (get_or c.heads station None) None ne)) (so_far.next st x g r)
        next_at st x l r (inr g) =
            let e : at ≡ x = omega arith in
            let w : at < length c.nexts = omega (arith, so_far.long_nexts, place_below s (size_of inquiry) row inside) in
            let who = only r.shift r.row r.inside (omega (arith, r.is)) (omega (arith, r.is)) in
            let st_is : station ≡ st = ap (λ i. (stop_in inquiry i).station) who.1 ∙ r.here in
            subst (λ (y : ℕ). Link inquiry label st y (get_or c'.nexts y None)) e
            (subst (λ (y : ℕ). Link inquiry label y at (get_or c'.nexts at None)) st_is
            (subst (Link inquiry label station at) (sym (get_or-set_same c.nexts at (get_or c.heads station None) None w)) (so_far.first station known)))

        minute_at : (st x : ℕ) → x < at + 1 → (r : ArrivesAt inquiry label st x) → ((x < at) ⊎ (at ≤ x)) → get_or c'.minutes x 0 ≡ comes inquiry.query.now (stop_in inquiry r.row) r.shift
        minute_at st x l r (inl g) = let ne : x ≢ at = omega arith in get_or-set_other c.minutes at x minute 0 ne ∙ so_far.minute st x g r
        minute_at st x l r (inr g) =
            let e : at ≡ x = omega arith in
            let w : at < length c.minutes = omega (arith, so_far.long_minutes, place_below s (size_of inquiry) row inside) in
            let who = only r.shift r.row r.inside (omega (arith, r.is)) (omega (arith, r.is)) in
            ap (λ y. get_or c'.minutes y 0) (sym e) ∙ get_or-set_same c.minutes at minute 0 w ∙ minute_is ∙ ap₂ (λ j t. comes inquiry.query.now (stop_in inquiry j) t) who.1 who.0

        abbrev soonest : ℕ
        soonest = min (get_or c.earliest station never) minute

        not_before_else : (st x : ℕ) → x < at + 1 → (r : ArrivesAt inquiry label st x) → ((x < at) ⊎ (at ≤ x)) → st ≢ station → get_or c'.earliest st never ≤ comes inquiry.query.now (stop_in inquiry r.row) r.shift
        not_before_else st x l r (inl g) ne = omega (arith, so_far.not_before st x g r, get_or-set_other c.earliest station st soonest never ne)
        not_before_else st x l r (inr g) ne =
            let who = only r.shift r.row r.inside (omega (arith, r.is)) (omega (arith, r.is)) in
            absurd (ne (sym (ap (λ i. (stop_in inquiry i).station) who.1 ∙ r.here)))

        not_before_at : (st x : ℕ) → x < at + 1 → (r : ArrivesAt inquiry label st x) → ((x < at) ⊎ (at ≤ x)) → ((st < station) ⊎ (station ≤ st)) → ((station < st) ⊎ (st ≤ station)) → get_or c'.earliest st never ≤ comes inquiry.query.now (stop_in inquiry r.row) r.shift
        not_before_at st x l r (inl g) (inr a) (inr b) =
            let e : station ≡ st = omega arith in
            let w : station < length c.earliest = omega (arith, so_far.long_earliest) in
            let was = so_far.not_before st x g r in
            let now : get_or c'.earliest st never ≡ soonest = ap (λ y. get_or c'.earliest y never) (sym e) ∙ get_or-set_same c.earliest station soonest never w in
            let less : soonest ≤ get_or c.earliest st never = omega (arith, ap (λ y. get_or c.earliest y never) e) in
            omega (arith, was, now, less)
        not_before_at st x l r (inr g) (inr a) (inr b) =
            let e : station ≡ st = omega arith in
            let w : station < length c.earliest = omega (arith, so_far.long_earliest) in
            let who = only r.shift r.row r.inside (omega (arith, r.is)) (omega (arith, r.is)) in
            let now : get_or c'.earliest st never ≡ soonest = ap (λ y. get_or c'.earliest y never) (sym e) ∙ get_or-set_same c.earliest station soonest never w in
            let when_is : minute ≡ comes inquiry.query.now (stop_in inquiry r.row) r.shift = minute_is ∙ ap₂ (λ j t. comes inquiry.query.now (stop_in inquiry j) t) who.1 who.0 in
            omega (arith, now, when_is)
        not_before_at st x l r p (inl a) q = not_before_else st x l r p (omega arith)
        not_before_at st x l r p (inr a) (inl b) = not_before_else st x l r p (omega arith)

        add_some : Chained inquiry label (at + 1) c'
        add_some =
            record {
              long_heads = length-set c.heads station (Some at) ∙ so_far.long_heads;
              long_nexts = length-set c.nexts at (get_or c.heads station None) ∙ so_far.long_nexts;
              first = λ st h. first_at st h (cases_lt st station) (cases_lt station st);
              long_earliest = length-set c.earliest station (min (get_or c.earliest station never) minute) ∙ so_far.long_earliest;
              long_minutes = length-set c.minutes at minute ∙ so_far.long_minutes;
              next = λ st x l r. next_at st x l r (cases_lt x at);
              minute = λ st x l r. minute_at st x l r (cases_lt x at);
              not_before = λ st x l r. not_before_at st x l r (cases_lt x at) (cases_lt st station) (cases_lt station st);
            }

      pub chained_more : (o : Option (Label A)) → label s row ≡ o → Chained inquiry label (at + 1) (arrived c station minute at o)
      chained_more None e = add_none e
      chained_more (Some l) e = add_some (ap is_some e)

-- a label that is there is taken
pub arrived_some : {A : Type 0} (c : Arrivals A) (station minute x : ℕ) (o : Option (Label A)) → is_some o ≡ true → arrived c station minute x o ≡ with_arrival c station minute x
arrived_some c station minute x None e = let z : ◌≡◌ {A = ℕ} 0 1 = cc in absurd (omega arith)
arrived_some c station minute x (Some l) e = refl
