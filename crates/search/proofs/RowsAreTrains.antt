-- Rows in order hold trains that keep the rules, and each stop row is one of their stops, so its times and its station are within the limits.
use Rattle.std.proofs.Common.{◌≡◌, ℕ, zero, suc, ◌+◌, ◌-◌, ◌<◌, ◌≤◌, true, eqb, ◌⊎◌, List, [], ◌∷◌, length, drop, Some, None, Option, sym, refl, ap, ◌∙◌, subst, inl, inr, arith, length-drop}
use lib.ListN.{length-map}
use Rattle.std.proofs.ByRecursion.{All-get_or}
use Rattle.std.proofs.lemmas.List.{length-take-le, get_or-take, get_or-drop, get_or-map}
use Rattle.std.proofs.lemmas.Bool.{and_parts, eqb-true, cases_lt, cases_order}
use Rattle.book.specs.Answers.{train_row}
use Rattle.book.specs.Limits.{last_minute, last_station, most_stops_of_train}
use Rattle.book.specs.Rules.{stop_at, Rules, SoundIsTheRules}
use Rattle.book.specs.Stops.{sound}
use Rattle.book.specs.Trains.{Train, gapless, all_sound, trains_in, train_at}
use Rattle.book.specs.declared.rows.Departure.{Departure}
use Rattle.book.specs.declared.rows.StopRow.{StopRow}
use Rattle.book.specs.declared.rows.TrainRow.{TrainRow}
use Rattle.connection.specs.Rides.{train_in_row, stops_at, stop_of, departure, arrival}
use Rattle.connection.specs.Whole.{KeepTheRules}
use Rattle.connection.specs.declared.ride.Shift.{Shift}
use Rattle.connection.specs.declared.ride.Shift.TheVariants.{DayBefore, SameDay, DayAfter}
use Rattle.connection.proofs.Times.{on_time}
use Rattle.search.specs.Layers.{row_of}
use Rattle.search.specs.Limits.{layer_size}
use Rattle.search.specs.Rows.{InOrder, Timely}
use Rattle.search.specs.Working.{place}

-- ---- places
pub place_below : (s : Shift) (size row : ℕ) → row < size → place size s row < layer_size size
place_below DayBefore size row h = omega arith
place_below SameDay size row h = omega arith
place_below DayAfter size row h = omega arith

pub same_place : (s s' : Shift) (size j j' : ℕ) → j < size → j' < size → place size s j ≡ place size s' j' → (s ≡ s') × (j ≡ j')
same_place DayBefore DayBefore size j j' h h' e = (refl, omega arith)
same_place DayBefore SameDay size j j' h h' e = absurd (omega arith)
same_place DayBefore DayAfter size j j' h h' e = absurd (omega arith)
same_place SameDay DayBefore size j j' h h' e = absurd (omega arith)
same_place SameDay SameDay size j j' h h' e = (refl, omega arith)
same_place SameDay DayAfter size j j' h h' e = absurd (omega arith)
same_place DayAfter DayBefore size j j' h h' e = absurd (omega arith)
same_place DayAfter SameDay size j j' h h' e = absurd (omega arith)
same_place DayAfter DayAfter size j j' h h' e = (refl, omega arith)

-- ---- rows without a gap, from the row `at` on up to the row `end`
pub gapless_first : (at end : ℕ) (r : TrainRow) (rs : List TrainRow) → gapless at end (r ∷ rs) ≡ true → (r.first ≡ at) × (gapless (at + r.count) end rs ≡ true)
gapless_first at end r rs g =
    let p = and_parts (eqb r.first at) (gapless (at + r.count) end rs) g in
    (eqb-true r.first at p.0, p.1)

pub gapless_ends : (at end : ℕ) (rows : List TrainRow) → gapless at end rows ≡ true → at ≤ end
gapless_ends at end [] g = let e = eqb-true at end g in omega arith
gapless_ends at end (r ∷ rs) g = let k = gapless_ends (at + r.count) end rs (gapless_first at end r rs g).1 in omega arith

row_none : (at end : ℕ) (rows : List TrainRow) → gapless at end rows ≡ true → length rows ≡ 0 → at ≡ end
row_none at end [] g h = eqb-true at end g
row_none at end (r ∷ rs) g h = absurd (omega arith)

row_head : (at end : ℕ) (rows : List TrainRow) → gapless at end rows ≡ true → 0 < length rows → (train_row 0 rows).first ≡ at
row_head at end [] g h = absurd (omega arith)
row_head at end (r ∷ rs) g h = (gapless_first at end r rs g).0

row_next : (at end : ℕ) (rows : List TrainRow) (n : ℕ) → gapless at end rows ≡ true → suc n < length rows → (train_row (suc n) rows).first ≡ (train_row n rows).first + (train_row n rows).count
row_next at end [] n g h = absurd (omega arith)
row_next at end (r ∷ rs) zero g h =
    let p = gapless_first at end r rs g in
    let e = row_head (at + r.count) end rs p.1 (omega arith) in
    omega arith
row_next at end (r ∷ rs) (suc n) g h = row_next (at + r.count) end rs n (gapless_first at end r rs g).1 (omega arith)

row_last : (at end : ℕ) (rows : List TrainRow) (n : ℕ) → gapless at end rows ≡ true → suc n ≡ length rows → (train_row n rows).first + (train_row n rows).count ≡ end
row_last at end [] n g h = absurd (omega arith)
row_last at end (r ∷ rs) zero g h =
    let p = gapless_first at end r rs g in
    let e = row_none (at + r.count) end rs p.1 (omega arith) in
    omega arith
row_last at end (r ∷ rs) (suc n) g h = row_last (at + r.count) end rs n (gapless_first at end r rs g).1 (omega arith)

row_within : (at end : ℕ) (rows : List TrainRow) (n : ℕ) → gapless at end rows ≡ true → n < length rows → (at ≤ (train_row n rows).first) × ((train_row n rows).first + (train_row n rows).count ≤ end)
row_within at end [] n g h = absurd (omega arith)
row_within at end (r ∷ rs) zero g h =
    let p = gapless_first at end r rs g in
    let k = gapless_ends (at + r.count) end rs p.1 in
    (omega arith, omega arith)
row_within at end (r ∷ rs) (suc n) g h =
    let k = row_within (at + r.count) end rs n (gapless_first at end r rs g).1 (omega arith) in
    (omega arith, k.1)

row_after : (at end : ℕ) (rows : List TrainRow) (m n : ℕ) → gapless at end rows ≡ true → m < n → n < length rows → (train_row m rows).first + (train_row m rows).count ≤ (train_row n rows).first
row_after at end [] m n g l h = absurd (omega arith)
row_after at end (r ∷ rs) m zero g l h = absurd (omega arith)
row_after at end (r ∷ rs) zero (suc n) g l h =
    let p = gapless_first at end r rs g in
    let k = row_within (at + r.count) end rs n p.1 (omega arith) in
    omega arith
row_after at end (r ∷ rs) (suc m) (suc n) g l h = row_after (at + r.count) end rs m n (gapless_first at end r rs g).1 (omega arith) (omega arith)

-- the stop row j is one of a train's
abbrev Placed : List TrainRow → ℕ → Type 0
Placed rows j = (n : ℕ) × (i : ℕ) × (n < length rows) × (i < (train_row n rows).count) × (j ≡ row_of rows n i)

placed_more : (r : TrainRow) (rs : List TrainRow) (j : ℕ) → r.first ≤ j → ((j < r.first + r.count) ⊎ (r.first + r.count ≤ j)) → (r.first + r.count ≤ j → Placed rs j) → Placed (r ∷ rs) j
placed_more r rs j f (inl h) rest = (0, j - r.first, omega arith, omega arith, omega arith)
placed_more r rs j f (inr h) rest = let p = rest h in (suc p.0, p.1, omega (arith, p.2), p.3, p.4)

placed : (at end : ℕ) (rows : List TrainRow) (j : ℕ) → gapless at end rows ≡ true → at ≤ j → j < end → Placed rows j
placed at end [] j g a h = let e = eqb-true at end g in absurd (omega arith)
placed at end (r ∷ rs) j g a h =
    let p = gapless_first at end r rs g in
    placed_more r rs j (omega arith) (cases_lt j (r.first + r.count)) (λ k. placed (at + r.count) end rs j p.1 (omega arith) h)

-- ---- sound trains
all_keep : SoundIsTheRules → (trains : List Train) → all_sound trains ≡ true → KeepTheRules trains
all_keep book [] h = tt
all_keep book (t ∷ ts) h =
    let p = and_parts (sound t.number t.stops) (all_sound ts) h in
    ((book t.number t.stops).0 p.0, all_keep book ts p.1)

abbrev minute : Option Departure → ℕ
minute o = elim o [ Some d ↦ d.minute | None ↦ 0 ]

leaves_by : (number : ℕ) (ss : List StopRow) → Rules number ss → (i : ℕ) → i < length ss → departure (stop_at ss i) ≤ last_minute
leaves_by number ss rules i h = go (stop_at ss i).depart refl
  where
    go : (o : Option Departure) → (stop_at ss i).depart ≡ o → departure (stop_at ss i) ≤ last_minute
    go (Some d) e = omega (arith, ap minute e, rules.departs_in_time i d h e)
    go None e = omega (arith, ap minute e)

-- ---- the trains of the rows
pub many : (rows : List TrainRow) (stops : List StopRow) → length (trains_in rows stops) ≡ length rows
many rows stops = length-map rows (train_at stops)

module _ (rows : List TrainRow) (stops : List StopRow) (ok : InOrder rows stops) where
  -- ---- where their stops stand
  pub first_first : 0 < length rows → (train_row 0 rows).first ≡ 0
  first_first h = row_head 0 (length stops) rows ok.gapless h

  pub next_first : (n : ℕ) → suc n < length rows → (train_row (suc n) rows).first ≡ (train_row n rows).first + (train_row n rows).count
  next_first n h = row_next 0 (length stops) rows n ok.gapless h

  pub last_ends : (n : ℕ) → suc n ≡ length rows → (train_row n rows).first + (train_row n rows).count ≡ length stops
  last_ends n h = row_last 0 (length stops) rows n ok.gapless h

  pub none_none : length rows ≡ 0 → length stops ≡ 0
  none_none h = sym (row_none 0 (length stops) rows ok.gapless h)

  pub fits : (n : ℕ) → n < length rows → (train_row n rows).first + (train_row n rows).count ≤ length stops
  fits n h = (row_within 0 (length stops) rows n ok.gapless h).1

  pub after : (m n : ℕ) → m < n → n < length rows → (train_row m rows).first + (train_row m rows).count ≤ (train_row n rows).first
  after m n l h = row_after 0 (length stops) rows m n ok.gapless l h

  pub spot_of : (j : ℕ) → j < length stops → (n : ℕ) × (i : ℕ) × (n < length rows) × (i < (train_row n rows).count) × (j ≡ row_of rows n i)
  spot_of j h = placed 0 (length stops) rows j ok.gapless (omega arith) h

  pub same_row : (n i n' i' : ℕ) → n < length rows → i < (train_row n rows).count → n' < length rows → i' < (train_row n' rows).count → row_of rows n i ≡ row_of rows n' i' → (n ≡ n') × (i ≡ i')
  same_row n i n' i' h k h' k' e = go (cases_order n n')
    where
      go : ((n ≡ n') ⊎ ((n < n') ⊎ (n' < n))) → (n ≡ n') × (i ≡ i')
      go (inl same) = (same, omega (arith, ap (λ (x : ℕ). (train_row x rows).first) same))
      go (inr (inl l)) = absurd (omega (arith, after n n' l h'))
      go (inr (inr l)) = absurd (omega (arith, after n' n l h))

  -- ---- what they are
  is_at : (n : ℕ) → n < length rows → train_in_row (trains_in rows stops) n ≡ train_at stops (train_row n rows)
  is_at n h = get_or-map (train_at stops) rows n _ _ h

  -- the stops of the train are so many rows, from its first on
  pub own_count : (n : ℕ) → n < length rows → length (train_at stops (train_row n rows)).stops ≡ (train_row n rows).count
  own_count n h =
      let f = fits n h in
      length-take-le (train_row n rows).count (drop (train_row n rows).first stops) (simp length-drop (omega arith))

  pub own_stop : (n i : ℕ) → i < (train_row n rows).count → stop_at (train_at stops (train_row n rows)).stops i ≡ stop_at stops (row_of rows n i)
  own_stop n i l =
      get_or-take (train_row n rows).count (drop (train_row n rows).first stops) i _ l
      ∙ get_or-drop (train_row n rows).first stops i _

  pub count_is : (n : ℕ) → n < length rows → length (stops_at (trains_in rows stops) n) ≡ (train_row n rows).count
  count_is n h = ap (λ (t : Train). length t.stops) (is_at n h) ∙ own_count n h

  pub stop_is : (n i : ℕ) → n < length rows → i < (train_row n rows).count → stop_of (trains_in rows stops) n i ≡ stop_at stops (row_of rows n i)
  stop_is n i h l = ap (λ (t : Train). stop_at t.stops i) (is_at n h) ∙ own_stop n i l

  pub code_is : (n : ℕ) → n < length rows → (train_in_row (trains_in rows stops) n).code ≡ (train_row n rows).code
  code_is n h = ap (λ (t : Train). t.code) (is_at n h)

  pub features_is : (n : ℕ) → n < length rows → (train_in_row (trains_in rows stops) n).features ≡ (train_row n rows).features
  features_is n h = ap (λ (t : Train). t.features) (is_at n h)

  -- what holds of each stop of each train holds of each stop row
  of_stops : (P : StopRow → Type 0) → ((n i : ℕ) → n < length rows → i < length (stops_at (trains_in rows stops) n) → P (stop_of (trains_in rows stops) n i)) → (j : ℕ) → j < length stops → P (stop_at stops j)
  of_stops P all j h =
      let p = spot_of j h in
      subst P (stop_is p.0 p.1 p.2 p.3 ∙ ap (stop_at stops) (sym p.4))
      (all p.0 p.1 p.2 (omega (arith, count_is p.0 p.2, p.3)))

  -- ---- they keep the rules
  pub keep_the_rules : SoundIsTheRules → KeepTheRules (trains_in rows stops)
  keep_the_rules book = all_keep book (trains_in rows stops) ok.sound

  rules_of : KeepTheRules (trains_in rows stops) → (n : ℕ) → n < length rows → Rules (train_in_row (trains_in rows stops) n).number (stops_at (trains_in rows stops) n)
  rules_of lawful n h = All-get_or (λ (t : Train). Rules t.number t.stops) (trains_in rows stops) n _ (omega (arith, many rows stops)) lawful

  pub few_stops_of : KeepTheRules (trains_in rows stops) → (n : ℕ) → n < length rows → (train_row n rows).count ≤ most_stops_of_train
  few_stops_of lawful n h = omega (arith, count_is n h, (rules_of lawful n h).not_many)

  pub timely : SoundIsTheRules → Timely stops
  timely book =
      record {
        arrives = of_stops (λ (s : StopRow). arrival s ≤ last_minute) (λ n i h l. (on_time (trains_in rows stops) (keep_the_rules book) n).by i l);
        departs = of_stops (λ (s : StopRow). departure s ≤ last_minute) (λ n i h l. leaves_by _ _ (rules_of (keep_the_rules book) n h) i l);
        stations = of_stops (λ (s : StopRow). s.station ≤ last_station) (λ n i h l. (rules_of (keep_the_rules book) n h).stations i l);
      }
