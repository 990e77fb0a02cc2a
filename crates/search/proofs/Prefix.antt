-- The rows in use, in tables that may be longer, hold the trains that are listed, and are in order.
use Rattle.std.proofs.Common.{◌≡◌, ℕ, ◌+◌, ◌-◌, ◌≤◌, true, List, [], ◌∷◌, length, take, drop, refl, ap, ◌∙◌, ap₂, arith}
use Rattle.std.proofs.lemmas.List.{length-take-le, take-take, drop-take}
use Rattle.book.specs.Trains.{Train, gapless, trains_in, train_at, listed, holds}
use Rattle.book.specs.declared.rows.StopRow.{StopRow}
use Rattle.book.specs.declared.rows.TrainRow.{TrainRow}
use Rattle.search.specs.Rows.{InOrder}
use Rattle.book.proofs.Held.{held}
use Rattle.search.proofs.RowsAreTrains.{gapless_first, gapless_ends}

-- ---- rows without a gap
-- they read nothing past the row where they end
train_same : (s : ℕ) (stops : List StopRow) (r : TrainRow) → r.first + r.count ≤ s → train_at (take s stops) r ≡ train_at stops r
train_same s stops r h =
    let e : s ≡ r.first + (s - r.first) = omega arith in
    ap (λ (ss : List StopRow). record { number = r.number; code = r.code; features = r.features; stops = ss })
    (ap (λ (x : ℕ). take r.count (drop r.first (take x stops))) e
    ∙ ap (take r.count) (drop-take r.first (s - r.first) stops)
    ∙ take-take r.count (s - r.first) (drop r.first stops) (omega arith))

trains_same : (at s : ℕ) (rows : List TrainRow) (stops : List StopRow) → gapless at s rows ≡ true → trains_in rows (take s stops) ≡ trains_in rows stops
trains_same at s [] stops g = refl
trains_same at s (r ∷ rs) stops g =
    let p = gapless_first at s r rs g in
    let k = gapless_ends (at + r.count) s rs p.1 in
    ap₂ {C = List Train} (λ (t : Train) (ts : List Train). t ∷ ts) (train_same s stops r (omega arith)) (trains_same (at + r.count) s rs stops p.1)

module _ (n s : ℕ) (trains : List TrainRow) (stops : List StopRow) where
  pub trains_fit : holds n s trains stops ≡ true → n ≤ length trains
  trains_fit h = (held n s trains stops h).trains_fit

  pub stops_fit : holds n s trains stops ≡ true → s ≤ length stops
  stops_fit h = (held n s trains stops h).stops_fit

  pub long_trains : holds n s trains stops ≡ true → length (take n trains) ≡ n
  long_trains h = length-take-le n trains (trains_fit h)

  pub long_stops : holds n s trains stops ≡ true → length (take s stops) ≡ s
  long_stops h = length-take-le s stops (stops_fit h)

  pub same_trains : holds n s trains stops ≡ true → trains_in (take n trains) (take s stops) ≡ listed n trains stops
  same_trains h = trains_same 0 s (take n trains) stops (held n s trains stops h).no_gap

  pub in_order : holds n s trains stops ≡ true → InOrder (take n trains) (take s stops)
  in_order h =
      let k = held n s trains stops h in
      record {
        gapless = rw (long_stops h) k.no_gap;
        sound = rw (same_trains h) k.are_sound;
        few_trains = omega (arith, long_trains h, k.few_trains);
        few_stops = omega (arith, long_stops h, k.few_stops);
      }
