-- Rows that hold leave no gap, so they are given by the trains that they list.
use Rattle.std.proofs.Common.{◌≡◌, ℕ, ◌+◌, ◌-◌, ◌≤◌, Bool, true, false, cond, List, [], ◌∷◌, ◌++◌, length, take, drop, Some, None, sym, refl, ap, ◌∙◌, ap₂, arith, length-drop, length-take-le, take-add}
use native.Mathlib.Nat.{sub-zero}
use Rattle.std.specs.List.{flat_map}
use Rattle.std.proofs.lemmas.Bool.{and_parts, eqb-true}
use Rattle.std.proofs.lemmas.List.{drop-drop}
use Rattle.book.specs.Trains.{Train, all_stops, gapless, trains_in, train_at, listed, holds, meaning}
use Rattle.book.specs.declared.rows.StopRow.{StopRow}
use Rattle.book.specs.declared.rows.TrainRow.{TrainRow}
use Rattle.book.proofs.Held.{held, length_listed, all_stops_held}

-- rows that mean trains hold, and list just those
pub meaning_told : (n s : ℕ) (trains : List TrainRow) (stops : List StopRow) (us : List Train) → meaning n s trains stops ≡ Some us → (holds n s trains stops ≡ true) × (listed n trains stops ≡ us)
meaning_told n s trains stops us m = at_test (holds n s trains stops) refl m where
  at_test : (t : Bool) → holds n s trains stops ≡ t → cond t (Some (listed n trains stops)) None ≡ Some us → (holds n s trains stops ≡ true) × (listed n trains stops ≡ us)
  at_test true h e = (h, cc)
  at_test false h e = cc

-- ---- rows without a gap, from the row `at` on up to the row `end`
gapless_first : (at end : ℕ) (r : TrainRow) (rs : List TrainRow) → gapless at end (r ∷ rs) ≡ true → (r.first ≡ at) × (gapless (at + r.count) end rs ≡ true)
gapless_first at end r rs g = let p = and_parts _ _ g in (eqb-true r.first at p.0, p.1)

gapless_ends : (at end : ℕ) (rows : List TrainRow) → gapless at end rows ≡ true → at ≤ end
gapless_ends at end [] g = let e = eqb-true at end g in omega arith
gapless_ends at end (r ∷ rs) g = let k = gapless_ends (at + r.count) end rs (gapless_first at end r rs g).1 in omega arith

-- the rows of trains whose stops stand from the row `at` on
rows_of : ℕ → List Train → List TrainRow
rows_of at [] = []
rows_of at (t ∷ ts) = record { number = t.number; code = t.code; features = t.features; first = at; count = length t.stops } ∷ rows_of (at + length t.stops) ts

module _ (stops : List StopRow) where
  count_is : (at end : ℕ) (r : TrainRow) (rs : List TrainRow) → end ≤ length stops → gapless at end (r ∷ rs) ≡ true → length (train_at stops r).stops ≡ r.count
  count_is at end r rs fit g =
      let p = gapless_first at end r rs g in
      let q = gapless_ends (at + r.count) end rs p.1 in
      length-take-le r.count (drop r.first stops) (simp length-drop (omega (arith, p.0)))

  rows_from : (at end : ℕ) (rows : List TrainRow) → end ≤ length stops → gapless at end rows ≡ true → rows ≡ rows_of at (trains_in rows stops)
  unfolding rows_of
  rows_from at end [] fit g = refl
  rows_from at end (r ∷ rs) fit g =
      let p = gapless_first at end r rs g in
      let c = count_is at end r rs fit g in
      let f = p.0 in
      let row : r ≡ record { number = r.number; code = r.code; features = r.features; first = at; count = length (train_at stops r).stops } = rw (c, ← f) refl in
      let rest : rs ≡ rows_of (at + length (train_at stops r).stops) (trains_in rs stops) = rw c (rows_from (at + r.count) end rs fit p.1) in
      ap₂ (λ (x : TrainRow) (xs : List TrainRow). x ∷ xs) row rest

  stops_from : (at end : ℕ) (rows : List TrainRow) → end ≤ length stops → gapless at end rows ≡ true → take (end - at) (drop at stops) ≡ flat_map (λ (t : Train). t.stops) (trains_in rows stops)
  stops_from at end [] fit g = let z : end - at ≡ 0 = omega (arith, eqb-true at end g) in rw z refl
  stops_from at end (r ∷ rs) fit g =
      let p = gapless_first at end r rs g in
      let q = gapless_ends (at + r.count) end rs p.1 in
      let n : end - at ≡ r.count + (end - (at + r.count)) = omega arith in
      ap (λ (k : ℕ). take k (drop at stops)) n
      ∙ take-add r.count (end - (at + r.count)) (drop at stops)
      ∙ ap₂ (λ (x y : List StopRow). x ++ y) (ap (λ (k : ℕ). take r.count (drop k stops)) (sym p.0))
      (ap (take (end - (at + r.count))) (drop-drop r.count at stops) ∙ stops_from (at + r.count) end rs fit p.1)

  stops_in_use : (end : ℕ) (rows : List TrainRow) → end ≤ length stops → gapless 0 end rows ≡ true → take end stops ≡ flat_map (λ (t : Train). t.stops) (trains_in rows stops)
  stops_in_use end rows fit g = ap (λ (k : ℕ). take k stops) (sym (sub-zero end)) ∙ stops_from 0 end rows fit g

-- ---- two books of the same trains have the same rows in use
pub same_rows : (n s m r : ℕ) (ts us : List TrainRow) (ss vs : List StopRow) → holds n s ts ss ≡ true → holds m r us vs ≡ true → listed n ts ss ≡ listed m us vs
    → (n ≡ m) × (s ≡ r) × (take n ts ≡ take m us) × (take s ss ≡ take r vs)
same_rows n s m r ts us ss vs g h e =
    let a = held n s ts ss g in
    let b = held m r us vs h in (
      sym (length_listed n ts ss a.trains_fit) ∙ ap length e ∙ length_listed m us vs b.trains_fit,
      sym (all_stops_held n s ts ss g) ∙ ap all_stops e ∙ all_stops_held m r us vs h,
      rows_from ss 0 s (take n ts) a.stops_fit a.no_gap ∙ ap (rows_of 0) e ∙ sym (rows_from vs 0 r (take m us) b.stops_fit b.no_gap),
      stops_in_use ss s (take n ts) a.stops_fit a.no_gap ∙ ap (flat_map (λ (t : Train). t.stops)) e ∙ sym (stops_in_use vs r (take m us) b.stops_fit b.no_gap),
    )
