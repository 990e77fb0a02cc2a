-- One pass over the train rows: what one row decides, and what is left to the rest.
use Rattle.std.proofs.Common.{◌≡◌, ℕ, ◌+◌, ◌-◌, ◌<◌, ◌≤◌, Bool, true, false, ◌&&◌, eqb, List, [], ◌∷◌, length, get_or, take, drop, sym, refl, ap, ◌∙◌, arith}
use mathlib.Core.Bool.{and-true}
use Rattle.std.proofs.lemmas.List.{at_drop_more, at_drop_all}
use Rattle.std.proofs.lemmas.Bool.{ne_eqb, eq-eqb, and_left, and_right}
use Rattle.book.specs.declared.rows.StopRow.{StopRow}
use Rattle.book.specs.declared.rows.TrainRow.{TrainRow}
use Rattle.book.specs.Stops.{sound}
use Rattle.book.specs.Trains.{all_sound, gapless, trains_in}

abbrev pub walk : ℕ → ℕ → List StopRow → List TrainRow → Bool
walk at used stops rows = gapless at used rows && all_sound (trains_in rows stops)

-- the stops never come back to a row that they passed
pub gapless_past : (at used : ℕ) (rows : List TrainRow) → used < at → gapless at used rows ≡ false
gapless_past at used [] h = ne_eqb at used (λ e. omega arith)
gapless_past at used (r ∷ rs) h = and_right (eqb r.first at) _ (gapless_past (at + r.count) used rs (omega arith))

-- what stands past the end of a table
abbrev pub no_row : TrainRow
no_row = record { number = 0; code = 0; features = 0; first = 0; count = 0 }

-- the slice that the code hands on is the row's part of the table
part : (at : ℕ) (r : TrainRow) (stops : List StopRow) → r.first ≡ at → take ((at + r.count) - at) (drop at stops) ≡ take r.count (drop r.first stops)
part at r stops e = let n : (at + r.count) - at ≡ r.count = omega arith in rw (n, e) refl

module _ (at used : ℕ) (stops : List StopRow) (rows : List TrainRow) (i : ℕ) (h : i < length rows) where
  step : walk at used stops (drop i rows) ≡ walk at used stops (get_or rows i no_row ∷ drop (i + 1) rows)
  step = at_drop_more (walk at used stops) rows i no_row h

  pub walk_apart : ((get_or rows i no_row).first ≡ at → ⊥) → false ≡ walk at used stops (drop i rows)
  walk_apart ne = let e = ne_eqb (get_or rows i no_row).first at ne in rw (step, e) refl

  pub walk_past : used < at + (get_or rows i no_row).count → false ≡ walk at used stops (drop i rows)
  walk_past past =
      let r = get_or rows i no_row in
      sym (step ∙ and_left _ _ (and_right (eqb r.first at) _ (gapless_past (at + r.count) used (drop (i + 1) rows) past)))

  pub walk_unsound : (get_or rows i no_row).first ≡ at
      → false ≡ sound (get_or rows i no_row).number (take ((at + (get_or rows i no_row).count) - at) (drop at stops))
      → false ≡ walk at used stops (drop i rows)
  walk_unsound e f =
      let r = get_or rows i no_row in
      sym (step ∙ and_right _ _ (and_left _ _ (sym (f ∙ ap (sound r.number) (part at r stops e)))))

  pub walk_on : (get_or rows i no_row).first ≡ at
      → true ≡ sound (get_or rows i no_row).number (take ((at + (get_or rows i no_row).count) - at) (drop at stops))
      → walk (at + (get_or rows i no_row).count) used stops (drop (i + 1) rows) ≡ walk at used stops (drop i rows)
  walk_on e t =
      let r = get_or rows i no_row in
      let s = sym (t ∙ ap (sound r.number) (part at r stops e)) in
      rw (step, s, eq-eqb r.first at e) refl

pub walk_end : (at used : ℕ) (stops : List StopRow) (rows : List TrainRow) (i : ℕ) → length rows ≤ i → eqb at used ≡ walk at used stops (drop i rows)
walk_end at used stops rows i past = sym (at_drop_all (walk at used stops) rows i past ∙ and-true (eqb at used))
