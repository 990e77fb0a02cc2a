-- Where the stops of a row stand, in rows without a gap.
use Rattle.std.proofs.Common.{◌≡◌, ℕ, zero, suc, ◌+◌, ◌<◌, ◌≤◌, true, eqb, List, [], ◌∷◌, length, arith}
use Rattle.std.proofs.lemmas.Bool.{and_parts, eqb-true}
use Rattle.book.specs.declared.rows.TrainRow.{TrainRow}
use Rattle.book.specs.Trains.{gapless}
use Rattle.book.specs.Answers.{train_row}

-- what a first row says of itself, and leaves to the rest
pub gapless_first : (at end : ℕ) (r : TrainRow) (rs : List TrainRow) → gapless at end (r ∷ rs) ≡ true → (r.first ≡ at) × (gapless (at + r.count) end rs ≡ true)
gapless_first at end r rs h =
    let p = and_parts (eqb r.first at) (gapless (at + r.count) end rs) h in
    (eqb-true r.first at p.0, p.1)

pub gapless_ends : (at end : ℕ) (rows : List TrainRow) → gapless at end rows ≡ true → at ≤ end
gapless_ends at end [] h = let e = eqb-true at end h in omega arith
gapless_ends at end (r ∷ rs) h = let k = gapless_ends (at + r.count) end rs (gapless_first at end r rs h).1 in omega arith

pub row_within : (at end : ℕ) (rows : List TrainRow) (i : ℕ) → gapless at end rows ≡ true → i < length rows
    → (at ≤ (train_row i rows).first) × ((train_row i rows).first + (train_row i rows).count ≤ end)
row_within at end [] i h l = absurd (omega arith)
row_within at end (r ∷ rs) zero h l =
    let p = gapless_first at end r rs h in
    let k = gapless_ends (at + r.count) end rs p.1 in
    (omega arith, omega arith)
row_within at end (r ∷ rs) (suc i) h l =
    let k = row_within (at + r.count) end rs i (gapless_first at end r rs h).1 (omega arith) in
    (omega arith, k.1)

pub row_later : (at end : ℕ) (rows : List TrainRow) (j i : ℕ) → gapless at end rows ≡ true → j < i → i < length rows
    → (train_row j rows).first + (train_row j rows).count ≤ (train_row i rows).first
row_later at end [] j i h l m = absurd (omega arith)
row_later at end (r ∷ rs) j zero h l m = absurd (omega arith)
row_later at end (r ∷ rs) zero (suc i) h l m =
    let p = gapless_first at end r rs h in
    let k = row_within (at + r.count) end rs i p.1 (omega arith) in
    omega arith
row_later at end (r ∷ rs) (suc j) (suc i) h l m = row_later (at + r.count) end rs j i (gapless_first at end r rs h).1 (omega arith) (omega arith)
