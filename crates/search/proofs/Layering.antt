-- Where layers begin in the table.
use Rattle.std.proofs.Common.{◌≡◌, ℕ, suc, ◌+◌, ◌*◌, ◌<◌, ◌≤◌, sym, ap, ◌∙◌, add_assoc, mul-le-mul_right, add-mul, one-mul, add-one, arith}
use Rattle.connection.specs.declared.ride.Shift.{Shift}
use Rattle.search.specs.Working.{number, layer_at, part_at}
use Rattle.book.specs.Limits.{most_stops}
use Rattle.search.specs.Limits.{most_changes, layer_size, most_records, block, blocks}
use Rattle.search.proofs.RowsAreTrains.{place_below}

-- a layer begins where the one before it ends
pub next_layer : (size k : ℕ) → layer_at size (suc k) ≡ layer_at size k + layer_size size
next_layer size k = ap (λ n. n * (layer_size size)) (sym (add-one k)) ∙ add-mul k 1 (layer_size size) ∙ ap (λ n. k * (layer_size size) + n) (one-mul (layer_size size))

pub layers_below : (size j k : ℕ) → j ≤ k → layer_at size j ≤ layer_at size k
layers_below size j k h = mul-le-mul_right {m = j} {n = k} (layer_size size) h

-- all layers that a query may ask for
layer_most : (size k : ℕ) → k ≤ most_changes + 1 → size ≤ most_stops → layer_at size k ≤ most_records
layer_most size k h few = let l = mul-le-mul_right {m = k} {n = most_changes + 1} (layer_size size) h in omega arith

-- the record of a row lies within its layer
pub record_below : (size layer : ℕ) (s : Shift) (row : ℕ) → row < size → part_at size layer s + row < layer_at size (layer + 1)
record_below size layer s row h =
    omega (arith, add_assoc (layer_at size layer) (number s * size) row, place_below s size row h, next_layer size layer, ap (layer_at size) (add-one layer))

-- among so many records as there are in blocks
pub few_records : (size layer : ℕ) (s : Shift) (row : ℕ) → row < size → size ≤ most_stops → layer ≤ most_changes → part_at size layer s + row < block * blocks
few_records size layer s row h few shallow = omega (arith, record_below size layer s row h, layer_most size (layer + 1) (omega arith) few)
