-- What holds of the row that `withdraw` takes out.
use Rattle.std.proofs.Common.{◌≡◌, ℕ, ◌+◌, ◌<◌, ◌≤◌, List, length, take, None, Ok, arith, length-take-le, get_or-take}
use Rattle.book.specs.declared.rows.StopRow.{StopRow}
use Rattle.book.specs.declared.rows.TrainRow.{TrainRow}
use Rattle.book.specs.declared.state.Book.{Book}
use Rattle.book.specs.Answers.{given_unless, place, train_row}
use Rattle.book.specs.Refusals.{withdraw_refusal}
use Rattle.book.proofs.Walk.{no_row}
use Rattle.book.proofs.Held.{Held, held}
use Rattle.book.proofs.Gaps.{row_within, row_later}
use Rattle.book.proofs.RefusalTests.{withdraw_held, withdraw_passed}
use Rattle.book.proofs.RefusedBy.{given}

pub record Found (b : Book) (trains : List TrainRow) (stops : List StopRow) (k : ℕ) : Type 0 where
  pub book : Held b.trains b.stops trains stops
  pub below : k < b.trains
  pub within : (train_row k trains).first + (train_row k trains).count ≤ b.stops
  pub later : (i : ℕ) → k < i → i < b.trains → (train_row k trains).first + (train_row k trains).count ≤ (train_row i trains).first

module _ (b : Book) (trains : List TrainRow) (stops : List StopRow) (n : ℕ) (passed : withdraw_refusal b trains stops n ≡ None) where
  pub found_place : Found b trains stops (place n (take b.trains trains))
  found_place =
      let k = place n (take b.trains trains) in
      let h = held b.trains b.stops trains stops (withdraw_held b trains stops n passed) in
      let lt : k < b.trains = withdraw_passed b trains stops n passed in
      let len : length (take b.trains trains) ≡ b.trains = length-take-le b.trains trains h.trains_fit in
      let same : train_row k (take b.trains trains) ≡ train_row k trains = get_or-take b.trains trains k no_row lt in
      record {
        book = h;
        below = lt;
        within = rw same at (row_within 0 b.stops (take b.trains trains) k h.no_gap (omega arith)).1;
        later = λ i more less.
            let other : train_row i (take b.trains trains) ≡ train_row i trains = get_or-take b.trains trains i no_row less in
            rw (same, other) at (row_later 0 b.stops (take b.trains trains) k i h.no_gap more (omega arith));
      }

pub found : (b : Book) (trains : List TrainRow) (stops : List StopRow) (n k : ℕ)
    → Ok k ≡ given_unless (withdraw_refusal b trains stops n) (place n (take b.trains trains)) → Found b trains stops k
found b trains stops n k e =
    let g = given _ _ _ e in
    rw g.1 (found_place b trains stops n g.0)
