-- After every history each refusal is the plain list's.
use Rattle.std.proofs.Common.{◌≡◌, ℕ, true, List, None, sym, refl, ap, ◌∙◌}
use Rattle.book.specs.Histories.{State, Closed, Open, RefusalsAgree, EveryRefusalAgrees}
use Rattle.book.specs.PlainList.{InForce, in_force}
use Rattle.book.specs.Refusals.{check_refusal, begin_fault, next_fault, withdraw_fault}
use Rattle.book.specs.Trains.{holds, listed, open_train}
use Rattle.book.specs.declared.rows.StopRow.{StopRow}
use Rattle.book.specs.declared.rows.TrainRow.{TrainRow}
use Rattle.book.specs.declared.state.Book.{Book}
use Rattle.book.proofs.KeptState.{Kept}
use Rattle.book.proofs.RefusalTests.{begin_same, stop_same, finish_same, withdraw_same}
use Rattle.book.proofs.KeptHistories.{kept}

read_same : (b : Book) (ts : List TrainRow) (ss : List StopRow) → holds b.trains b.stops ts ss ≡ true → check_refusal b ts ss ≡ None
unfolding check_refusal
read_same b ts ss h = rw h refl

agree : (tr sr : ℕ) (f : InForce) (st : State) (ts : List TrainRow) (ss : List StopRow) → Kept tr sr f st ts ss → RefusalsAgree tr sr f st ts ss
agree tr sr f (Closed b) ts ss k =
    let trains : listed b.trains ts ss ≡ f.trains = sym (ap (λ (g : InForce). g.trains) k.same) in (
      read_same b ts ss k.whole,
      λ n. begin_same b ts ss n k.whole ∙ ap (λ r. begin_fault r (listed b.trains ts ss) n) k.train_rows ∙ ap (λ l. begin_fault tr l n) trains,
      λ n. withdraw_same b ts ss n k.whole ∙ ap (λ l. withdraw_fault l n) trains,
    )
agree tr sr f (Open e) ts ss k =
    let trains : listed e.book.trains ts ss ≡ f.trains = sym (ap (λ (g : InForce). g.trains) k.same) in (
      λ s. stop_same e ts ss s k.whole ∙ ap (λ r. next_fault r (listed e.book.trains ts ss) (open_train e ss) s) k.stop_rows ∙ ap (λ l. next_fault sr l (open_train e ss) s) trains,
      finish_same e ts ss k.whole,
    )

pub every_refusal_agrees : EveryRefusalAgrees
every_refusal_agrees tr sr calls st ts ss history = agree tr sr (in_force tr sr calls) st ts ss (kept tr sr history)
