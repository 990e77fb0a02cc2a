-- After every history the rows hold the trains in force.
use Rattle.std.proofs.Common.{◌≡◌, ℕ, cond, List, [], ◌∷◌, ◌++◌, length, Some, None, sym, ap, ◌∙◌, subst, subst₂}
use Rattle.book.specs.Trains.{listed, open_train}
use Rattle.book.specs.declared.rows.StopRow.{StopRow}
use Rattle.book.specs.declared.rows.TrainRow.{TrainRow}
use Rattle.book.specs.Answers.{new_book, begin_answer, stop_answer, stop_rows, finish_answer, finish_rows, abandon_answer, withdraw_answer, withdraw_trains, withdraw_stops}
use Rattle.book.specs.Histories.{State, Closed, Open, begun, stopped, finished, withdrawn_to, History, new, begin, stop, finish, abandon, withdraw, read, RowsHold, EveryHistoryHolds}
use Rattle.book.specs.PlainList.{Call, begins, stops, finishes, abandons, withdraws, reads, InForce, none_open, in_force}
use Rattle.book.proofs.KeptState.{Kept, next, after_one_more, new_kept}
use Rattle.book.proofs.KeptEntering.{begin_kept, stop_kept, finish_kept, abandon_kept, read_kept}
use Rattle.book.proofs.KeptWithdrawing.{withdraw_kept}

-- ---- every history
module _ (tr sr : ℕ) where
  one_more : (cs : List Call) (c : Call) (st : State) (ts : List TrainRow) (ss : List StopRow) (lt ls : ℕ) → lt ≡ tr → ls ≡ sr
      → Kept lt ls (next lt ls (in_force tr sr cs) c) st ts ss → Kept tr sr (in_force tr sr (cs ++ (c ∷ []))) st ts ss
  one_more cs c st ts ss lt ls p q k =
      subst (λ (f : InForce). Kept tr sr f st ts ss) (sym (after_one_more tr sr (none_open []) cs c))
      (subst₂ (λ (t s : ℕ). Kept t s (next t s (in_force tr sr cs) c) st ts ss) p q k)

  pub kept : {cs : List Call} {st : State} {ts : List TrainRow} {ss : List StopRow} → History tr sr cs st ts ss → Kept tr sr (in_force tr sr cs) st ts ss
  kept (new ts ss p q) = subst₂ (λ (t s : ℕ). Kept t s (none_open []) (Closed new_book) ts ss) p q (new_kept ts ss)
  kept (begin cs b ts ss n c x typed before) =
      let k = kept before in
      one_more cs (begins n c x) (begun (begin_answer b ts ss n c x)) ts ss (length ts) (length ss) k.train_rows k.stop_rows
      (begin_kept (in_force tr sr cs) b ts ss n c x k.whole k.same)
  kept (stop cs e ts ss s typed before) =
      let k = kept before in
      one_more cs (stops s) (stopped (stop_answer e ts ss s)) ts (stop_rows e ts ss s) (length ts) (length ss) k.train_rows k.stop_rows
      (stop_kept e ts ss s (in_force tr sr cs) k.whole k.numbered k.same)
  kept (finish cs e ts ss before) =
      let k = kept before in
      one_more cs finishes (finished (finish_answer e ts ss)) (finish_rows e ts ss) ss (length ts) (length ss) k.train_rows k.stop_rows
      (finish_kept e ts ss (in_force tr sr cs) k.whole k.numbered k.same)
  kept (abandon cs e ts ss before) =
      let k = kept before in
      one_more cs abandons (Closed (abandon_answer e)) ts ss (length ts) (length ss) k.train_rows k.stop_rows
      (abandon_kept (in_force tr sr cs) e ts ss k.whole k.same)
  kept (withdraw cs b ts ss n typed before) =
      let k = kept before in
      one_more cs (withdraws n) (withdrawn_to (withdraw_answer b ts ss n)) (withdraw_trains b ts ss n) (withdraw_stops b ts ss n) (length ts) (length ss) k.train_rows k.stop_rows
      (withdraw_kept b ts ss n (in_force tr sr cs) k.whole k.same)
  kept (read cs b ts ss before) =
      let k = kept before in
      one_more cs reads (Closed b) ts ss (length ts) (length ss) k.train_rows k.stop_rows
      (read_kept (in_force tr sr cs) b ts ss k.whole k.same)

  holds_kept : (f : InForce) (st : State) (ts : List TrainRow) (ss : List StopRow) → Kept tr sr f st ts ss → RowsHold f st ts ss
  holds_kept f (Closed b) ts ss k =
      (ap (λ h. cond h (Some (listed b.trains ts ss)) None) k.whole ∙ ap (λ (g : InForce). Some g.trains) (sym k.same), ap (λ (g : InForce). g.opened) k.same)
  holds_kept f (Open e) ts ss k =
      (ap (λ h. cond h (Some (listed e.book.trains ts ss, open_train e ss)) None) k.whole ∙ ap (λ (g : InForce). Some (g.trains, open_train e ss)) (sym k.same), ap (λ (g : InForce). g.opened) k.same)

pub every_history_holds : EveryHistoryHolds
every_history_holds tr sr calls st ts ss before = holds_kept tr sr (in_force tr sr calls) st ts ss (kept tr sr before)
