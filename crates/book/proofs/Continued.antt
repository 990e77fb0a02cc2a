-- A call that answers by its definition continues every history before it.
use Rattle.std.proofs.Common.{◌≡◌, ℕ, List, Result, sym, subst, subst₂}
use Rattle.book.specs.declared.rows.StopRow.{StopRow}
use Rattle.book.specs.declared.rows.TrainRow.{TrainRow}
use Rattle.book.specs.declared.state.Book.{Book}
use Rattle.book.specs.declared.state.Entry.{Entry}
use Rattle.book.specs.declared.refusal.Refused.{Refused}
use Rattle.book.specs.Answers.{begin_answer, stop_answer, stop_rows, finish_answer, finish_rows, abandon_answer, withdraw_answer, withdraw_trains, withdraw_stops}
use Rattle.book.specs.Histories.{Open, Closed, begun, stopped, finished, withdrawn_to, begin, stop, finish, abandon, withdraw, read, LeadsOn}
use Rattle.book.specs.PlainList.{begins, stops, finishes, abandons, withdraws, reads, CallTyped}
use Rattle.book.proofs.KeptHistories.{every_history_holds}

module _ (ts : List TrainRow) (ss : List StopRow) where
  pub begin_leads : (b : Book) (n c x : ℕ) → CallTyped (begins n c x) → LeadsOn (Closed b) ts ss (begins n c x) (begun (begin_answer b ts ss n c x)) ts ss
  begin_leads b n c x typed tr sr calls before = let r = begin calls b ts ss n c x typed before in (r, every_history_holds tr sr _ _ ts ss r)

  pub stop_leads : (e : Entry) (s : StopRow) → CallTyped (stops s) → LeadsOn (Open e) ts ss (stops s) (stopped (stop_answer e ts ss s)) ts (stop_rows e ts ss s)
  stop_leads e s typed tr sr calls before = let r = stop calls e ts ss s typed before in (r, every_history_holds tr sr _ _ ts _ r)

  pub finish_leads : (e : Entry) → LeadsOn (Open e) ts ss finishes (finished (finish_answer e ts ss)) (finish_rows e ts ss) ss
  finish_leads e tr sr calls before = let r = finish calls e ts ss before in (r, every_history_holds tr sr _ _ _ ss r)

  pub withdraw_leads : (b : Book) (n : ℕ) → CallTyped (withdraws n) → LeadsOn (Closed b) ts ss (withdraws n) (withdrawn_to (withdraw_answer b ts ss n)) (withdraw_trains b ts ss n) (withdraw_stops b ts ss n)
  withdraw_leads b n typed tr sr calls before = let r = withdraw calls b ts ss n typed before in (r, every_history_holds tr sr _ _ _ _ r)

  pub begin_continued : (b : Book) (n c x : ℕ) (r : Result Entry (Refused Book)) → CallTyped (begins n c x) → r ≡ begin_answer b ts ss n c x
      → record { answer : r ≡ begin_answer b ts ss n c x; history : LeadsOn (Closed b) ts ss (begins n c x) (begun r) ts ss }
  begin_continued b n c x r typed a =
      record { answer = a; history = subst (λ (y : Result Entry (Refused Book)). LeadsOn (Closed b) ts ss (begins n c x) (begun y) ts ss) (sym a) (begin_leads b n c x typed) }

  pub stop_continued : (e : Entry) (s : StopRow) (r : Result Entry (Refused Entry)) (there : List StopRow) → CallTyped (stops s) → r ≡ stop_answer e ts ss s → there ≡ stop_rows e ts ss s
      → record { answer : r ≡ stop_answer e ts ss s; rows : there ≡ stop_rows e ts ss s; history : LeadsOn (Open e) ts ss (stops s) (stopped r) ts there }
  stop_continued e s r there typed a b =
      record {
        answer = a;
        rows = b;
        history = subst₂ (λ (y : Result Entry (Refused Entry)) (z : List StopRow). LeadsOn (Open e) ts ss (stops s) (stopped y) ts z) (sym a) (sym b) (stop_leads e s typed);
      }

  pub finish_continued : (e : Entry) (r : Result Book (Refused Entry)) (there : List TrainRow) → r ≡ finish_answer e ts ss → there ≡ finish_rows e ts ss
      → record { answer : r ≡ finish_answer e ts ss; rows : there ≡ finish_rows e ts ss; history : LeadsOn (Open e) ts ss finishes (finished r) there ss }
  finish_continued e r there a b =
      record {
        answer = a;
        rows = b;
        history = subst₂ (λ (y : Result Book (Refused Entry)) (z : List TrainRow). LeadsOn (Open e) ts ss finishes (finished y) z ss) (sym a) (sym b) (finish_leads e);
      }

  pub withdraw_continued : (b : Book) (n : ℕ) (r : Result Book (Refused Book)) (there : List TrainRow) (here : List StopRow)
      → CallTyped (withdraws n) → r ≡ withdraw_answer b ts ss n → there ≡ withdraw_trains b ts ss n → here ≡ withdraw_stops b ts ss n
      → record {
        answer : r ≡ withdraw_answer b ts ss n;
        trains : there ≡ withdraw_trains b ts ss n;
        stops : here ≡ withdraw_stops b ts ss n;
        history : LeadsOn (Closed b) ts ss (withdraws n) (withdrawn_to r) there here;
      }
  withdraw_continued b n r there here typed p q s =
      record {
        answer = p;
        trains = q;
        stops = s;
        history =
            subst (λ (y : Result Book (Refused Book)). LeadsOn (Closed b) ts ss (withdraws n) (withdrawn_to y) there here) (sym p)
            (subst₂ (λ (y : List TrainRow) (z : List StopRow). LeadsOn (Closed b) ts ss (withdraws n) (withdrawn_to (withdraw_answer b ts ss n)) y z) (sym q) (sym s) (withdraw_leads b n typed));
      }

pub abandon_leads : (e : Entry) (ts : List TrainRow) (ss : List StopRow) → LeadsOn (Open e) ts ss abandons (Closed (abandon_answer e)) ts ss
abandon_leads e ts ss tr sr calls before = let r = abandon calls e ts ss before in (r, every_history_holds tr sr _ _ ts ss r)

pub abandon_continued : (e : Entry) (r : Book) → r ≡ abandon_answer e
    → record { answer : r ≡ abandon_answer e; history : (ts : List TrainRow) (ss : List StopRow) → LeadsOn (Open e) ts ss abandons (Closed r) ts ss }
abandon_continued e r a =
    record { answer = a; history = λ ts ss. subst (λ (y : Book). LeadsOn (Open e) ts ss abandons (Closed y) ts ss) (sym a) (abandon_leads e ts ss) }

pub read_leads : (b : Book) (ts : List TrainRow) (ss : List StopRow) → LeadsOn (Closed b) ts ss reads (Closed b) ts ss
read_leads b ts ss tr sr calls before = let r = read calls b ts ss before in (r, every_history_holds tr sr _ _ ts ss r)
