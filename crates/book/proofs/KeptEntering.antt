-- Begin, stop, finish, abandon and whatever only reads keep what is kept from call to call.
use Rattle.std.proofs.Common.{◌≡◌, ℕ, ◌+◌, ◌≤◌, true, false, eqb, List, [], ◌∷◌, ◌++◌, length, take, set, Some, None, Option, sym, refl, ap, ◌∙◌, subst, ap₂, arith, length-set}
use Rattle.std.proofs.lemmas.List.{take_more_set, map_push}
use Rattle.std.proofs.lemmas.Bool.{and_from, le-leb, not_from_false}
use Rattle.book.specs.declared.rows.StopRow.{StopRow}
use Rattle.book.specs.declared.rows.TrainRow.{TrainRow}
use Rattle.book.specs.declared.state.Book.{Book}
use Rattle.book.specs.declared.state.Entry.{Entry}
use Rattle.book.specs.declared.refusal.Refusal.{Refusal}
use Rattle.book.specs.Limits.{most_stops_of_train}
use Rattle.book.specs.Stops.{in_order, sound}
use Rattle.book.specs.Trains.{Train, all_sound, gapless, trains_in, train_at, listed, open_train, open_stops, holds, entry_holds}
use Rattle.book.specs.Answers.{unless, refused_or, longer, finished_row, begin_answer, stop_answer, stop_rows, finish_answer, finish_rows, abandon_answer}
use Rattle.book.specs.Refusals.{begin_refusal, stop_refusal, finish_refusal}
use Rattle.book.proofs.Held.{held, hold_from, entry_held, entry_hold_from, length_open}
use Rattle.book.proofs.Pushed.{in_order_push, all_sound_push, gapless_append, gapless_one, open_more}
use Rattle.book.proofs.Windows.{trains_set}
use Rattle.book.proofs.RefusalTests.{begin_same, begin_held, begin_passed, stop_same, stop_held, stop_passed, finish_same, finish_held, finish_passed}
use Rattle.book.specs.Histories.{Closed, begun, stopped, finished}
use Rattle.book.specs.PlainList.{begins, stops, finishes, reads, InForce, none_open, with_open, fresh, lengthened}
use Rattle.book.proofs.KeptState.{Kept, next}

-- ---- begin
entered : Book → ℕ → ℕ → ℕ → Entry
entered b n c x = record { book = b; number = n; code = c; features = x; taken = 0; spent = false }

entered_held : (b : Book) (ts : List TrainRow) (ss : List StopRow) (n c x : ℕ) → begin_refusal b ts ss n ≡ None → entry_holds (entered b n c x) ts ss ≡ true
unfolding entered
entered_held b ts ss n c x passed =
    let h = begin_held b ts ss n passed in
    let k = held b.trains b.stops ts ss h in
    let p = begin_passed b ts ss n passed in
    entry_hold_from (entered b n c x) ts ss (record {
      book = h;
      few_trains = p.1;
      trains_fit = p.2;
      few_stops = omega (arith, k.few_stops);
      stops_fit = omega (arith, k.stops_fit);
      few_taken = refl;
      taken_in_order = refl;
    })

begin_step : (b : Book) (ts : List TrainRow) (ss : List StopRow) (n c x : ℕ) (r : Option Refusal) → holds b.trains b.stops ts ss ≡ true → begin_refusal b ts ss n ≡ r
    → Kept (length ts) (length ss) (unless r (none_open (listed b.trains ts ss)) (with_open (listed b.trains ts ss) (fresh n c x))) (begun (refused_or r b (entered b n c x))) ts ss
unfolding entered
begin_step b ts ss n c x (Some e) h refused = record { train_rows = refl; stop_rows = refl; whole = h; same = refl }
begin_step b ts ss n c x None h passed =
    record { train_rows = refl; stop_rows = refl; whole = entered_held b ts ss n c x passed; numbered = (begin_passed b ts ss n passed).0; same = refl }

pub begin_kept : (f : InForce) (b : Book) (ts : List TrainRow) (ss : List StopRow) (n c x : ℕ) → holds b.trains b.stops ts ss ≡ true → f ≡ none_open (listed b.trains ts ss)
    → Kept (length ts) (length ss) (next (length ts) (length ss) f (begins n c x)) (begun (begin_answer b ts ss n c x)) ts ss
unfolding entered
begin_kept f b ts ss n c x h same =
    let l = listed b.trains ts ss in
    subst (λ (g : InForce). Kept (length ts) (length ss) (next (length ts) (length ss) g (begins n c x)) (begun (begin_answer b ts ss n c x)) ts ss) (sym same)
    (subst (λ (r : Option Refusal). Kept (length ts) (length ss) (unless r (none_open l) (with_open l (fresh n c x))) (begun (begin_answer b ts ss n c x)) ts ss) (begin_same b ts ss n h)
    (begin_step b ts ss n c x (begin_refusal b ts ss n) h refl))

-- ---- stop
module _ (e : Entry) (ts : List TrainRow) (ss : List StopRow) (s : StopRow) where
  written : List StopRow
  written = set ss (e.book.stops + e.taken) s

  listed_written : entry_holds e ts ss ≡ true → listed e.book.trains ts written ≡ listed e.book.trains ts ss
  unfolding written
  listed_written h =
      let k = held e.book.trains e.book.stops ts ss (entry_held e ts ss h).book in
      trains_set 0 e.book.stops (take e.book.trains ts) ss (e.book.stops + e.taken) s k.no_gap k.stops_fit (omega arith)

  longer_held : entry_holds e ts ss ≡ true → stop_refusal e ts ss s ≡ None → entry_holds (longer e) ts written ≡ true
  unfolding written
  longer_held h passed =
      let p = stop_passed e ts ss s passed in
      let j = entry_held e ts ss h in
      let k = held e.book.trains e.book.stops ts ss j.book in
      let len = length-set ss (e.book.stops + e.taken) s in
      let opened = open_more e ss s p.3 in
      let fit : e.book.stops + (e.taken + 1) ≤ length written = omega (arith, p.3) in
      entry_hold_from (longer e) ts written (record {
        book = hold_from e.book.trains e.book.stops ts written (record {
          few_trains = k.few_trains;
          trains_fit = k.trains_fit;
          few_stops = k.few_stops;
          stops_fit = omega (arith, k.stops_fit);
          no_gap = k.no_gap;
          are_sound = subst (λ (l : List Train). all_sound l ≡ true) (sym (listed_written h)) k.are_sound;
        });
        few_trains = j.few_trains;
        trains_fit = j.trains_fit;
        few_stops = omega (arith, p.2);
        stops_fit = fit;
        few_taken = le-leb (length (open_stops (longer e) written)) most_stops_of_train (omega (arith, length_open (longer e) written fit, p.1));
        taken_in_order = subst (λ (xs : List StopRow). in_order None xs ≡ true) (sym opened) (in_order_push None (open_stops e ss) s j.taken_in_order p.0);
      })

  pub stop_holds : stop_refusal e ts ss s ≡ None → entry_holds (longer e) ts (set ss (e.book.stops + e.taken) s) ≡ true
  unfolding written
  stop_holds passed = longer_held (stop_held e ts ss s passed) passed

  stop_step : (r : Option Refusal) → entry_holds e ts ss ≡ true → eqb e.number 0 ≡ false → stop_refusal e ts ss s ≡ r
      → Kept (length ts) (length ss) (unless r (with_open (listed e.book.trains ts ss) (open_train e ss)) (with_open (listed e.book.trains ts ss) (lengthened (open_train e ss) s)))
      (stopped (refused_or r e (longer e))) ts (unless r ss written)
  unfolding written
  stop_step (Some x) h num refused = record { train_rows = refl; stop_rows = refl; whole = h; numbered = num; same = refl }
  stop_step None h num passed =
      record {
        train_rows = refl;
        stop_rows = length-set ss (e.book.stops + e.taken) s;
        whole = longer_held h passed;
        numbered = num;
        same = ap₂ (λ (l : List Train) (o : List StopRow). with_open l (record { number = e.number; code = e.code; features = e.features; stops = o }))
            (sym (listed_written h)) (sym (open_more e ss s (stop_passed e ts ss s passed).3));
      }

  pub stop_kept : (f : InForce) → entry_holds e ts ss ≡ true → eqb e.number 0 ≡ false → f ≡ with_open (listed e.book.trains ts ss) (open_train e ss)
      → Kept (length ts) (length ss) (next (length ts) (length ss) f (stops s)) (stopped (stop_answer e ts ss s)) ts (stop_rows e ts ss s)
  unfolding written
  stop_kept f h num same =
      let l = listed e.book.trains ts ss in
      let o = open_train e ss in
      subst (λ (g : InForce). Kept (length ts) (length ss) (next (length ts) (length ss) g (stops s)) (stopped (stop_answer e ts ss s)) ts (stop_rows e ts ss s)) (sym same)
      (subst (λ (r : Option Refusal). Kept (length ts) (length ss) (unless r (with_open l o) (with_open l (lengthened o s))) (stopped (stop_answer e ts ss s)) ts (stop_rows e ts ss s)) (stop_same e ts ss s h)
      (stop_step (stop_refusal e ts ss s) h num refl))

-- ---- finish
module _ (e : Entry) (ts : List TrainRow) (ss : List StopRow) where
  filled : List TrainRow
  filled = set ts e.book.trains (finished_row e)

  take_filled : entry_holds e ts ss ≡ true → take (e.book.trains + 1) filled ≡ take e.book.trains ts ++ (finished_row e ∷ [])
  unfolding filled
  take_filled h = take_more_set ts e.book.trains (finished_row e) (entry_held e ts ss h).trains_fit

  listed_filled : entry_holds e ts ss ≡ true → listed (e.book.trains + 1) filled ss ≡ listed e.book.trains ts ss ++ (open_train e ss ∷ [])
  listed_filled h = ap (λ (rows : List TrainRow). trains_in rows ss) (take_filled h) ∙ map_push (train_at ss) (take e.book.trains ts) (finished_row e)

  finished_held : entry_holds e ts ss ≡ true → eqb e.number 0 ≡ false → finish_refusal e ts ss ≡ None → holds (e.book.trains + 1) (e.book.stops + e.taken) filled ss ≡ true
  unfolding filled sound
  finished_held h num passed =
      let j = entry_held e ts ss h in
      let k = held e.book.trains e.book.stops ts ss j.book in
      let len = length-set ts e.book.trains (finished_row e) in
      let sound_now : sound e.number (open_stops e ss) ≡ true
      = and_from _ _ (and_from _ _ (and_from _ _ (not_from_false (eqb e.number 0) num) j.few_taken) j.taken_in_order) (finish_passed e ts ss passed) in
      hold_from (e.book.trains + 1) (e.book.stops + e.taken) filled ss (record {
        few_trains = omega (arith, j.few_trains);
        trains_fit = omega (arith, j.trains_fit);
        few_stops = j.few_stops;
        stops_fit = j.stops_fit;
        no_gap = subst (λ (rows : List TrainRow). gapless 0 (e.book.stops + e.taken) rows ≡ true) (sym (take_filled h))
            (gapless_append 0 e.book.stops (e.book.stops + e.taken) (take e.book.trains ts) (finished_row e ∷ []) k.no_gap (gapless_one e.book.stops (e.book.stops + e.taken) (finished_row e) refl refl));
        are_sound = subst (λ (l : List Train). all_sound l ≡ true) (sym (listed_filled h)) (all_sound_push (listed e.book.trains ts ss) (open_train e ss) k.are_sound sound_now);
      })

  pub finish_holds : eqb e.number 0 ≡ false → finish_refusal e ts ss ≡ None → holds (e.book.trains + 1) (e.book.stops + e.taken) (set ts e.book.trains (finished_row e)) ss ≡ true
  unfolding filled
  finish_holds num passed = finished_held (finish_held e ts ss passed) num passed

  finish_step : (r : Option Refusal) → entry_holds e ts ss ≡ true → eqb e.number 0 ≡ false → finish_refusal e ts ss ≡ r
      → Kept (length ts) (length ss) (unless r (with_open (listed e.book.trains ts ss) (open_train e ss)) (none_open (listed e.book.trains ts ss ++ (open_train e ss ∷ []))))
      (finished (refused_or r e (record { trains = e.book.trains + 1; stops = e.book.stops + e.taken }))) (unless r ts filled) ss
  unfolding filled
  finish_step (Some x) h num refused = record { train_rows = refl; stop_rows = refl; whole = h; numbered = num; same = refl }
  finish_step None h num passed =
      record {
        train_rows = length-set ts e.book.trains (finished_row e);
        stop_rows = refl;
        whole = finished_held h num passed;
        same = ap none_open (sym (listed_filled h));
      }

  pub finish_kept : (f : InForce) → entry_holds e ts ss ≡ true → eqb e.number 0 ≡ false → f ≡ with_open (listed e.book.trains ts ss) (open_train e ss)
      → Kept (length ts) (length ss) (next (length ts) (length ss) f finishes) (finished (finish_answer e ts ss)) (finish_rows e ts ss) ss
  unfolding filled
  finish_kept f h num same =
      let l = listed e.book.trains ts ss in
      let o = open_train e ss in
      subst (λ (g : InForce). Kept (length ts) (length ss) (next (length ts) (length ss) g finishes) (finished (finish_answer e ts ss)) (finish_rows e ts ss) ss) (sym same)
      (subst (λ (r : Option Refusal). Kept (length ts) (length ss) (unless r (with_open l o) (none_open (l ++ (o ∷ [])))) (finished (finish_answer e ts ss)) (finish_rows e ts ss) ss) (finish_same e ts ss h)
      (finish_step (finish_refusal e ts ss) h num refl))

-- ---- abandon
pub abandon_kept : (f : InForce) (e : Entry) (ts : List TrainRow) (ss : List StopRow) → entry_holds e ts ss ≡ true → f ≡ with_open (listed e.book.trains ts ss) (open_train e ss)
    → Kept (length ts) (length ss) (none_open f.trains) (Closed (abandon_answer e)) ts ss
abandon_kept f e ts ss h same =
    record { train_rows = refl; stop_rows = refl; whole = (entry_held e ts ss h).book; same = ap (λ (g : InForce). none_open g.trains) same }

-- ---- read
pub read_kept : (f : InForce) (b : Book) (ts : List TrainRow) (ss : List StopRow) → holds b.trains b.stops ts ss ≡ true → f ≡ none_open (listed b.trains ts ss)
    → Kept (length ts) (length ss) (next (length ts) (length ss) f reads) (Closed b) ts ss
read_kept f b ts ss h same = record { train_rows = refl; stop_rows = refl; whole = h; same = same }
