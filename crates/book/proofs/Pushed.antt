-- One more at the end: a stop of the open train, a train of the book.
use Rattle.std.proofs.Common.{◌≡◌, ℕ, ◌+◌, ◌<◌, true, List, [], ◌∷◌, ◌++◌, length, drop, set, Some, None, Option, refl, arith, length-drop}
use lib.Seq.{drop-set-add}
use Rattle.std.proofs.lemmas.List.{take_more_set}
use Rattle.std.proofs.lemmas.Bool.{and_parts, and_from, eqb-true, eq-eqb}
use Rattle.book.specs.declared.rows.StopRow.{StopRow}
use Rattle.book.specs.declared.rows.TrainRow.{TrainRow}
use Rattle.book.specs.declared.state.Entry.{Entry}
use Rattle.book.specs.Stops.{stop_fault, in_order, last_of, sound}
use Rattle.book.specs.Trains.{Train, all_sound, gapless, open_stops}
use Rattle.book.specs.Answers.{longer}

pub in_order_push : (b : Option StopRow) (xs : List StopRow) (s : StopRow) → in_order b xs ≡ true → stop_fault (last_of b xs) s ≡ None → in_order b (xs ++ (s ∷ [])) ≡ true
in_order_push b [] s h e = rw e refl
in_order_push b (x ∷ xs) s h e = let p = and_parts _ _ h in and_from _ _ p.0 (in_order_push (Some x) xs s p.1 e)

pub all_sound_push : (ts : List Train) (t : Train) → all_sound ts ≡ true → sound t.number t.stops ≡ true → all_sound (ts ++ (t ∷ [])) ≡ true
all_sound_push [] t h s = and_from _ _ s refl
all_sound_push (u ∷ ts) t h s = let p = and_parts _ _ h in and_from _ _ p.0 (all_sound_push ts t p.1 s)

pub gapless_append : (at mid end : ℕ) (ps qs : List TrainRow) → gapless at mid ps ≡ true → gapless mid end qs ≡ true → gapless at end (ps ++ qs) ≡ true
gapless_append at mid end [] qs h k = let e : at ≡ mid = eqb-true at mid h in rw e k
gapless_append at mid end (p ∷ ps) qs h k = let q = and_parts _ _ h in and_from _ _ q.0 (gapless_append (at + p.count) mid end ps qs q.1 k)

pub gapless_one : (at end : ℕ) (r : TrainRow) → r.first ≡ at → at + r.count ≡ end → gapless at end (r ∷ []) ≡ true
gapless_one at end r e k = and_from _ _ (eq-eqb r.first at e) (eq-eqb (at + r.count) end k)

-- the stop that is written is the open train's next
pub open_more : (e : Entry) (ss : List StopRow) (s : StopRow) → e.book.stops + e.taken < length ss
    → open_stops (longer e) (set ss (e.book.stops + e.taken) s) ≡ open_stops e ss ++ (s ∷ [])
open_more e ss s h =
    rw (drop-set-add e.book.stops ss e.taken s)
    (take_more_set (drop e.book.stops ss) e.taken s (simp length-drop (omega arith)))
