-- The trains in force keep the rules.
use Rattle.std.proofs.Common.{◌≡◌, ℕ, zero, suc, ◌<◌, Bool, true, false, cond, not, ◌&&◌, eqb, ◌≢◌, List, [], ◌∷◌, ◌++◌, length, Some, None, Option, sym, refl, ap, subst, arith}
use Rattle.std.specs.List.{AllByRecursion}
use Rattle.std.proofs.lemmas.Bool.{and_parts, and_from, or_parts, or_from, not-true, not_from_false, eqb-false, ne_eqb}
use Rattle.book.specs.declared.rows.StopRow.{StopRow}
use Rattle.book.specs.declared.rows.TrainRow.{TrainRow}
use Rattle.book.specs.declared.refusal.Refusal.{Refusal}
use Rattle.book.specs.Trains.{Train, all_sound, listed, holds, known}
use Rattle.book.specs.Rules.{Rules}
use Rattle.book.specs.Answers.{unless}
use Rattle.book.specs.Refusals.{begin_reasons, begin_fault, next_fault, finish_fault, withdraw_fault}
use Rattle.book.specs.Histories.{State, Closed, Open, number_at, Lawful, EveryHistoryIsLawful}
use Rattle.book.specs.PlainList.{Call, begins, stops, finishes, abandons, withdraws, reads, InForce, none_open, with_open, without, fresh, lengthened, advance, after, in_force}
use Rattle.book.proofs.Held.{held, entry_held, length_listed, all_stops_held}
use Rattle.book.proofs.SoundIsRules.{sound_is_the_rules}
use Rattle.book.proofs.FirstReason.{none_holds}
use Rattle.book.proofs.KeptState.{Kept}
use Rattle.book.proofs.KeptHistories.{kept}

-- ---- no number twice
distinct : List Train → Bool
distinct [] = true
distinct (t ∷ ts) = not (known t.number ts) && distinct ts

known_push : (n : ℕ) (ts : List Train) (t : Train) → known n ts ≡ false → eqb t.number n ≡ false → known n (ts ++ (t ∷ [])) ≡ false
known_push n [] t h e = or_from _ _ e refl
known_push n (u ∷ ts) t h e = let p = or_parts _ _ h in or_from _ _ p.0 (known_push n ts t p.1 e)

distinct_push : (ts : List Train) (t : Train) → distinct ts ≡ true → known t.number ts ≡ false → distinct (ts ++ (t ∷ [])) ≡ true
unfolding distinct
distinct_push [] t d k = refl
distinct_push (u ∷ ts) t d k =
    let p = and_parts _ _ d in
    let q = or_parts _ _ k in
    let apart : eqb t.number u.number ≡ false = ne_eqb _ _ (λ e. eqb-false _ _ q.0 (sym e)) in
    and_from _ _ (not_from_false _ (known_push u.number ts t (not-true _ p.0) apart)) (distinct_push ts t p.1 q.1)

known_without : (m n : ℕ) (ts : List Train) → known m ts ≡ false → known m (without n ts) ≡ false
known_without m n [] h = refl
known_without m n (t ∷ ts) h =
    let p = or_parts _ _ h in
    go (eqb t.number n) p.0 p.1 (known_without m n ts p.1)
  where
    go : (b : Bool) → eqb t.number m ≡ false → known m ts ≡ false → known m (without n ts) ≡ false → known m (cond b ts (t ∷ without n ts)) ≡ false
    go true e all less = all
    go false e all less = or_from _ _ e less

distinct_without : (n : ℕ) (ts : List Train) → distinct ts ≡ true → distinct (without n ts) ≡ true
unfolding distinct
distinct_without n [] d = refl
distinct_without n (t ∷ ts) d =
    let p = and_parts _ _ d in
    go (eqb t.number n) p.1 (and_from _ _ (not_from_false _ (known_without t.number n ts (not-true _ p.0))) (distinct_without n ts p.1))
  where
    go : (b : Bool) → distinct ts ≡ true → distinct (t ∷ without n ts) ≡ true → distinct (cond b ts (t ∷ without n ts)) ≡ true
    go true all less = all
    go false all less = less

abbrev Fresh : Option Train → List Train → Type 0
Fresh None ts = Unit {0}
Fresh (Some t) ts = known t.number ts ≡ false

abbrev Apart : InForce → Type 0
Apart f = (distinct f.trains ≡ true) × Fresh f.opened f.trains

module _ (tr sr : ℕ) (ts : List Train) (d : distinct ts ≡ true) where
  begun_apart : (n c x : ℕ) (r : Option Refusal) → begin_fault tr ts n ≡ r → Apart (unless r (none_open ts) (with_open ts (fresh n c x)))
  begun_apart n c x (Some e) h = (d, tt)
  begun_apart n c x None h = (d, (none_holds (begin_reasons tr ts n) h).1.0)

  stopped_apart : (t : Train) (s : StopRow) (r : Option Refusal) → known t.number ts ≡ false → Apart (unless r (with_open ts t) (with_open ts (lengthened t s)))
  stopped_apart t s (Some e) k = (d, k)
  stopped_apart t s None k = (d, k)

  finished_apart : (t : Train) (r : Option Refusal) → known t.number ts ≡ false → Apart (unless r (with_open ts t) (none_open (ts ++ (t ∷ []))))
  finished_apart t (Some e) k = (d, k)
  finished_apart t None k = (distinct_push ts t d k, tt)

  withdrawn_apart : (n : ℕ) (r : Option Refusal) → Apart (unless r (none_open ts) (none_open (without n ts)))
  withdrawn_apart n (Some e) = (d, tt)
  withdrawn_apart n None = (distinct_without n ts d, tt)

  advance_apart : (g : Option Train) (c : Call) → Fresh g ts → Apart (advance tr sr ts g c)
  advance_apart None (begins n c x) k = begun_apart n c x (begin_fault tr ts n) refl
  advance_apart (Some t) (begins n c x) k = (d, k)
  advance_apart None (stops s) k = (d, tt)
  advance_apart (Some t) (stops s) k = stopped_apart t s (next_fault sr ts t s) k
  advance_apart None finishes k = (d, tt)
  advance_apart (Some t) finishes k = finished_apart t (finish_fault t) k
  advance_apart None abandons k = (d, tt)
  advance_apart (Some t) abandons k = (d, tt)
  advance_apart None (withdraws n) k = withdrawn_apart n (withdraw_fault ts n)
  advance_apart (Some t) (withdraws n) k = (d, k)
  advance_apart None reads k = (d, tt)
  advance_apart (Some t) reads k = (d, k)

after_apart : (tr sr : ℕ) (f : InForce) (cs : List Call) → Apart f → Apart (after tr sr f cs)
after_apart tr sr f [] a = a
after_apart tr sr f (c ∷ cs) a = after_apart tr sr (advance tr sr f.trains f.opened c) cs (advance_apart tr sr f.trains a.0 f.opened c a.1)

unknown_at : (n : ℕ) (ts : List Train) → known n ts ≡ false → (j : ℕ) → j < length ts → number_at ts j ≢ n
unknown_at n [] h j l = absurd (omega arith)
unknown_at n (t ∷ ts) h zero l = eqb-false _ _ (or_parts _ _ h).0
unknown_at n (t ∷ ts) h (suc j) l = unknown_at n ts (or_parts _ _ h).1 j (omega arith)

distinct_at : (ts : List Train) → distinct ts ≡ true → (i j : ℕ) → i < j → j < length ts → number_at ts i ≢ number_at ts j
unfolding distinct
distinct_at [] d i j l m = absurd (omega arith)
distinct_at (t ∷ ts) d i zero l m = absurd (omega arith)
distinct_at (t ∷ ts) d zero (suc j) l m = λ e. unknown_at t.number ts (not-true _ (and_parts _ _ d).0) j (omega arith) (sym e)
distinct_at (t ∷ ts) d (suc i) (suc j) l m = distinct_at ts (and_parts _ _ d).1 i j (omega arith) (omega arith)

-- ---- each keeps the rules
all_rules : (ts : List Train) → all_sound ts ≡ true → AllByRecursion (λ (t : Train). Rules t.number t.stops) ts
all_rules [] h = tt
all_rules (t ∷ ts) h = let p = and_parts _ _ h in ((sound_is_the_rules t.number t.stops).0 p.0, all_rules ts p.1)

lawful : (n s : ℕ) (ts : List TrainRow) (ss : List StopRow) → holds n s ts ss ≡ true → distinct (listed n ts ss) ≡ true → Lawful (listed n ts ss)
lawful n s ts ss h d =
    let k = held n s ts ss h in
    record {
      not_many = omega (arith, length_listed n ts ss k.trains_fit, k.few_trains);
      not_many_stops = omega (arith, all_stops_held n s ts ss h, k.few_stops);
      rules = all_rules (listed n ts ss) k.are_sound;
      distinct = distinct_at (listed n ts ss) d;
    }

lawful_kept : (tr sr : ℕ) (f : InForce) (st : State) (ts : List TrainRow) (ss : List StopRow) → Kept tr sr f st ts ss → distinct f.trains ≡ true → Lawful f.trains
lawful_kept tr sr f (Closed b) ts ss k d =
    let e = ap (λ (g : InForce). g.trains) k.same in
    subst Lawful (sym e) (lawful b.trains b.stops ts ss k.whole (subst (λ (l : List Train). distinct l ≡ true) e d))
lawful_kept tr sr f (Open y) ts ss k d =
    let e = ap (λ (g : InForce). g.trains) k.same in
    subst Lawful (sym e) (lawful y.book.trains y.book.stops ts ss (entry_held y ts ss k.whole).book (subst (λ (l : List Train). distinct l ≡ true) e d))

pub every_history_is_lawful : EveryHistoryIsLawful
unfolding distinct
every_history_is_lawful tr sr calls st ts ss history =
    lawful_kept tr sr (in_force tr sr calls) st ts ss (kept tr sr history) (after_apart tr sr (none_open []) calls (refl, tt)).0
