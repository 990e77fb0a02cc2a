-- A train that is taken out: the rows that are left, and the trains that they hold.
use Rattle.std.proofs.Common.{◌≡◌, ℕ, zero, suc, ◌+◌, ◌-◌, ◌<◌, ◌≤◌, Bool, true, false, cond, eqb, List, [], ◌∷◌, ◌++◌, map, length, get_or, take, drop, sym, refl, ap, ◌∙◌, ap₂, arith, length-append, length-drop, length-take-le, get_or-drop, get_or-take, take-take, take_at}
use lib.ListN.{length-map}
use Rattle.std.proofs.lemmas.List.{get_or_append_left, get_or-append_right, drop-take, map-id}
use Rattle.std.proofs.lemmas.Bool.{and_parts, and_from, eq-eqb}
use Rattle.book.specs.declared.rows.StopRow.{StopRow}
use Rattle.book.specs.declared.rows.TrainRow.{TrainRow}
use Rattle.book.specs.Stops.{sound}
use Rattle.book.specs.Trains.{Train, all_sound, gapless, trains_in, train_at}
use Rattle.book.specs.Answers.{closed_up, place, train_row}
use Rattle.book.specs.PlainList.{without}
use Rattle.book.proofs.Gaps.{gapless_first}

-- ---- a table after `closed_up`
module _ {A : Type 0} (f : A → A) (at count used : ℕ) (rows : List A) (part : at + count ≤ used) (fit : used ≤ length rows) where
  behind : List A
  behind = map f (take (used - (at + count)) (drop (at + count) rows))

  length_behind : length behind ≡ used - (at + count)
  unfolding behind
  length_behind =
      length-map (take (used - (at + count)) (drop (at + count) rows)) f
      ∙ length-take-le (used - (at + count)) (drop (at + count) rows) (simp length-drop (omega arith))

  length_kept : length (take at rows ++ behind) ≡ used - count
  length_kept =
      let a = length-take-le at rows (omega arith) in
      let b = length_behind in
      length-append (take at rows) behind ∙ omega arith

  pub length_closed_up : length (closed_up f at count used rows) ≡ length rows
  unfolding behind
  length_closed_up =
      let a = length_kept in
      let b = length-drop (used - count) rows in
      length-append (take at rows ++ behind) (drop (used - count) rows) ∙ omega arith

  -- the rows that are still in use
  pub take_closed_up : take (used - count) (closed_up f at count used rows) ≡ take at (take used rows) ++ map f (drop (at + count) (take used rows))
  unfolding behind
  take_closed_up =
      let m : (at + count) + (used - (at + count)) ≡ used = omega arith in
      let d : drop (at + count) (take used rows) ≡ take (used - (at + count)) (drop (at + count) rows)
      = ap (λ (x : ℕ). drop (at + count) (take x rows)) (sym m) ∙ drop-take (at + count) (used - (at + count)) rows in
      take_at (take at rows ++ behind) (drop (used - count) rows) (used - count) length_kept
      ∙ ap₂ (λ (x y : List A). x ++ map f y) (sym (take-take at used rows (omega arith))) (sym d)

-- ---- the stop table
module _ (at count used : ℕ) (ss : List StopRow) (part : at + count ≤ used) (fit : used ≤ length ss) where
  abbrev closed : List StopRow
  closed = closed_up (λ (s : StopRow). s) at count used ss

  pub before_closed : (i : ℕ) (d : StopRow) → i < at → get_or closed i d ≡ get_or ss i d
  unfolding behind
  before_closed i d less =
      let n = length_kept (λ (s : StopRow). s) at count used ss part fit in
      let a = length-take-le at ss (omega arith) in
      get_or_append_left (take at ss ++ behind (λ (s : StopRow). s) at count used ss part fit) (drop (used - count) ss) d i (omega arith)
      ∙ get_or_append_left (take at ss) (behind (λ (s : StopRow). s) at count used ss part fit) d i (omega arith)
      ∙ get_or-take at ss i d less

  pub after_closed : (i : ℕ) (d : StopRow) → at + count ≤ i → i < used → get_or closed (i - count) d ≡ get_or ss i d
  unfolding behind
  after_closed i d more less =
      let n = length_kept (λ (s : StopRow). s) at count used ss part fit in
      let a = length-take-le at ss (omega arith) in
      let j : (at + count) + ((i - count) - at) ≡ i = omega arith in
      get_or_append_left (take at ss ++ behind (λ (s : StopRow). s) at count used ss part fit) (drop (used - count) ss) d (i - count) (omega arith)
      ∙ get_or-append_right (take at ss) (behind (λ (s : StopRow). s) at count used ss part fit) at (i - count) d a (omega arith)
      ∙ ap (λ (xs : List StopRow). get_or xs ((i - count) - at) d) (map-id (take (used - (at + count)) (drop (at + count) ss)))
      ∙ get_or-take (used - (at + count)) (drop (at + count) ss) ((i - count) - at) d (omega arith)
      ∙ get_or-drop (at + count) ss ((i - count) - at) d
      ∙ ap (λ (x : ℕ). get_or ss x d) j

-- ---- the train rows
pub gapless_parts : (at end : ℕ) (rows : List TrainRow) (k : ℕ) → gapless at end rows ≡ true → k < length rows
    → (gapless at (train_row k rows).first (take k rows) ≡ true) × (gapless ((train_row k rows).first + (train_row k rows).count) end (drop (suc k) rows) ≡ true)
gapless_parts at end [] k h l = absurd (omega arith)
gapless_parts at end (r ∷ rs) zero h l =
    let p = gapless_first at end r rs h in
    (eq-eqb at r.first (sym p.0), rw p.0 p.1)
gapless_parts at end (r ∷ rs) (suc k) h l =
    let p = gapless_first at end r rs h in
    let q = gapless_parts (at + r.count) end rs k p.1 (omega arith) in
    (and_from _ _ (eq-eqb r.first at p.0) q.0, q.1)

pub without_is : (n : ℕ) (rows : List TrainRow) (ss : List StopRow) → place n rows < length rows
    → without n (trains_in rows ss) ≡ trains_in (take (place n rows) rows) ss ++ trains_in (drop (suc (place n rows)) rows) ss
without_is n [] ss l = absurd (omega arith)
without_is n (r ∷ rs) ss l = go (eqb r.number n) l (without_is n rs ss)
  where
    go : (b : Bool) → cond b 0 (suc (place n rs)) < suc (length rs)
        → (place n rs < length rs → without n (trains_in rs ss) ≡ trains_in (take (place n rs) rs) ss ++ trains_in (drop (suc (place n rs)) rs) ss)
        → cond b (trains_in rs ss) (train_at ss r ∷ without n (trains_in rs ss))
        ≡ trains_in (take (cond b 0 (suc (place n rs))) (r ∷ rs)) ss ++ trains_in (drop (suc (cond b 0 (suc (place n rs)))) (r ∷ rs)) ss
    go true h ih = refl
    go false h ih = ap {B = List Train} (λ (ts : List Train). train_at ss r ∷ ts) (ih (omega arith))

pub all_sound_without : (n : ℕ) (ts : List Train) → all_sound ts ≡ true → all_sound (without n ts) ≡ true
all_sound_without n [] h = refl
all_sound_without n (t ∷ ts) h =
    let p = and_parts _ _ h in
    go (eqb t.number n) p.0 p.1 (all_sound_without n ts p.1)
  where
    go : (b : Bool) → sound t.number t.stops ≡ true → all_sound ts ≡ true → all_sound (without n ts) ≡ true → all_sound (cond b ts (t ∷ without n ts)) ≡ true
    go true here rest less = rest
    go false here rest less = and_from _ _ here less
