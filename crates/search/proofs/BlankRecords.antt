-- Tables that are blank from a place on.
use Rattle.std.proofs.Common.{◌≡◌, true, T, ◌&&◌, ◌⊎◌, inl, inr, subst, eqb, eqb→eq, ℕ, zero, suc, ◌+◌, ◌-◌, ◌<◌, ◌≤◌, ◌≢◌, List, [], ◌∷◌, ◌++◌, length, get_or, set, take, drop, replicate, Some, None, Option, sym, refl, ap, ◌∙◌, ap₂, arith, get_or-set_other}
use Rattle.std.proofs.lemmas.List.{set-get_or, get_or_past, get_or-take, get_or-drop, get_or-append_right, length-replicate, length-take-le, replicate-append-replicate}
use Rattle.std.proofs.lemmas.Slice.{take-put_mid, take-put_mid_below, drop-put_mid}
use borrow.Rule.Slice.PartMut.{put_mid}
use Rattle.std.proofs.lemmas.Bool.{cases_lt}
use Rattle.std.specs.Option.{is_none}
use Rattle.connection.specs.declared.label.Label.{Label}
use Rattle.connection.proofs.Tests.{both_left, both_right}
use Rattle.search.specs.Answers.{work_left}
use Rattle.search.specs.Layers.{BlankFrom}
use Rattle.search.specs.Records.{blank, is_blank, record_of, label_of}
use Rattle.search.specs.Working.{label_at}
use Rattle.search.specs.declared.record.WorkRecord.{WorkRecord}
use Rattle.search.specs.declared.refusal.Refusal.{Refusal}

module _ {A : Type 0} where
  pub blank_less : (b c : ℕ) (table : List (WorkRecord A)) → b ≤ c → BlankFrom b table → BlankFrom c table
  blank_less b c table l h z k = h z (omega arith)

  pub blank_label : (b at : ℕ) (table : List (WorkRecord A)) → BlankFrom b table → b ≤ at → label_at table at ≡ None
  blank_label b at table h l = ap label_of (h at l)

  -- no label is written to a blank record by leaving it as it is
  pub blank_kept : (at : ℕ) (table : List (WorkRecord A)) → BlankFrom at table → table ≡ set table at (record_of None)
  blank_kept at table h = sym (ap (set table at) (sym (h at (omega arith))) ∙ set-get_or table at blank)

  pub blank_behind : (at : ℕ) (old new : List (WorkRecord A)) (o : Option (Label A)) → BlankFrom at old → new ≡ set old at (record_of o) → BlankFrom (at + 1) new
  blank_behind at old new o h e z l =
      let ne : z ≢ at = omega (arith, l) in
      ap (λ t. get_or t z blank) e ∙ get_or-set_other old at z (record_of o) blank ne ∙ h z (omega (arith, l))

  -- ---- blank tables
  pub blank_replicate : (n : ℕ) → BlankFrom 0 (replicate n (blank {A = A}))
  blank_replicate zero z l = refl
  blank_replicate (suc n) zero l = refl
  blank_replicate (suc n) (suc z) l = blank_replicate n z (omega arith)

  pub rest_blank : (n : ℕ) (table : List (WorkRecord A)) → BlankFrom n table → drop n table ≡ replicate (length table - n) blank
  rest_blank zero [] h = let none : 0 ≡ 0 - 0 = omega arith in ap (λ k. replicate k blank) none
  rest_blank zero (r ∷ table) h =
      let shorter : length table - 0 ≡ length table = omega arith in
      let all : suc (length table) ≡ suc (length table) - 0 = omega arith in
      ap₂ (λ x l. x ∷ l) (h 0 (omega arith)) (rest_blank zero table (λ z l. h (suc z) (omega arith)) ∙ ap (λ k. replicate k blank) shorter) ∙ ap (λ k. replicate k blank) all
  rest_blank (suc n) [] h = let none : 0 ≡ 0 - suc n = omega arith in ap (λ k. replicate k blank) none
  rest_blank (suc n) (r ∷ table) h =
      let same : length table - n ≡ suc (length table) - suc n = omega arith in
      rest_blank n table (λ z l. h (suc z) (omega (arith, l))) ∙ ap (λ k. replicate k blank) same

  -- the first n are blanked, and behind them all were blank
  pub all_blank : (n : ℕ) (table : List (WorkRecord A)) → n ≤ length table → BlankFrom n table → replicate n blank ++ drop n table ≡ replicate (length table) blank
  all_blank n table l h =
      let whole : n + (length table - n) ≡ length table = omega (arith, l) in
      ap (λ r. replicate n blank ++ r) (rest_blank n table h) ∙ replicate-append-replicate n (length table - n) blank ∙ ap (λ k. replicate k blank) whole

  -- ---- one record after another is blanked
  pub blanked : (n : ℕ) (table : List (WorkRecord A)) → length table ≤ n → ((z : ℕ) → z < n → get_or table z blank ≡ blank) → table ≡ replicate (length table) blank
  blanked n table all h = all_blank 0 table (omega arith) (λ z l. go z (cases_lt z n))
    where
      go : (z : ℕ) → (z < n) ⊎ (n ≤ z) → get_or table z blank ≡ blank
      go z (inl l) = h z l
      go z (inr l) = get_or_past table z blank (omega (arith, all, l))

  -- ---- a part is blanked
  module _ (a k : ℕ) (table : List (WorkRecord A)) (room : a + k ≤ length table) where
    abbrev pub with_part : List (WorkRecord A)
    with_part = put_mid a k table (replicate k blank)

    pub part_blank : (z : ℕ) → a ≤ z → z < a + k → get_or with_part z blank ≡ blank
    part_blank z low high =
        sym (get_or-take (a + k) with_part z blank high)
        ∙ ap (λ t. get_or t z blank) (take-put_mid a k table (replicate k blank) (a + k) (ap (λ n. a + n) (sym (length-replicate {A = WorkRecord A} k blank))) (omega arith))
        ∙ get_or-append_right (take a table) (replicate k blank) a z blank (length-take-le a table (omega arith)) low
        ∙ blank_replicate k (z - a) (omega arith)

    outside : (z : ℕ) → (z < a) ⊎ (a + k ≤ z) → get_or with_part z blank ≡ get_or table z blank
    outside z (inl l) =
        sym (get_or-take a with_part z blank l)
        ∙ ap (λ t. get_or t z blank) (take-put_mid_below a k table (replicate k blank) a (omega arith) (omega arith))
        ∙ get_or-take a table z blank l
    outside z (inr g) =
        let e : a + k + (z - (a + k)) ≡ z = omega arith in
        ap (λ i. get_or with_part i blank) (sym e)
        ∙ sym (get_or-drop (a + k) with_part (z - (a + k)) blank)
        ∙ ap (λ t. get_or t (z - (a + k)) blank) (drop-put_mid a k table (replicate k blank) (a + k) (omega arith) (omega arith) (length-replicate {A = WorkRecord A} k blank))
        ∙ get_or-drop (a + k) table (z - (a + k)) blank
        ∙ ap (λ i. get_or table i blank) e

    -- what was blank still is
    pub still_blank : (z : ℕ) → get_or table z blank ≡ blank → get_or with_part z blank ≡ blank
    still_blank z was =
        elim (cases_lt z a) [
          | inl l ↦ outside z (inl l) ∙ was
          | inr low ↦ elim (cases_lt z (a + k)) [ inl high ↦ part_blank z low high | inr g ↦ outside z (inr g) ∙ was ]
        ]

  same : (r : WorkRecord A) → r.total ≡ None → r.board ≡ 0 → r.from ≡ 0 → r ≡ blank
  same r et eb ef i = record { total = et i; board = eb i; from = ef i }

  -- a record that looks blank is
  pub is_blank_is : (r : WorkRecord A) → is_blank r ≡ true → r ≡ blank
  is_blank_is r e = go r.total refl (eqb→eq r.board 0 (both_left (eqb r.board 0) _ numbers)) (eqb→eq r.from 0 (both_right (eqb r.board 0) _ numbers))
    where
      numbers : T (eqb r.board 0 && eqb r.from 0)
      numbers = both_right (is_none r.total) _ (subst T (sym e) tt)

      none : T (is_none r.total)
      none = both_left (is_none r.total) _ (subst T (sym e) tt)

      go : (t : Option A) → r.total ≡ t → r.board ≡ 0 → r.from ≡ 0 → r ≡ blank
      go None et eb ef = same r et eb ef
      go (Some x) et eb ef = absurd (subst (λ (o : Option A). T (is_none o)) et none)

  -- a search leaves a blank table blank
  pub left_blank : (refusal : Option Refusal) (table : List (WorkRecord A)) → BlankFrom 0 table → work_left refusal table ≡ table
  left_blank (Some r) table h = refl
  left_blank None table h = sym (all_blank 0 table (omega arith) h)
