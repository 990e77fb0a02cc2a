-- The listed exceptions: whether a pair has room, and what a change or one more makes of the list.
use Rattle.std.proofs.Common.{◌≡◌, ℕ, zero, suc, ◌<◌, Bool, true, false, cond, ◌||◌, ltb, List, [], ◌∷◌, ◌++◌, length, length-take, get_or, get_or-take, set, Some, None, sym, refl, ap, ◌∙◌, arith}
use Rattle.std.specs.List.{list_any, position, slice_get}
use lib.Seq.{take-set-lt}
use Rattle.std.proofs.lemmas.Bool.{cond-true, cond-false, or_left}
use Rattle.std.proofs.lemmas.Grind.{common_steps}
use Rattle.std.proofs.lemmas.List.Folds.{list_any_at}
use Rattle.std.proofs.lemmas.List.Quantifiers.{position-Some}
use Rattle.std.proofs.lemmas.Option.{get_or_from_slice_get}
use Rattle.calendar.specs.Lending.{with_record}
use Rattle.calendar.specs.Limits.{most_exceptions}
use Rattle.calendar.specs.Words.{is_for, marked, entries, place, has_room, with_word, noted}
use Rattle.calendar.specs.declared.exceptions.Exception.{Exception}
use Rattle.calendar.specs.declared.exceptions.Listed.{Listed}

none_passes : {X : Type 0} (p : X → Bool) (xs : List X) → position p xs ≡ None → list_any p xs ≡ false
none_passes p [] h = refl
none_passes p (x ∷ xs) h = grind (arith, common_steps, none_passes p xs)

module _ (code day : ℕ) where
  -- the pair has room where it is listed, and else where the list does
  pub room_listed : (l : Listed) (i : ℕ) (d : Exception) → place (entries l) code day ≡ Some i → has_room l code day ≡ true
  room_listed l i d h =
      let at = position-Some (λ e. is_for e code day) (entries l) i d h in
      or_left _ _ (list_any_at (λ e. is_for e code day) (entries l) i d at.0 at.1)

  pub room_unlisted : (l : Listed) → place (entries l) code day ≡ None → has_room l code day ≡ ltb l.count most_exceptions
  room_unlisted l h = ap (λ b. b || ltb l.count most_exceptions) (none_passes (λ e. is_for e code day) (entries l) h)

  module _ (word : Bool) where
    -- the first that is for the pair is marked, and where none is, the pair comes last
    with_at : (es : List Exception) (i : ℕ) (d : Exception) → i < length es → is_for (get_or es i d) code day ≡ true → ((k : ℕ) → k < i → is_for (get_or es k d) code day ≡ false) → with_word es code day word ≡ set es i (marked (get_or es i d) word)
    with_at [] i d h here before = absurd (omega arith)
    with_at (e ∷ es) zero d h here before = cond-true _ _ _ here
    with_at (e ∷ es) (suc i) d h here before =
        cond-false _ _ _ (before 0 (omega arith)) ∙ ap (λ xs. e ∷ xs) (with_at es i d (omega arith) here (λ k l. before (suc k) (omega arith)))

    with_last : (es : List Exception) → list_any (λ e. is_for e code day) es ≡ false → with_word es code day word ≡ es ++ (record { code = code; day = day; runs = word } ∷ [])
    with_last [] h = refl
    with_last (e ∷ es) h = grind (arith, common_steps, with_last es)

    -- the list that noting leaves, where the pair is listed and where it is new
    pub noted_listed : (l : Listed) (i : ℕ) (e : Exception) → place (entries l) code day ≡ Some i → slice_get l.records i ≡ Some e → entries (with_record l i (marked e word)) ≡ noted l code day word
    noted_listed l i e h there =
        let at = position-Some (λ e. is_for e code day) (entries l) i e h in
        let near : i < l.count = omega (arith, length-take l.count l.records, at.0) in
        let same : get_or (entries l) i e ≡ e = get_or-take l.count l.records i e near ∙ get_or_from_slice_get l.records i e e there in
        take-set-lt l.count l.records i (marked e word) near ∙ ap (λ x. set (entries l) i (marked x word)) (sym same)
        ∙ sym (with_at (entries l) i e at.0 at.1 at.2) ∙ sym (cond-true _ _ _ (room_listed l i e h))

    pub noted_unlisted : (l : Listed) → place (entries l) code day ≡ None → cond (ltb l.count most_exceptions) (entries l ++ (record { code = code; day = day; runs = word } ∷ [])) (entries l) ≡ noted l code day word
    noted_unlisted l h =
        let last = with_last (entries l) (none_passes (λ e. is_for e code day) (entries l) h) in
        ap (λ es. cond (ltb l.count most_exceptions) es (entries l)) (sym last) ∙ ap (λ b. cond b (with_word (entries l) code day word) (entries l)) (sym (room_unlisted l h))
