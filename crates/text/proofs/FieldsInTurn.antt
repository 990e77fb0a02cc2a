-- Handed out one after another, the fields of a line are those that commas part, in their columns.
use Rattle.std.proofs.Common.{◌≡◌, ℕ, zero, suc, ◌+◌, ◌<◌, ◌≤◌, Bool, true, false, cond, List, [], ◌∷◌, ◌==◌, length, refl, sym, ap, ◌∙◌, arith, length-drop, length-take-le}
use Rattle.std.proofs.lemmas.Bool.{ltb-true, ltb-false}
use Rattle.std.proofs.lemmas.Bool.Decides.{nat_tests}
use Rattle.std.proofs.lemmas.List.{take_all}
use Rattle.std.proofs.lemmas.List.Splits.{slice_split_first}
use Rattle.text.specs.Cuts.{ahead, has}
use Rattle.text.specs.Handing.{next_field, after_field, next_column, left_behind, says_in_turn}
use Rattle.text.specs.Lines.{fields, field, column}
use Rattle.text.specs.Saying.{seven_say, fields_say}

no_comma : (l : List ℕ) → has 44 l ≡ false → fields l ≡ l ∷ []
no_comma [] h = refl
no_comma (b ∷ bs) h = let less = no_comma bs in grind (arith, nat_tests)

-- a line has its first field, and where it has more, then those of what is left behind it
fields_is : (l : List ℕ) (more : Bool) → has 44 l ≡ more → fields l ≡ next_field l ∷ cond more (fields (after_field l)) []
fields_is l true h = slice_split_first (λ b. b == 44) l 0 (ltb-true _ _ h)
fields_is l false h = no_comma l h ∙ ap (λ f. f ∷ []) (sym (take_all (ahead 44 l) l (ltb-false _ _ h)))

module _ (l : List ℕ) where
  record MoreFields : Type 0 where
    pub parted : fields l ≡ next_field l ∷ fields (after_field l)
    pub lengths : length l ≡ length (next_field l) + 1 + length (after_field l)

  more_fields : 1 < length (fields l) → MoreFields
  more_fields h = at_test (has 44 l) refl where
    at_test : (more : Bool) → has 44 l ≡ more → MoreFields
    at_test true e =
        let there : ahead 44 l < length l = ltb-true _ _ e in
        record { parted = fields_is l true e; lengths = omega (arith, there, length-take-le (ahead 44 l) l (omega arith), length-drop (ahead 44 l + 1) l) }
    at_test false e = absurd (omega (arith, ap length (fields_is l false e)))

-- ---- seven fields
seven_alike : (k : ℕ) (column column' : ℕ → ℕ) (field field' : ℕ → List ℕ)
    → ((i : ℕ) → i < 7 → (column i ≡ column' i) × (field i ≡ field' i)) → seven_say k column field ≡ seven_say k column' field'
seven_alike k column column' field field' same =
    let e0 = same 0 (omega arith) in let e1 = same 1 (omega arith) in let e2 = same 2 (omega arith) in let e3 = same 3 (omega arith) in
    let e4 = same 4 (omega arith) in let e5 = same 5 (omega arith) in let e6 = same 6 (omega arith) in
    rw (e0.0, e0.1, e1.0, e1.1, e2.0, e2.1, e3.0, e3.1, e4.0, e4.1, e5.0, e5.1, e6.0, e6.1) refl

-- the field i stands right behind the i fields ahead of it
in_turn : (i : ℕ) (l : List ℕ) → i < length (fields l) → (next_field (left_behind i l) ≡ field i (fields l)) × (column i (fields l) + length (left_behind i l) ≡ length l + 1) × (1 ≤ column i (fields l))
in_turn zero l h = (ap (field 0) (sym (fields_is l (has 44 l) refl)), omega arith, omega arith)
in_turn (suc i) l h =
    let more = more_fields l (omega arith) in
    let parted = more.parted in
    let less = in_turn i (after_field l) (omega (arith, ap length parted)) in
    rw parted (less.0, omega (arith, less.1, more.lengths), omega arith)

pub fields_in_turn : (k : ℕ) (line : List ℕ) → length (fields line) ≡ 7 → says_in_turn k line ≡ fields_say k (fields line)
unfolding fields_say
fields_in_turn k line seven =
    seven_alike k (λ i. next_column line (left_behind i line)) (λ i. column i (fields line)) (λ i. next_field (left_behind i line)) (λ i. field i (fields line))
    (λ i h. let turn = in_turn i line (omega arith) in (omega (arith, turn.1, turn.2), turn.0))
