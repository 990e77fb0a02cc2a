-- Bytes that have the form of a date are shown by the date that they say.
use Rattle.std.proofs.Common.{◌≡◌, ℕ, ◌+◌, ◌-◌, ◌*◌, ◌/◌, ◌%◌, ◌^◌, ◌<◌, ◌≤◌, Bool, true, false, ◌&&◌, List, [], ◌∷◌, ◌++◌, length, IfSome, refl, ap, ◌∙◌, inl, inr, arith}
use Rattle.std.specs.Bool.{then_some}
use Rattle.std.specs.Char.{is_ascii_digit}
use Rattle.std.proofs.lemmas.Bool.{cases_lt, eqb-true, eq-eqb, and_parts}
use Rattle.std.proofs.lemmas.Bool.Decides.{nat_tests}
use Rattle.std.proofs.lemmas.Grind.{common_steps}
use Rattle.std.proofs.lemmas.Fmt.{decimal_digit, decimal_step}
use Rattle.calendar.specs.Dates.{zero_filled, on, two, are_digits, byte, has_date_form, date_said, in_calendar, date_text, date_written}

digit_within : (c : ℕ) → is_ascii_digit c ≡ true → (48 ≤ c) × (c ≤ 57)
digit_within c t = grind (arith, nat_tests)

-- ---- a digit more is written behind the others
last_digit : (k n : ℕ) → n < 2 ^ 64 → zero_filled (k + 2) n ≡ zero_filled (k + 1) (n / 10) ++ ((48 + n % 10) ∷ [])
last_digit k n fits =
    elim (cases_lt n 10) [
      | inl lt ↦
          let small : n / 10 ≡ 0 = omega arith in
          let same : n % 10 ≡ n = omega arith in
          let one = decimal_digit n lt in
          let none = decimal_digit 0 (omega arith) in
          let more : k + 2 - 1 ≡ k + 1 - 1 + 1 = omega arith in
          rw (small, same, one, none, more) (grind (arith, common_steps))
      | inr ge ↦
          let step = decimal_step n ge fits in
          rw step (grind (arith, common_steps))
    ]

one_digit : (c : ℕ) → is_ascii_digit c ≡ true → zero_filled 1 (c - 48) ≡ c ∷ []
one_digit c t =
    let w = digit_within c t in
    let same : 48 + (c - 48) ≡ c = omega arith in
    rw (decimal_digit (c - 48) (omega arith), same) refl

digit_more : (k n c : ℕ) → n < 1000 → is_ascii_digit c ≡ true → zero_filled (k + 2) (10 * n + (c - 48)) ≡ zero_filled (k + 1) n ++ (c ∷ [])
digit_more k n c h t =
    let w = digit_within c t in
    let front : (10 * n + (c - 48)) / 10 ≡ n = omega arith in
    let last : 48 + (10 * n + (c - 48)) % 10 ≡ c = omega arith in
    last_digit k (10 * n + (c - 48)) (omega arith) ∙ rw (front, last) refl

two_digits : (a b : ℕ) → are_digits a b ≡ true → zero_filled 2 (two a b) ≡ a ∷ b ∷ []
two_digits a b t =
    let p = and_parts _ _ t in let w = digit_within a p.0 in
    digit_more 0 (a - 48) b (omega arith) p.1 ∙ ap (λ bs. bs ++ (b ∷ [])) (one_digit a p.0)

four_digits : (a b c d : ℕ) → are_digits a b ≡ true → are_digits c d ≡ true → zero_filled 4 (100 * two a b + two c d) ≡ a ∷ b ∷ c ∷ d ∷ []
four_digits a b c d s t =
    let p = and_parts _ _ s in let q = and_parts _ _ t in
    let u = digit_within a p.0 in let v = digit_within b p.1 in let w = digit_within c q.0 in
    let value : 100 * two a b + two c d ≡ 10 * (10 * two a b + (c - 48)) + (d - 48) = omega arith in
    ap (zero_filled 4) value
    ∙ digit_more 2 (10 * two a b + (c - 48)) d (omega arith) q.1
    ∙ ap (λ bs. bs ++ (d ∷ [])) (digit_more 1 (two a b) c (omega arith) q.0 ∙ ap (λ bs. bs ++ (c ∷ [])) (two_digits a b s))

-- ---- ten bytes
pub text_of_digits : (a b c d e f g h : ℕ) → are_digits a b ≡ true → are_digits c d ≡ true → are_digits e f ≡ true → are_digits g h ≡ true
    → date_text (on (100 * two a b + two c d) (two e f) (two g h)) ≡ a ∷ b ∷ c ∷ d ∷ 45 ∷ e ∷ f ∷ 45 ∷ g ∷ h ∷ []
text_of_digits a b c d e f g h s t u v = rw (four_digits a b c d s t, two_digits e f u, two_digits g h v) refl

ten : (bs : List ℕ) → length bs ≡ 10 → byte bs 4 ≡ 45 → byte bs 7 ≡ 45
    → byte bs 0 ∷ byte bs 1 ∷ byte bs 2 ∷ byte bs 3 ∷ 45 ∷ byte bs 5 ∷ byte bs 6 ∷ 45 ∷ byte bs 8 ∷ byte bs 9 ∷ [] ≡ bs
ten (a ∷ b ∷ c ∷ d ∷ x ∷ e ∷ f ∷ y ∷ g ∷ h ∷ []) n p q = rw (p, q) refl
ten bs n p q = absurd (omega arith)

-- ---- the test, part by part
pub record HasForm (bs : List ℕ) : Type 0 where
  pub ten_bytes : length bs ≡ 10
  pub first_dash : byte bs 4 ≡ 45
  pub second_dash : byte bs 7 ≡ 45
  pub century : are_digits (byte bs 0) (byte bs 1) ≡ true
  pub year : are_digits (byte bs 2) (byte bs 3) ≡ true
  pub month : are_digits (byte bs 5) (byte bs 6) ≡ true
  pub day : are_digits (byte bs 8) (byte bs 9) ≡ true

parts : (bs : List ℕ) → has_date_form bs ≡ true → HasForm bs
parts bs t =
    let p = and_parts _ _ t in let dashed = and_parts _ _ p.0 in let dashes = and_parts _ _ dashed.1 in
    let upto_day = and_parts _ _ p.1 in let upto_month = and_parts _ _ upto_day.0 in let year = and_parts _ _ upto_month.0 in
    record {
      ten_bytes = eqb-true _ _ dashed.0;
      first_dash = eqb-true _ _ dashes.0;
      second_dash = eqb-true _ _ dashes.1;
      century = year.0;
      year = year.1;
      month = upto_month.1;
      day = upto_day.1;
    }

pub written_in_form : (bs : List ℕ) → HasForm bs → then_some (in_calendar (date_said bs)) (date_said bs) ≡ date_written bs
unfolding date_written
written_in_form bs f = rw (eq-eqb _ _ f.ten_bytes, eq-eqb _ _ f.first_dash, eq-eqb _ _ f.second_dash, f.century, f.year, f.month, f.day) refl

-- ---- the text of what is read
text_said : (bs : List ℕ) → HasForm bs → date_text (date_said bs) ≡ bs
text_said bs f =
    text_of_digits (byte bs 0) (byte bs 1) (byte bs 2) (byte bs 3) (byte bs 5) (byte bs 6) (byte bs 8) (byte bs 9) f.century f.year f.month f.day
    ∙ ten bs f.ten_bytes f.first_dash f.second_dash

pub written_text : (bs : List ℕ) → IfSome (date_written bs) (λ t. date_text t ≡ bs)
unfolding date_written
written_text bs = at_test (has_date_form bs && in_calendar (date_said bs)) refl where
  at_test : (b : Bool) → (has_date_form bs && in_calendar (date_said bs)) ≡ b → IfSome (then_some b (date_said bs)) (λ t. date_text t ≡ bs)
  at_test true e = text_said bs (parts bs (and_parts _ _ e).0)
  at_test false e = tt
