-- Bytes write a time just where they are its clock; and each clock below 100 hours writes its time.
use Rattle.std.proofs.Common.{◌≡◌, ℕ, ◌+◌, ◌*◌, ◌/◌, ◌%◌, ◌<◌, ◌≤◌, true, ◌&&◌, ltb, List, [], ◌∷◌, length, Some, sym, refl, ap, ◌∙◌, subst, arith}
use Rattle.std.specs.Bool.{then_some}
use Rattle.std.specs.Bool.{Decides}
use Rattle.std.specs.Str.{bytes_eq}
use Rattle.std.proofs.lemmas.Bool.{and_parts, eqb-true, ltb-true, lt-ltb}
use Rattle.std.proofs.lemmas.Bool.Decides.{same_from_decides, nat_tests, Decides-and, Decides-ltb}
use Rattle.std.proofs.lemmas.Slice.Eq.{bytes_eq-Decides}
use Rattle.text.specs.Times.{end_of_clock, clock, two, byte, clocked, time, are_clock_digits, is_clock, time_by_digits}
use Rattle.text.proofs.WrittenNumbers.{then_some_parts}

five : (bs : List ℕ) → length bs ≡ 5 → bs ≡ byte bs 0 ∷ byte bs 1 ∷ byte bs 2 ∷ byte bs 3 ∷ byte bs 4 ∷ []
five (a ∷ b ∷ c ∷ d ∷ f ∷ []) e = refl
five bs e = absurd (omega arith)

same_five : {a b c d e a' b' c' d' e' : ℕ} → a ≡ a' → b ≡ b' → c ≡ c' → d ≡ d' → e ≡ e'
    → ◌≡◌ {A = List ℕ} (a ∷ b ∷ c ∷ d ∷ e ∷ []) (a' ∷ b' ∷ c' ∷ d' ∷ e' ∷ [])
same_five p q r s t = cc

-- ---- four digits are those of their minute, which is below 100 hours
digits_within : (a b c d : ℕ) → are_clock_digits a b c d ≡ true → (48 ≤ a) × (a ≤ 57) × (48 ≤ b) × (b ≤ 57) × (48 ≤ c) × (c ≤ 53) × (48 ≤ d) × (d ≤ 57)
digits_within a b c d t = grind (arith, nat_tests)

clock_is : (a b c d m : ℕ) → are_clock_digits a b c d ≡ true → 60 * two a b + two c d ≡ m → (a ∷ b ∷ 58 ∷ c ∷ d ∷ [] ≡ clock m) × (m < end_of_clock)
clock_is a b c d m t is =
    let h = digits_within a b c d t in
    let hours : m / 60 ≡ two a b = omega arith in
    let rest : m % 60 ≡ two c d = omega arith in
    (rw (hours, rest) (same_five (omega arith) (omega arith) refl (omega arith) (omega arith)), omega arith)

clock_tells : (m : ℕ) → m < end_of_clock → is_clock (clock m) ≡ true
clock_tells m h = grind (arith, nat_tests)

is_clock-Decides : (bs : List ℕ) → Decides (is_clock bs) ((bs ≡ clock (clocked bs)) × (clocked bs < end_of_clock))
is_clock-Decides bs = (told, λ p. subst (λ (x : List ℕ). is_clock x ≡ true) (sym p.0) (clock_tells (clocked bs) p.1)) where
  told : is_clock bs ≡ true → (bs ≡ clock (clocked bs)) × (clocked bs < end_of_clock)
  told t =
      let p = and_parts _ _ t in let q = and_parts _ _ p.0 in
      let colon : byte bs 2 ≡ 58 = eqb-true _ _ q.1 in
      let c = clock_is (byte bs 0) (byte bs 1) (byte bs 3) (byte bs 4) (clocked bs) p.1 refl in
      (five bs (eqb-true _ _ q.0) ∙ rw colon c.0, c.1)

-- ---- the two tests agree
pub time_is_by_digits : (bs : List ℕ) → time_by_digits bs ≡ time bs
unfolding time time_by_digits
time_is_by_digits bs =
    ap (λ t. then_some t (clocked bs))
    (same_from_decides _ _ (is_clock-Decides bs) (Decides-and _ _ (bytes_eq-Decides bs (clock (clocked bs))) (Decides-ltb (clocked bs) end_of_clock)))

-- ---- a time and its bytes give each other
pub time_back : (bs : List ℕ) (m : ℕ) → time bs ≡ Some m → (bs ≡ clock m) × (m < end_of_clock)
unfolding time
time_back bs m e =
    let p = then_some_parts (bytes_eq bs (clock (clocked bs)) && ltb (clocked bs) end_of_clock) (clocked bs) m e in
    let q = and_parts _ _ p.0 in
    ((bytes_eq-Decides bs (clock (clocked bs))).0 q.0 ∙ ap clock p.1, omega (arith, ltb-true _ _ q.1, p.1))

pub time_of_clock : (m : ℕ) → m < end_of_clock → time (clock m) ≡ Some m
unfolding time
time_of_clock m h =
    let same : clocked (clock m) ≡ m = omega arith in
    rw (same, (bytes_eq-Decides (clock m) (clock m)).1 refl, lt-ltb m end_of_clock h) refl
