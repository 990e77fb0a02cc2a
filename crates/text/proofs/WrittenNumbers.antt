-- Bytes write a number just where they are its decimal digits, with no zero ahead; and each number's digits write it.
use Rattle.std.proofs.Common.{◌≡◌, ℕ, zero, suc, ◌^◌, ◌<◌, ◌≤◌, Bool, true, false, ◌&&◌, ltb, List, [], ◌∷◌, length, get_or, Some, decimal, sym, refl, ap, ◌∙◌, subst, arith, rules}
use Rattle.std.specs.Bool.{then_some}
use Rattle.std.specs.Bool.{Decides}
use Rattle.std.specs.Str.{all_ascii_digits, bytes_eq}
use Rattle.std.proofs.lemmas.Bool.{and_parts, ltb-true, lt-ltb}
use Rattle.std.proofs.lemmas.Bool.Decides.{same_from_decides, nat_tests}
use Rattle.std.proofs.lemmas.Fmt.{digits_decimal, digits_value-decimal, decimal-digits_value, decimal_nonempty, first_decimal, decimal_digit}
use Rattle.std.proofs.lemmas.Slice.Eq.{bytes_eq-Decides}
use Rattle.std.proofs.lemmas.Str.Parse.{IsNumeralModel, numerals_by_fold}
use Rattle.text.specs.Numbers.{worth_behind, worth, number, are_digits, number_by_digits}

pub then_some_parts : {A : Type 0} (b : Bool) (a x : A) → then_some b a ≡ Some x → (b ≡ true) × (a ≡ x)
then_some_parts true a x e = (refl, cc)
then_some_parts false a x e = cc

-- ---- digits
own : IsNumeralModel (λ ds. all_ascii_digits ds ≡ true) worth
own = numerals_by_fold _ (search rules) worth_behind (search rules)

-- at least one digit, and no zero ahead of another
abbrev Digits : List ℕ → Type 0
Digits bs = (all_ascii_digits bs ≡ true) × (0 < length bs) × (get_or bs 0 0 ≡ 48 → length bs ≡ 1)

digits_told : (bs : List ℕ) → are_digits bs ≡ true → Digits bs
digits_told [] t = cc
digits_told (c ∷ []) t = grind (arith, nat_tests)
digits_told (c ∷ d ∷ cs) t = (grind (arith, nat_tests), omega arith, λ z. grind (arith, nat_tests))

digits_tell : (bs : List ℕ) → Digits bs → are_digits bs ≡ true
digits_tell [] h = absurd (omega arith)
digits_tell (c ∷ []) h = (and_parts _ _ h.0).0
digits_tell (c ∷ d ∷ cs) h = grind (arith, nat_tests)

decimal_no_zero : (n : ℕ) → n < 2 ^ 64 → get_or (decimal n) 0 0 ≡ 48 → length (decimal n) ≡ 1
decimal_no_zero zero h e = ap length (decimal_digit 0 (omega arith))
decimal_no_zero (suc n) h e = absurd (omega (arith, first_decimal (suc n) (omega arith) h))

pub decimal_are_digits : (n : ℕ) → n < 2 ^ 64 → all_ascii_digits (decimal n) ≡ true
decimal_are_digits n h = digits_decimal own n h

decimal_tells : (n : ℕ) → n < 2 ^ 64 → are_digits (decimal n) ≡ true
decimal_tells n h = digits_tell (decimal n) (decimal_are_digits n h, decimal_nonempty n h, decimal_no_zero n h)

are_digits-Decides : (bs : List ℕ) → worth bs < 2 ^ 64 → Decides (are_digits bs) (bs ≡ decimal (worth bs))
are_digits-Decides bs h = (
  λ t. let d = digits_told bs t in sym (decimal-digits_value own bs d.0 d.1 d.2 h),
  λ e. subst (λ (x : List ℕ). are_digits x ≡ true) (sym e) (decimal_tells (worth bs) h),
)

-- ---- the two tests agree
pub number_is_by_digits : (limit : ℕ) (bs : List ℕ) → limit ≤ 2 ^ 64 → number_by_digits limit bs ≡ number limit bs
unfolding number number_by_digits
number_is_by_digits limit bs most = at_test (ltb (worth bs) limit) refl where
  at_test : (t : Bool) → ltb (worth bs) limit ≡ t → then_some (are_digits bs && t) (worth bs) ≡ then_some (bytes_eq bs (decimal (worth bs)) && t) (worth bs)
  at_test true e =
      let small : worth bs < 2 ^ 64 = omega (arith, ltb-true _ _ e) in
      ap (λ (d : Bool). then_some (d && true) (worth bs)) (same_from_decides _ _ (are_digits-Decides bs small) (bytes_eq-Decides bs (decimal (worth bs))))
  at_test false e = grind (arith, nat_tests)

-- ---- a number and its bytes give each other
pub number_back : (limit : ℕ) (bs : List ℕ) (n : ℕ) → number limit bs ≡ Some n → (bs ≡ decimal n) × (n < limit)
unfolding number
number_back limit bs n e =
    let p = then_some_parts (bytes_eq bs (decimal (worth bs)) && ltb (worth bs) limit) (worth bs) n e in
    let q = and_parts _ _ p.0 in
    ((bytes_eq-Decides bs (decimal (worth bs))).0 q.0 ∙ ap decimal p.1, omega (arith, ltb-true _ _ q.1, p.1))

pub number_of_decimal : (limit n : ℕ) → n < limit → limit ≤ 2 ^ 64 → number limit (decimal n) ≡ Some n
unfolding number
number_of_decimal limit n h most =
    let v : worth (decimal n) ≡ n = digits_value-decimal own n (omega arith) in
    rw (v, (bytes_eq-Decides (decimal n) (decimal n)).1 refl, lt-ltb n limit h) refl
