-- Whole months and whole years go by, day by day.
use Rattle.std.proofs.Common.{◌≡◌, ℕ, zero, suc, ◌+◌, ◌-◌, ◌<◌, ◌≤◌, true, false, cond, ltb, sym, refl, ap, ◌∙◌, inl, inr, suc-add, zero-add, add-one, arith}
use Rattle.std.proofs.lemmas.Bool.{cases_eq, cond-true, cond-false, lt-ltb, le-ltb}
use Rattle.std.proofs.lemmas.Bool.Decides.{nat_tests}
use Rattle.calendar.specs.Dates.{is_leap, month_length, year_length, days_through, on, tomorrow, after, new_year}
use Rattle.calendar.specs.declared.date.Date.{Date}

pub after_add : (a b : ℕ) (t : Date) → after (a + b) t ≡ after b (after a t)
after_add zero b t = ap (λ n. after n t) (zero-add b)
after_add (suc a) b t = ap (λ n. after n t) (suc-add a b) ∙ after_add a b (tomorrow t)

-- so many days are over, and `next` is reached
pub gone_by : (days over : ℕ) (t next : Date) → days ≤ over → after days t ≡ next → after (over - days) next ≡ after over t
gone_by days over t next h e =
    let whole : days + (over - days) ≡ over = omega arith in
    ap (after (over - days)) (sym e) ∙ sym (after_add days (over - days) t) ∙ ap (λ n. after n t) whole

module _ (y m : ℕ) where
  next_day : (d : ℕ) → d < month_length y m → tomorrow (on y m d) ≡ on y m (d + 1)
  unfolding tomorrow
  next_day d h = cond-true (ltb d (month_length y m)) _ _ (lt-ltb d (month_length y m) h)

  pub later_in_month : (k d : ℕ) → d + k ≤ month_length y m → after k (on y m d) ≡ on y m (d + k)
  later_in_month zero d h = let e : d ≡ d + 0 = omega arith in ap (on y m) e
  later_in_month (suc k) d h =
      let e : d + 1 + k ≡ d + suc k = omega arith in
      ap (after k) (next_day d (omega arith)) ∙ later_in_month k (d + 1) (omega arith) ∙ ap (on y m) e

  pub long : 1 ≤ month_length y m
  long = grind (arith, nat_tests)

  -- a whole month, to the day after its last
  whole : after (month_length y m) (on y m 1) ≡ tomorrow (on y m (month_length y m))
  whole =
      let n = month_length y m in
      let l = long in
      let split : n ≡ (n - 1) + 1 = omega arith in
      let last : 1 + (n - 1) ≡ n = omega arith in
      ap (λ k. after k (on y m 1)) split ∙ after_add (n - 1) 1 (on y m 1) ∙ ap tomorrow (later_in_month (n - 1) 1 (omega arith) ∙ ap (on y m) last)

  pub whole_month : m < 12 → after (month_length y m) (on y m 1) ≡ on y (m + 1) 1
  unfolding tomorrow
  whole_month h =
      whole
      ∙ cond-false (ltb (month_length y m) (month_length y m)) _ _ (le-ltb (month_length y m) (month_length y m) (omega arith))
      ∙ cond-true (ltb m 12) _ _ (lt-ltb m 12 h)

module _ (y : ℕ) where
  pub year_through : days_through y 12 ≡ year_length y
  year_through = elim (is_leap y) as (λ b. (((((((((((0 + 31) + cond b 29 28) + 31) + 30) + 31) + 30) + 31) + 31) + 30) + 31) + 30) + 31 ≡ cond b 366 365) [ true ↦ refl | false ↦ refl ]

  pub long_year : 365 ≤ year_length y
  long_year = grind (arith, nat_tests)

  -- a day of the year that is past its month is not in December
  pub not_december : (m over : ℕ) → m ≤ 12 → over + days_through y m < year_length y + month_length y m → month_length y m ≤ over → m < 12
  not_december m over within h past =
      elim (cases_eq m 12) [
        | inl e ↦ let through : days_through y m ≡ year_length y = ap (days_through y) e ∙ year_through in absurd (omega arith)
        | inr ne ↦ omega arith
      ]

  pub one_month_more : (m : ℕ) → days_through y (m + 1) ≡ days_through y m + month_length y (m + 1)
  one_month_more m = rw add-one refl

  pub months : (m : ℕ) → m < 12 → after (days_through y m) (new_year y) ≡ on y (suc m) 1
  months zero h = refl
  months (suc m) h =
      after_add (days_through y m) (month_length y (suc m)) (new_year y)
      ∙ ap (after (month_length y (suc m))) (months m (omega arith))
      ∙ whole_month y (suc m) h
      ∙ ap (λ k. on y k 1) (add-one (suc m))

  pub whole_year : after (year_length y) (new_year y) ≡ new_year (y + 1)
  unfolding tomorrow
  whole_year =
      ap (λ n. after n (new_year y)) (sym year_through)
      ∙ after_add (days_through y 11) 31 (new_year y)
      ∙ ap (after 31) (months 11 (omega arith))
      ∙ whole y 12
