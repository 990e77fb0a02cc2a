-- The days before a date lead from 1 January 2000 to it, and count up by one from each date to the next: so a date has one day.
use Rattle.std.proofs.Common.{◌≡◌, ℕ, zero, suc, ◌+◌, ◌-◌, ◌*◌, ◌<◌, ◌≤◌, Bool, true, false, ltb, leb, ◌&&◌, Some, None, IfSome, Result, OkIff, sym, refl, ap, ◌∙◌, subst, inl, inr, arith}
use Rattle.std.specs.Bool.{then_some}
use Rattle.std.specs.Result.{result_ok}
use Rattle.std.proofs.lemmas.Bool.{cases_lt, cond-true, cond-false, lt-ltb, le-ltb, lt-leb, leb-true, and_parts, and_left, and_right}
use Rattle.std.proofs.lemmas.Bool.Decides.{nat_tests}
use Rattle.calendar.specs.Dates.{month_length, year_length, days_through, days_of_years, on, tomorrow, after, new_year, date_of, in_calendar, days_before, day_of}
use Rattle.calendar.specs.declared.date.Date.{Date}
use Rattle.calendar.proofs.Months.{after_add, later_in_month, months, whole_year, year_through, long, long_year}

-- a date of the calendar from 2000 on
pub record Since2000 (t : Date) : Type 0 where
  pub month_least : 1 ≤ t.month
  pub month_most : t.month ≤ 12
  pub day_least : 1 ≤ t.day
  pub day_most : t.day ≤ month_length t.year t.month
  pub year_least : 2000 ≤ t.year

pub since_2000 : (t : Date) → in_calendar t ≡ true → 2000 ≤ t.year → Since2000 t
since_2000 t e h =
    let p = and_parts _ _ e in let m = and_parts _ _ p.0 in let d = and_parts _ _ p.1 in
    record { month_least = leb-true _ _ m.0; month_most = leb-true _ _ m.1; day_least = leb-true _ _ d.0; day_most = leb-true _ _ d.1; year_least = h }

-- what the test of `day_of` asks of the date itself
passes : (t : Date) → Since2000 t → (in_calendar t && leb 2000 t.year) ≡ true
passes t l = grind (arith, nat_tests)

-- ---- from the days to the date
years_from_2000 : (n : ℕ) → after (days_of_years n) (new_year 2000) ≡ new_year (2000 + n)
years_from_2000 zero = refl
years_from_2000 (suc n) =
    let next : 2000 + n + 1 ≡ 2000 + suc n = omega arith in
    after_add (days_of_years n) (year_length (2000 + n)) (new_year 2000)
    ∙ ap (after (year_length (2000 + n))) (years_from_2000 n)
    ∙ whole_year (2000 + n)
    ∙ ap new_year next

leads_to_it : (t : Date) → Since2000 t → date_of (days_before t) ≡ t
leads_to_it t l =
    let y = t.year in let m = t.month in let d = t.day in
    let year : 2000 + (y - 2000) ≡ y = omega arith in
    let month : suc (m - 1) ≡ m = omega arith in
    let day : 1 + (d - 1) ≡ d = omega arith in
    after_add (days_of_years (y - 2000) + days_through y (m - 1)) (d - 1) (new_year 2000)
    ∙ ap (after (d - 1)) (
    after_add (days_of_years (y - 2000)) (days_through y (m - 1)) (new_year 2000)
    ∙ ap (after (days_through y (m - 1))) (years_from_2000 (y - 2000) ∙ ap new_year year)
    ∙ months y (m - 1) (omega arith)
    ∙ ap (λ k. on y k 1) month)
    ∙ later_in_month y m (d - 1) 1 (omega arith)
    ∙ ap (on y m) day

-- ---- from the date to the days
pub one_more_month : (y m : ℕ) → 1 ≤ m → days_through y (m + 1 - 1) ≡ days_through y (m - 1) + month_length y m
one_more_month y m h =
    let next : m + 1 - 1 ≡ suc (m - 1) = omega arith in
    let same : suc (m - 1) ≡ m = omega arith in
    ap (days_through y) next ∙ ap (λ k. days_through y (m - 1) + month_length y k) same

pub one_more_year : (y : ℕ) → 2000 ≤ y → days_of_years (y + 1 - 2000) ≡ days_of_years (y - 2000) + year_length y
one_more_year y h =
    let next : y + 1 - 2000 ≡ suc (y - 2000) = omega arith in
    let same : 2000 + (y - 2000) ≡ y = omega arith in
    ap days_of_years next ∙ ap (λ k. days_of_years (y - 2000) + year_length k) same

-- a date that is one day further on
NextDay : Date → Date → Type 0
NextDay t next = (days_before next ≡ suc (days_before t)) × Since2000 next

one_more : (t : Date) → Since2000 t → NextDay t (tomorrow t)
unfolding tomorrow NextDay
one_more t l =
    let y = t.year in let m = t.month in let d = t.day in
    elim (cases_lt d (month_length y m)) [
      | inl lt ↦
          let next : NextDay t (on y m (d + 1)) =
          (omega arith, record { month_least = l.month_least; month_most = l.month_most; day_least = omega arith; day_most = omega arith; year_least = l.year_least }) in
          subst (NextDay t) (sym (cond-true _ _ _ (lt-ltb _ _ lt))) next
      | inr ge ↦
          subst (NextDay t) (sym (cond-false _ _ _ (le-ltb _ _ ge)))
          (elim (cases_lt m 12) [
            | inl lt ↦
                let next : NextDay t (on y (m + 1) 1) =
                (omega (arith, one_more_month y m l.month_least), record { month_least = omega arith; month_most = omega arith; day_least = omega arith; day_most = long y (m + 1); year_least = l.year_least }) in
                subst (NextDay t) (sym (cond-true _ _ _ (lt-ltb _ _ lt))) next
            | inr past ↦
                let december : m ≡ 12 = omega arith in
                let through : days_through y (m - 1) + month_length y m ≡ year_length y = rw december (year_through y) in
                let next : NextDay t (on (y + 1) 1 1) =
                (omega (arith, one_more_year y l.year_least), record { month_least = omega arith; month_most = omega arith; day_least = omega arith; day_most = long (y + 1) 1; year_least = omega arith }) in
                subst (NextDay t) (sym (cond-false _ _ _ (le-ltb _ _ past))) next
          ])
    ]

counted : (n : ℕ) (t : Date) → Since2000 t → (days_before (after n t) ≡ n + days_before t) × Since2000 (after n t)
unfolding NextDay
counted zero t l = (omega arith, l)
counted (suc n) t l =
    let next = one_more t l in
    let rest = counted n (tomorrow t) next.1 in
    (omega (arith, rest.0, next.0), rest.1)

-- ---- how many days they are: a year has 365 or 366, and a month 31 at most
year_most : (y : ℕ) → year_length y ≤ 366
year_most y = grind (arith, nat_tests)

pub years_most : (n : ℕ) → days_of_years n ≤ 366 * n
years_most zero = omega arith
years_most (suc n) = omega (arith, years_most n, year_most (2000 + n))

pub month_most : (y m : ℕ) → month_length y m ≤ 31
month_most y m = grind (arith, nat_tests)

pub months_most : (y m : ℕ) → days_through y m ≤ 31 * m
months_most y zero = omega arith
months_most y (suc m) = omega (arith, months_most y m, month_most y (suc m))

years_least : (n : ℕ) → 365 * n ≤ days_of_years n
years_least zero = omega arith
years_least (suc n) = omega (arith, years_least n, long_year (2000 + n))

-- ---- the day of a date
no_day : (t : Date) → (in_calendar t && leb 2000 t.year && ltb (days_before t) 65536) ≡ false → None ≡ day_of t
unfolding day_of
no_day t e = sym (ap (λ b. then_some b (days_before t)) e)

pub not_a_date : (t : Date) → in_calendar t ≡ false → None ≡ day_of t
not_a_date t e = no_day t (and_left _ _ (and_left _ _ e))

pub too_early : (t : Date) → t.year < 2000 → None ≡ day_of t
too_early t h = no_day t (and_left _ _ (and_right (in_calendar t) _ (lt-leb _ _ h)))

no_such_day : (t : Date) → 65536 ≤ days_before t → None ≡ day_of t
no_such_day t h = no_day t (and_right _ _ (le-ltb _ _ h))

pub too_late : (t : Date) → 2179 < t.year → None ≡ day_of t
too_late t h = no_such_day t (omega (arith, years_least (t.year - 2000)))

-- the number of days is the date's day where it fits 16 bits
pub day_that_fits : (t : Date) (n : ℕ) {E : Type 0} (r : Result ℕ E) → Since2000 t → n ≡ days_before t → OkIff r (n < 65536) n → result_ok r ≡ day_of t
unfolding day_of
day_that_fits t n r l e ok = grind (arith, nat_tests, passes t l)

found : (t : Date) → Since2000 t → days_before t < 65536 → day_of t ≡ Some (days_before t)
unfolding day_of
found t l h = rw (passes t l, lt-ltb _ _ h) refl

pub day_has_date : (t : Date) → IfSome (day_of t) (λ d. date_of d ≡ t)
unfolding day_of
day_has_date t = at_test (in_calendar t && leb 2000 t.year && ltb (days_before t) 65536) refl where
  at_test : (b : Bool) → (in_calendar t && leb 2000 t.year && ltb (days_before t) 65536) ≡ b → IfSome (then_some b (days_before t)) (λ d. date_of d ≡ t)
  at_test true e = let p = and_parts _ _ (and_parts _ _ e).0 in leads_to_it t (since_2000 t p.0 (leb-true _ _ p.1))
  at_test false e = tt

pub date_has_day : (d : ℕ) → d < 65536 → day_of (date_of d) ≡ Some d
date_has_day d h =
    let start : Since2000 (new_year 2000) = record { month_least = omega arith; month_most = omega arith; day_least = omega arith; day_most = omega arith; year_least = omega arith } in
    let n = counted d (new_year 2000) start in
    let same : days_before (date_of d) ≡ d = omega (arith, n.0) in
    found (date_of d) n.1 (omega (arith, same)) ∙ ap (λ k. Some k) same
