-- By how many minutes a train is missed, stop by stop.
use Rattle.std.proofs.Common.{◌≡◌, ℕ, ◌+◌, ◌<◌, ◌≤◌, true, false, ◌⊎◌, min, List, sym, refl, ap, ◌∙◌, subst, inl, inr, arith, ◌&&◌, leb, ap₂, Bool}
use Rattle.std.proofs.lemmas.Bool.{cases_lt, lt-leb, le-leb}
use Rattle.book.specs.Answers.{train_row}
use Rattle.book.specs.declared.rows.StopRow.{StopRow}
use Rattle.book.specs.declared.rows.TrainRow.{TrainRow}
use Rattle.connection.specs.Clock.{midnight}
use Rattle.connection.specs.Rides.{may_board}
use Rattle.connection.specs.declared.query.Query.{Query}
use Rattle.connection.specs.declared.ride.Shift.{Shift}
use Rattle.connection.specs.declared.ride.Shift.TheVariants.{DayBefore, SameDay, DayAfter}
use Rattle.search.specs.Chains.{missed_at, never, OutOfReach, WithinReach}
use Rattle.search.specs.declared.chains.Arrivals.{Arrivals}
use Rattle.search.specs.declared.inquiry.Inquiry.{Inquiry}
use Rattle.search.specs.Working.{stop_in}

module _ {P A : Type 0} (inquiry : Inquiry P) (k : ℕ) (arrivals : Arrivals A) (n : ℕ) where
  abbrev rows : List TrainRow
  rows = inquiry.trains.now

  abbrev q : Query
  q = inquiry.query.now

  abbrev stop : ℕ → StopRow
  stop i = stop_in inquiry ((train_row n rows).first + i)

  abbrev late : ℕ → ℕ
  late i = missed_at arrivals k q (stop i)

  -- fewest is the least of that at the first stops, if one may board there
  pub record MissedBy (upto fewest : ℕ) : Type 0 where
    pub at_most : (i : ℕ) → i < upto → may_board (stop i) ≡ true → fewest ≤ late i
    pub is_one : (fewest ≡ never) ⊎ ((i : ℕ) × (i < upto) × (may_board (stop i) ≡ true) × (late i ≡ fewest))

  pub missed_none : MissedBy 0 never
  missed_none = record { at_most = λ i h. absurd (omega arith); is_one = inl refl }

  -- ---- one stop more
  module _ (i fewest : ℕ) (so_far : MissedBy i fewest) where
    pub missed_over : may_board (stop i) ≡ false → MissedBy (i + 1) fewest
    missed_over none =
        record {
          at_most = λ j h b. elim (cases_lt j i) [
            | inl l ↦ so_far.at_most j l b
            | inr g ↦ let e : j ≡ i = omega arith in let z : true ≡ false = sym b ∙ ap (λ x. may_board (stop x)) e ∙ none in absurd (let y : ◌≡◌ {A = ℕ} 0 1 = cc in omega arith)
          ];
          is_one = elim so_far.is_one [ inl e ↦ inl e | inr w ↦ inr (w.0, omega (arith, w.1), w.2, w.3) ];
        }

    pub missed_more : may_board (stop i) ≡ true → MissedBy (i + 1) (min fewest (late i))
    missed_more may =
        record {
          at_most = λ j h b. elim (cases_lt j i) [
            | inl l ↦ omega (arith, so_far.at_most j l b)
            | inr g ↦ let e : i ≡ j = omega arith in subst (λ (x : ℕ). min fewest (late i) ≤ late x) e (omega arith)
          ];
          is_one = elim (cases_lt (late i) fewest) [
            | inl l ↦ inr (i, omega arith, may, omega arith)
            | inr g ↦ elim so_far.is_one [ inl e ↦ inl (omega (arith, e)) | inr w ↦ inr (w.0, omega (arith, w.1), w.2, omega (arith, w.3)) ]
          ];
        }

  -- ---- all stops
  no_day : (s : Shift) → midnight q s < never
  no_day DayBefore = omega arith
  no_day SameDay = omega arith
  no_day DayAfter = omega arith

  module _ (fewest : ℕ) (all : MissedBy (train_row n rows).count fewest) (s : Shift) where
    pub out_of_reach : midnight q s < fewest → OutOfReach inquiry k arrivals n s
    out_of_reach h i li = go (may_board (stop i)) refl
      where
        go : (b : Bool) → may_board (stop i) ≡ b → (b && leb (late i) (midnight q s)) ≡ false
        go false e = refl
        go true e = lt-leb (late i) (midnight q s) (omega (arith, all.at_most i li e))

    pub within_reach : fewest ≤ midnight q s → WithinReach inquiry k arrivals n s
    within_reach h =
        elim all.is_one [
          | inl e ↦ absurd (omega (arith, e, no_day s))
          | inr w ↦ (w.0, w.1, ap₂ (λ a b. a && b) w.2 (le-leb (late w.0) (midnight q s) (omega (arith, w.3))))
        ]
