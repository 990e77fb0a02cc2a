-- The best change of a chain is the best change at its station.
use Rattle.std.proofs.Common.{◌≡◌, ℕ, suc, ◌<◌, ◌≤◌, Bool, true, false, cond, ◌&&◌, ◌||◌, T, get_or, is_some, Some, None, Option, option_map, sym, refl, ap, ◌∙◌, subst, inl, inr, arith}
use Rattle.std.proofs.lemmas.Bool.{cases_lt}
use Rattle.std.proofs.lemmas.Option.{same_Some}
use Rattle.tariff.specs.Laws.{Connex, Transitive}
use Rattle.tariff.specs.Meaning.{Meaning}
use Rattle.book.specs.declared.rows.StopRow.{StopRow}
use Rattle.connection.specs.Choosing.{only_when, cheaper}
use Rattle.connection.specs.Rides.{can_catch, may_alight, reaches_at}
use Rattle.connection.specs.Settled.{no_dearer}
use Rattle.connection.specs.Ways.{Either, Best}
use Rattle.connection.specs.declared.label.Label.{Label}
use Rattle.connection.specs.declared.query.Query.{Query}
use Rattle.connection.specs.declared.ride.Shift.{Shift}
use Rattle.connection.proofs.Best.{refl_from, best_same, best_cheaper}
use Rattle.connection.proofs.CaughtTrains.{has_come_by_then}
use Rattle.connection.proofs.Tests.{both_left, both_right, both_from, is_true}
use Rattle.search.specs.Boarding.{changed, ChangesAt, Changes}
use Rattle.search.specs.Chains.{never, comes, ArrivesAt, Link, Chained, behind}
use Rattle.search.specs.Limits.{layer_size}
use Rattle.search.specs.Working.{size_of, stop_in, row_reaches, place}
use Rattle.search.specs.declared.chains.Arrivals.{Arrivals}
use Rattle.search.specs.declared.inquiry.Inquiry.{Inquiry}
use Rattle.search.specs.declared.run.Onward.{Onward}
use Rattle.search.proofs.Chosen.{chosen_connex, chosen_trans}
use Rattle.search.proofs.RowsAreTrains.{place_below, same_place}

-- where one may alight, that is when one comes
pub comes_in : (q : Query) (stop : StopRow) (s : Shift) → T (may_alight stop) → comes q stop s ≡ reaches_at q s stop
comes_in q stop s off = ap (λ b. cond b (reaches_at q s stop) never) (is_true (may_alight stop) off)

-- so to catch a train by that minute is to alight and to catch it
pub comes_and_catches : (q : Query) (stop : StopRow) (s : Shift) (until : ℕ) → until < never → can_catch (comes q stop s) until ≡ (may_alight stop && can_catch (reaches_at q s stop) until)
comes_and_catches q stop s until sometime = go (may_alight stop)
  where
    go : (b : Bool) → can_catch (cond b (reaches_at q s stop) never) until ≡ (b && can_catch (reaches_at q s stop) until)
    go true = refl
    go false = nobody (can_catch never until) refl
      where
        nobody : (b : Bool) → can_catch never until ≡ b → b ≡ false
        nobody true e = absurd (omega (arith, has_come_by_then never until (subst T (sym e) tt)))
        nobody false e = refl

-- what the labels of the places from b on make
abbrev pub ChangesFrom : {A : Type 0} (m : Meaning A) {P : Type 0} (inquiry : Inquiry P) (label : Shift → ℕ → Option (Label A)) (onward : Onward) (b : ℕ) → Label A → Type 0
ChangesFrom m inquiry label onward b l =
    (s : Shift) × (row : ℕ) × (b ≤ place (size_of inquiry) s row) × ChangesAt m inquiry label onward s row l

module _ {A : Type 0} (m : Meaning A) (connex : Connex m) (transitive : Transitive m) {P : Type 0} (inquiry : Inquiry P) (label : Shift → ℕ → Option (Label A)) (onward : Onward) where
  abbrev At : Shift → ℕ → Label A → Type 0
  At = ChangesAt m inquiry label onward

  abbrev From : ℕ → Label A → Type 0
  From = ChangesFrom m inquiry label onward

  label_connex : (a b : Label A) → T (no_dearer m a b || no_dearer m b a)
  label_connex = chosen_connex m connex transitive (λ (l : Label A). l.total)

  label_trans : (a b c : Label A) → T (no_dearer m a b) → T (no_dearer m b c) → T (no_dearer m a c)
  label_trans = chosen_trans m connex transitive (λ (l : Label A). l.total)

  held_none : {B : Type 0} (s : Shift) (row : ℕ) (l : Label A) → At s row l → label s row ≡ None → B
  held_none s row l c none = let z : ◌≡◌ {A = ℕ} 0 1 = cc (sym c.held ∙ none) in absurd (omega arith)

  -- ---- one place
  module _ (s : Shift) (row : ℕ) (inside : row < size_of inquiry) (here : (stop_in inquiry row).station ≡ onward.station) where
    abbrev pub test : Bool
    test = may_alight (stop_in inquiry row) && can_catch (row_reaches inquiry s row) onward.minute

    abbrev pub made : Label A → Label A
    made = changed m (row_reaches inquiry s row) (place (size_of inquiry) s row) onward

    one_change : (b : Bool) → test ≡ b → (o : Option (Label A)) → label s row ≡ o → Best (no_dearer m) (At s row) (only_when b (option_map made o))
    one_change false e o f =
        λ l x. let z : T (test) = both_from (may_alight (stop_in inquiry row)) _ x.off x.in_time in subst T e z
    one_change true e None f = λ l x. held_none s row l x f
    one_change true e (Some l) f =
        let t : T test = subst T (sym e) tt in (
          record { inside = inside; here = here; off = both_left (may_alight (stop_in inquiry row)) _ t; in_time = both_right (may_alight (stop_in inquiry row)) _ t; before = l; held = f; is = refl },
          λ u x. subst (λ (w : Label A). T (no_dearer m (made l) w)) (ap made (same_Some l x.before (sym f ∙ x.held)) ∙ sym x.is) (refl_from (no_dearer m) label_connex (made l)),
        )

    -- ---- and the one ahead of it in the chain
    module _ (x : ℕ) (is : x ≡ place (size_of inquiry) s row) (next : Option ℕ) (link : Link inquiry label onward.station x next) where
      to : (l : Label A) → Either (From (suc x)) (At s row) l → From (behind next) l
      to l (inl c) = (c.0, c.1, omega (arith, c.2, link.ahead), c.3)
      to l (inr c) = (s, row, omega (arith, is, link.ahead), c)

      from : (l : Label A) → From (behind next) l → Either (From (suc x)) (At s row) l
      from l c =
          let s' = c.0 in
          let row' = c.1 in
          elim (cases_lt (place (size_of inquiry) s' row') x) [
            | inl g ↦ held_none s' row' l c.3 (link.passed_over s' row' c.3.inside c.2 g c.3.here)
            | inr g ↦
                elim (cases_lt x (place (size_of inquiry) s' row')) [
                  | inl h ↦ inl (s', row', omega (arith, h), c.3)
                  | inr h ↦
                      let e = same_place s' s (size_of inquiry) row' row c.3.inside inside (omega (arith, g, h, is)) in
                      inr (subst (λ (r : ℕ). At s r l) e.1 (subst (λ (t : Shift). At t row' l) e.0 c.3))
                ]
          ]

      pub changes_next : (best o p best' : Option (Label A)) → o ≡ label s row → p ≡ only_when test (option_map made o) → best' ≡ cheaper (no_dearer m) best p → Best (no_dearer m) (From (suc x)) best → Best (no_dearer m) (From (behind next)) best'
      changes_next best o p best' eo ep eb b =
          let one = one_change test refl o (sym eo) in
          subst (Best (no_dearer m) (From (behind next))) (sym (eb ∙ ap (cheaper (no_dearer m) best) ep))
          (best_same (no_dearer m) (Either (From (suc x)) (At s row)) (From (behind next)) _ to from (best_cheaper (no_dearer m) label_connex label_trans (From (suc x)) (At s row) best _ b one))

  -- ---- all places: from the end of the layer to its start
  pub changes_start : (next : Option ℕ) → Link inquiry label onward.station (layer_size (size_of inquiry)) next → Best (no_dearer m) (From (behind next)) None
  changes_start next link =
      λ l c. held_none c.0 c.1 l c.3 (link.passed_over c.0 c.1 c.3.inside c.2 (place_below c.0 (size_of inquiry) c.1 c.3.inside) c.3.here)

  pub changes_all : (best : Option (Label A)) → Best (no_dearer m) (From 0) best → Best (no_dearer m) (Changes m inquiry label onward) best
  changes_all best b =
      best_same (no_dearer m) (From 0) (Changes m inquiry label onward) best (λ l c. (c.0, (c.1, c.3))) (λ l c. (c.0, c.1.0, omega arith, c.1.1)) b

-- where nobody has come to the station by then, there is no change
pub no_changes : {A : Type 0} (m : Meaning A) {P : Type 0} (inquiry : Inquiry P) (label : Shift → ℕ → Option (Label A)) (arrivals : Arrivals A) (onward : Onward) → Chained inquiry label (layer_size (size_of inquiry)) arrivals → onward.minute < get_or arrivals.earliest onward.station never → Best (no_dearer m) (Changes m inquiry label onward) None
no_changes m inquiry label arrivals onward chained soon l c =
    let there = c.1.1 in
    let size = size_of inquiry in
    let who : ArrivesAt inquiry label onward.station (place size c.0 c.1.0) = record { shift = c.0; row = c.1.0; inside = there.inside; is = refl; here = there.here; labelled = ap is_some there.held } in
    let came = chained.not_before onward.station (place size c.0 c.1.0) (place_below c.0 size c.1.0 there.inside) who in
    absurd (omega (arith, came, comes_in inquiry.query.now (stop_in inquiry c.1.0) c.0 there.off, has_come_by_then (row_reaches inquiry c.0 c.1.0) onward.minute there.in_time))
