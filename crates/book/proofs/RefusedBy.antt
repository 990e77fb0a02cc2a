-- What an answer tells of the reason to refuse, and what the check of the tables tells of their rows.
use Rattle.std.proofs.Common.{◌≡◌, Bool, true, false, cond, List, Some, None, Ok, Err, Option, refl}
use Rattle.book.specs.Answers.{ok_unless, given_unless, check_answer}
use Rattle.book.specs.Reasons.{or_damaged}
use Rattle.book.specs.Refusals.{check_refusal}
use Rattle.book.specs.Trains.{Train, listed, holds}
use Rattle.book.specs.declared.refusal.Refusal.{Refusal}
use Rattle.book.specs.declared.refusal.Refusal.TheVariants.{Damaged}
use Rattle.book.specs.declared.rows.StopRow.{StopRow}
use Rattle.book.specs.declared.rows.TrainRow.{TrainRow}
use Rattle.book.specs.declared.state.Book.{Book}

module _ {R : Type 0} where
  pub refused_by : (r : Option R) (x : R) → Err x ≡ ok_unless r → r ≡ Some x
  refused_by None x e = absurd (cc)
  refused_by (Some y) x e = cc

  pub not_refused : (r : Option R) → Ok tt ≡ ok_unless r → r ≡ None
  not_refused None e = refl
  not_refused (Some y) e = absurd (cc)

  pub withheld_by : {A : Type 0} (r : Option R) (a : A) (x : R) → Err x ≡ given_unless r a → r ≡ Some x
  withheld_by None a x e = absurd (cc)
  withheld_by (Some y) a x e = cc

  pub given : {A : Type 0} (r : Option R) (a b : A) → Ok b ≡ given_unless r a → (r ≡ None) × (b ≡ a)
  given None a b e = (refl, cc)
  given (Some y) a b e = absurd (cc)

  -- rows that are not refused mean something
  pub not_damaged : {A : Type 0} (h : Bool) (a : A) (damaged : R) (fault : A → Option R) → or_damaged damaged (cond h (Some a) None) fault ≡ None → h ≡ true
  not_damaged true a damaged fault e = refl
  not_damaged false a damaged fault e = absurd (cc)

-- ---- the check of the tables
module _ (b : Book) (trains : List TrainRow) (stops : List StopRow) where
  pub check_passed : Ok tt ≡ check_answer b trains stops → holds b.trains b.stops trains stops ≡ true
  unfolding check_refusal
  check_passed e = not_damaged (holds b.trains b.stops trains stops) (listed b.trains trains stops) Damaged (λ (ts : List Train). None) (not_refused _ e)

  pub check_failed : (r : Refusal) → Err r ≡ check_answer b trains stops → (holds b.trains b.stops trains stops ≡ false) × (r ≡ Damaged)
  unfolding check_refusal
  check_failed r e = go (holds b.trains b.stops trains stops) (refused_by _ r e)
    where
      go : (h : Bool) → or_damaged Damaged (cond h (Some (listed b.trains trains stops)) None) (λ (ts : List Train). None) ≡ Some r → (h ≡ false) × (r ≡ Damaged)
      go true f = absurd (cc)
      go false f = (refl, cc)
