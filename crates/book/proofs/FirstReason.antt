-- `first_of` gives none just where no test holds, never a reason that is not listed, and of two lists in a row the first one's reason, else the second's.
use Rattle.std.proofs.Common.{◌≡◌, ◌≢◌, Bool, true, false, List, [], ◌∷◌, ◌++◌, Some, None, refl, ap₂, ◌∙◌}
use Rattle.std.specs.List.{AllByRecursion}
use Rattle.std.specs.Option.{option_or}
use Rattle.book.specs.Reasons.{first_of}

module _ {R : Type 0} where
  abbrev pub NoneHolds : List (Bool × R) → Type 0
  NoneHolds reasons = AllByRecursion (λ (r : Bool × R). r.0 ≡ false) reasons

  -- ---- no reason
  pub none_holds : (reasons : List (Bool × R)) → first_of reasons ≡ None → NoneHolds reasons
  none_holds [] e = tt
  none_holds ((true, r) ∷ rest) e = absurd (cc)
  none_holds ((false, r) ∷ rest) e = (refl, none_holds rest e)

  pub no_reason : (reasons : List (Bool × R)) → NoneHolds reasons → first_of reasons ≡ None
  no_reason [] h = refl
  no_reason (r ∷ rest) h = rw h.0 (no_reason rest h.1)

  -- ---- a reason that the list does not give
  pub never_first : (reasons : List (Bool × R)) (reason : R) → AllByRecursion (λ (r : Bool × R). r.1 ≢ reason) reasons → first_of reasons ≢ Some reason
  never_first [] reason others e = cc
  never_first ((true, r) ∷ rest) reason others e = others.0 (cc)
  never_first ((false, r) ∷ rest) reason others e = never_first rest reason others.1 e

  -- ---- two lists in a row
  pub first_of-append : (reasons more : List (Bool × R)) → first_of (reasons ++ more) ≡ option_or (first_of reasons) (first_of more)
  first_of-append [] more = refl
  first_of-append ((true, r) ∷ rest) more = refl
  first_of-append ((false, r) ∷ rest) more = first_of-append rest more

  pub none_of_both : (reasons more : List (Bool × R)) → first_of reasons ≡ None → first_of more ≡ None → first_of (reasons ++ more) ≡ None
  none_of_both reasons more e f = first_of-append reasons more ∙ ap₂ option_or e f
