-- What is chosen by its total is the best.
use Rattle.std.proofs.Common.{◌≡◌, Bool, ◌||◌, T, Some, None, Option, refl, subst}
use Rattle.std.proofs.lemmas.Option.{none-some, same_Some}
use Rattle.tariff.specs.Laws.{Connex, Transitive}
use Rattle.tariff.specs.Meaning.{Meaning}
use Rattle.connection.specs.Choosing.{cheaper}
use Rattle.connection.specs.Ways.{Best}
use Rattle.connection.proofs.Best.{refl_from}
use Rattle.search.specs.Working.{costs_at_most}

module _ {A L : Type 0} (m : Meaning A) (connex : Connex m) (transitive : Transitive m) (total : L → A) where
  abbrev pub no_dearer : L → L → Bool
  no_dearer = costs_at_most m total

  pub chosen_connex : (a b : L) → T (no_dearer a b || no_dearer b a)
  chosen_connex a b = connex (total a) (total b)

  pub chosen_trans : (a b c : L) → T (no_dearer a b) → T (no_dearer b c) → T (no_dearer a c)
  chosen_trans a b c = transitive (total a) (total b) (total c)

  -- what there is, is the best of itself
  pub itself : (o : Option L) → Best no_dearer (λ l. o ≡ Some l) o
  itself None = none-some
  itself (Some a) = (refl, λ l e. subst (λ (w : L). T (no_dearer a w)) (same_Some a l e) (refl_from no_dearer chosen_connex a))

-- nothing is chosen besides what there is
pub cheaper_none : {L : Type 0} (at_most : L → L → Bool) (o : Option L) → o ≡ cheaper at_most o None
cheaper_none at_most None = refl
cheaper_none at_most (Some a) = refl
