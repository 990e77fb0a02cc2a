-- The last of some stops.
use Rattle.std.proofs.Common.{◌≡◌, ℕ, suc, ◌-◌, ◌<◌, List, [], ◌∷◌, length, get_or, slice_get, Some, None, Option, sym, refl, ap, ◌∙◌, arith}
use Rattle.book.specs.declared.rows.StopRow.{StopRow}
use Rattle.book.specs.Stops.{last_of}

-- what stands past the end of a table
abbrev pub no_stop : StopRow
no_stop = record { station = 0; arrive = None; depart = None }

pub last_of_is : (b : Option StopRow) (ss : List StopRow) (d : StopRow) → 0 < length ss → last_of b ss ≡ Some (get_or ss (length ss - 1) d)
last_of_is b [] d h = absurd (omega arith)
last_of_is b (s ∷ []) d h = refl
last_of_is b (s ∷ t ∷ ss) d h =
    let e : suc (suc (length ss)) - 1 ≡ suc (suc (length ss) - 1) = omega arith in
    last_of_is (Some s) (t ∷ ss) d (omega arith) ∙ ap (λ (i : ℕ). Some (get_or (s ∷ t ∷ ss) i d)) (sym e)

last_get : (s : StopRow) (ss : List StopRow) → slice_get (s ∷ ss) (length ss) ≡ last_of (Some s) ss
last_get s [] = refl
last_get s (t ∷ ss) = last_get t ss

pub last_of_get : (ss : List StopRow) → slice_get ss (length ss - 1) ≡ last_of None ss
last_of_get [] = refl
last_of_get (s ∷ ss) = let e : length (s ∷ ss) - 1 ≡ length ss = omega arith in rw e (last_get s ss)
