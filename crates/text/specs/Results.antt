-- What goes on from a result that is there.
use Rattle.std.specs.Prelude.{Ok, Err, Result}

abbrev pub and_then : {A B E : Type 0} → Result A E → (A → Result B E) → Result B E
and_then (Ok a) on = on a
and_then (Err e) on = Err e
