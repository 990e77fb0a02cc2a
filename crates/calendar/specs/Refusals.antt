-- The number under which each refusal is known, and what it says.
use Rattle.std.specs.Prelude.{ℕ, List, codes}
use Rattle.calendar.specs.declared.refusal.Refusal.{Refusal}
use Rattle.calendar.specs.declared.refusal.Refusal.TheVariants.{Full, Backwards}

abbrev pub number : Refusal → ℕ
number Full = 23
number Backwards = 24

-- its text, by its bytes
abbrev pub text_of : Refusal → List ℕ
text_of Full = codes "64 exceptions are listed, and none of them is for this pair"
text_of Backwards = codes "a row's first day is after its last"
