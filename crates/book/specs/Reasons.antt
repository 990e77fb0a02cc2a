-- Why something is refused: reasons in the order in which they are looked for, each beside the test of whether it holds.
use Rattle.std.specs.Prelude.{Bool, cond, List, [], ◌∷◌, Some, None, Option}

-- the reason of the first test that holds
abbrev pub first_of : {R : Type 0} → List (Bool × R) → Option R
first_of [] = None
first_of (r ∷ rest) = cond r.0 (Some r.1) (first_of rest)

-- where the rows of a book mean nothing, that they are damaged is the reason, and no other counts; else what they mean decides
abbrev pub or_damaged : {A R : Type 0} → R → Option A → (A → Option R) → Option R
or_damaged damaged None fault = Some damaged
or_damaged damaged (Some a) fault = fault a
