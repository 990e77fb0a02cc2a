-- The trains in force after any calls: a plain list that is told the two tables' lengths and each call, and sees no book, entry or table.
use Rattle.std.specs.Prelude.{ℕ, ◌≤◌, cond, List, [], ◌∷◌, ◌++◌, Some, None, Option, ◌==◌}
use Rattle.book.specs.Answers.{unless}
use Rattle.book.specs.Refusals.{begin_fault, next_fault, finish_fault, withdraw_fault}
use Rattle.book.specs.Trains.{Train}
use Rattle.book.specs.Types.{last_of_16_bits, StopTyped, TrainTyped}
use Rattle.book.specs.declared.rows.StopRow.{StopRow}

-- a call with its arguments
pub data Call : Type 0 where
  begins : (number code features : ℕ) → Call
  stops : StopRow → Call
  finishes : Call
  abandons : Call
  withdraws : (number : ℕ) → Call
  -- whatever only looks at the book and its tables
  reads : Call

-- the trains in force, and the train that is open
pub record InForce : Type 0 where
  pub trains : List Train
  pub opened : Option Train

abbrev pub none_open : List Train → InForce
none_open ts = record { trains = ts; opened = None }

abbrev pub with_open : List Train → Train → InForce
with_open ts t = record { trains = ts; opened = Some t }

-- the list without the first train that has the number
abbrev pub without : ℕ → List Train → List Train
without n [] = []
without n (t ∷ ts) = cond (t.number == n) ts (t ∷ without n ts)

abbrev pub fresh : ℕ → ℕ → ℕ → Train
fresh n c f = record { number = n; code = c; features = f; stops = [] }

abbrev pub lengthened : Train → StopRow → Train
lengthened t s = record { number = t.number; code = t.code; features = t.features; stops = t.stops ++ (s ∷ []) }

-- what the types of a call's arguments say of them. A train that begins has no stop yet
abbrev pub CallTyped : Call → Type 0
CallTyped (begins n c f) = TrainTyped (fresh n c f)
CallTyped (stops s) = StopTyped s
CallTyped finishes = Unit {0}
CallTyped abandons = Unit {0}
CallTyped (withdraws n) = n ≤ last_of_16_bits
CallTyped reads = Unit {0}

-- one call. One that is refused, or that book or entry does not allow, changes nothing
abbrev pub advance : (train_room stop_room : ℕ) → List Train → Option Train → Call → InForce
advance tr sr ts None (begins n c f) = unless (begin_fault tr ts n) (none_open ts) (with_open ts (fresh n c f))
advance tr sr ts (Some t) (begins n c f) = with_open ts t
advance tr sr ts None (stops s) = none_open ts
advance tr sr ts (Some t) (stops s) = unless (next_fault sr ts t s) (with_open ts t) (with_open ts (lengthened t s))
advance tr sr ts None finishes = none_open ts
advance tr sr ts (Some t) finishes = unless (finish_fault t) (with_open ts t) (none_open (ts ++ (t ∷ [])))
advance tr sr ts o abandons = none_open ts
advance tr sr ts None (withdraws n) = unless (withdraw_fault ts n) (none_open ts) (none_open (without n ts))
advance tr sr ts (Some t) (withdraws n) = with_open ts t
advance tr sr ts o reads = record { trains = ts; opened = o }

abbrev pub after : ℕ → ℕ → InForce → List Call → InForce
after tr sr f [] = f
after tr sr f (c ∷ cs) = after tr sr (advance tr sr f.trains f.opened c) cs

-- it starts empty, with no train open
abbrev pub in_force : (train_room stop_room : ℕ) → List Call → InForce
in_force tr sr calls = after tr sr (none_open []) calls
