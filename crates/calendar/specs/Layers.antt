-- The pairs of a calendar with exceptions, over those of the calendar below it.
use Rattle.std.specs.Prelude.{ℕ, Bool, cond, ◌&&◌, ◌==◌}
use Rattle.calendar.specs.Pairs.{Pairs}
use Rattle.calendar.specs.Words.{entries, word_of}
use Rattle.calendar.specs.declared.exceptions.Exceptions.{Exceptions}
use Rattle.std.specs.Option.{unwrap_or}

-- the listed word, else the answer of the calendar below
abbrev pub layered : {C : Type 0} → (C → Pairs) → Exceptions C → Pairs
layered runs t code day = unwrap_or (word_of (entries t.listed) code day) (runs t.below code day)

-- where there is room, the word at the pair, and as before at every other
abbrev pub noting : Bool → ℕ → ℕ → Bool → Pairs → Pairs
noting room code day word before c d = cond (room && (code == c && day == d)) word (before c d)
