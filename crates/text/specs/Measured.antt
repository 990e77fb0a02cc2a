-- How much room is left behind a text, and what its lines are known to be.
use Rattle.std.specs.Prelude.{◌≡◌, ℕ, ◌+◌, ◌<◌, Option, MatchOption}
use Rattle.std.specs.List.{AllByRecursion}
use Rattle.book.specs.Trains.{Train}
use Rattle.book.specs.declared.rows.StopRow.{StopRow}
use Rattle.text.specs.Written.{Typed, stop_of}

-- what is left of `room` behind n bytes, if they fit
abbrev pub LeftBehind : ℕ → ℕ → Option ℕ → Type 0
LeftBehind room n left = MatchOption left (room < n) (λ rest. rest + n ≡ room)

abbrev pub LinesTyped : Train → Type 0
LinesTyped t = AllByRecursion (λ (s : StopRow). Typed (stop_of t s)) t.stops
