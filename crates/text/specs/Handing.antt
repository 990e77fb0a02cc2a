-- How a line is read: its fields are handed out one after another, each with its place.
use Rattle.std.specs.Prelude.{ℕ, zero, suc, ◌+◌, ◌-◌, List, length, Result}
use Rattle.text.specs.Cuts.{front, behind}
use Rattle.text.specs.Saying.{seven_say}
use Rattle.text.specs.declared.fault.Fault.{Fault}
use Rattle.text.specs.declared.stop_line.StopLine.{StopLine}

-- the next field of what is left of a line, and what is left behind it and its comma
abbrev pub next_field : List ℕ → List ℕ
next_field left = front 44 left

abbrev pub after_field : List ℕ → List ℕ
after_field left = behind 44 left

-- the column of the next field
abbrev pub next_column : List ℕ → List ℕ → ℕ
next_column line left = length line - length left + 1

-- what is left of a line behind its first i fields
abbrev pub left_behind : ℕ → List ℕ → List ℕ
left_behind zero line = line
left_behind (suc i) line = left_behind i (after_field line)

-- what seven fields of the line k say, each handed out behind those ahead of it
abbrev pub says_in_turn : ℕ → List ℕ → Result StopLine Fault
says_in_turn k line = seven_say k (λ i. next_column line (left_behind i line)) (λ i. next_field (left_behind i line))
