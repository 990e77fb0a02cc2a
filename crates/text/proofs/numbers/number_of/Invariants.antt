use Rattle.std.proofs.Common.{◌≡◌, ◌+◌, ◌≤◌, drop}
use Rattle.text.specs.Numbers.{number_by_digits}
use Rattle.text.proofs.Digits.{rest_number}
use Rattle.text.proofs.numbers.number_of.Given as goal

abbrev pub invariant-loop-byte : goal.invariant-loop-byte
invariant-loop-byte l = (rest_number (l.most + 1) l.n (drop l.byte-index l.field) ≡ number_by_digits (l.most + 1) l.field) × (l.n ≤ l.most)
