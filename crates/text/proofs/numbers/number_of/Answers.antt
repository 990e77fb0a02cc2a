use Rattle.std.proofs.Common.{◌≡◌, ◌+◌, ◌<◌, ◌≤◌, ◌^◌, length, get_or, drop, Some, sym, ◌∙◌, arith, rules}
use Rattle.std.proofs.lemmas.Grind.{common_steps}
use Rattle.std.proofs.lemmas.List.{at_drop_more}
use Rattle.text.specs.Numbers.{number_by_digits}
use Rattle.text.proofs.Digits.{rest_number, no_digit, number_start, number_empty, number_zero_ahead}
use Rattle.text.proofs.WrittenNumbers.{number_is_by_digits}
use Rattle.text.proofs.numbers.number_of.Goals.{in_default, in_default-2}
use Rattle.text.proofs.numbers.number_of.Goals as goal

pub returns-in-empty : goal.returns-in-empty
returns-in-empty c =
    let few : c.args.most + 1 ≤ 2 ^ 64 = search rules in
    let none = number_empty (c.args.most + 1) c.args.field.now (search rules) in
    record { value = none ∙ number_is_by_digits _ _ few; digits = none }

pub returns-in-empty-2 : goal.returns-in-empty-2
returns-in-empty-2 c =
    let few : c.args.most + 1 ≤ 2 ^ 64 = search rules in
    let none = number_zero_ahead (c.args.most + 1) c.args.field.now (search rules) (search rules) in
    record { value = none ∙ number_is_by_digits _ _ few; digits = none }

pub loop-byte-init : goal.loop-byte-init
loop-byte-init c =
    let start = number_start (c.args.most + 1) c.args.field.now in
    elim c.if-field-lt2.branch [
      | in_default w ↦ (start (search rules) (search rules), omega arith)
      | in_default-2 w ↦ (start (search rules) (search rules), omega arith)
    ]

pub returns-in_err-n : goal.returns-in_err-n
returns-in_err-n c =
    let i = c.loop-byte.byte-index in
    let h : i < length c.args.field.now = search rules in
    let few : c.args.most + 1 ≤ 2 ^ 64 = search rules in
    let none =
    c.from_residual.ensures ∙ no_digit (c.args.most + 1) c.loop-byte.n (get_or c.args.field.now i 0) (drop (i + 1) c.args.field.now) c.in_err-n.ensures
    ∙ sym (at_drop_more (rest_number (c.args.most + 1) c.loop-byte.n) c.args.field.now i 0 h) ∙ c.loop-byte.invariant.0
    in
    record { value = none ∙ number_is_by_digits _ _ few; digits = none }

pub returns : goal.returns
returns c =
    let few : c.args.most + 1 ≤ 2 ^ 64 = search rules in
    let some : Some c.loop-byte.n ≡ number_by_digits (c.args.most + 1) c.args.field.now = grind (arith, common_steps) in
    record { value = some ∙ number_is_by_digits _ _ few; digits = some }
