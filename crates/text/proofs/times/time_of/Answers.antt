use Rattle.std.proofs.Common.{◌≡◌, ◌+◌, ◌*◌, length, get_or, Some, ◌∙◌, ap₂, rules}
use Rattle.text.proofs.ClockDigits.{is_time, wrong_length, no_colon, no_digits}
use Rattle.text.proofs.WrittenTimes.{time_is_by_digits}
use Rattle.text.proofs.times.time_of.Goals as goal

pub returns-in-58 : goal.returns-in-58
returns-in-58 c =
    let bs = c.args.field.now in
    let n : length bs ≡ 5 = search rules in
    let colon : get_or bs 2 0 ≡ 58 = search rules in
    let some = ap₂ (λ x y. Some (60 * x + y)) c.two_digits.ensures c.two_digits-in-58.ensures ∙ is_time bs n colon c.if-are_clock_digits.ensures in
    record { value = some ∙ time_is_by_digits bs; digits = some }

pub returns-in_default : goal.returns-in_default
returns-in_default c = let none = wrong_length c.args.field.now (λ e. search rules) in record { value = none ∙ time_is_by_digits _; digits = none }

pub returns-in_default-2 : goal.returns-in_default-2
returns-in_default-2 c = let none = no_digits c.args.field.now c.if-are_clock_digits.ensures in record { value = none ∙ time_is_by_digits _; digits = none }

pub returns-in_default-3 : goal.returns-in_default-3
returns-in_default-3 c = let none = no_colon c.args.field.now (λ e. search rules) in record { value = none ∙ time_is_by_digits _; digits = none }

pub returns-in_default-4 : goal.returns-in_default-4
returns-in_default-4 c = let none = wrong_length c.args.field.now (λ e. search rules) in record { value = none ∙ time_is_by_digits _; digits = none }
