use Rattle.std.proofs.Common.{arith}
use Rattle.text.specs.Numbers.{end_of_8_bits}
use Rattle.text.proofs.Digits.{number_below}
use Rattle.text.proofs.numbers.small_number_of.Goals as goal

pub overflow_cast-result : goal.overflow_cast-result
overflow_cast-result c = omega (arith, number_below end_of_8_bits c.in_ok-n.n c.args.field.now c.in_ok-n.ensures.digits)
