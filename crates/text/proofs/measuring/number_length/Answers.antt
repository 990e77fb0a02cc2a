-- A number has as many digits as its range says.
use Rattle.std.proofs.Common.{sym, arith, rules}
use Rattle.text.proofs.Decimals.{length_one_digit, length_two_digits, length_three_digits, length_four_digits, length_five_digits}
use Rattle.text.proofs.measuring.number_length.Goals as goal

pub returns-in-0-to-9-clause-length : goal.returns-in-0-to-9-clause-length
returns-in-0-to-9-clause-length c = sym (length_one_digit c.args.n (omega arith))

pub returns-in-10-to-99-clause-length : goal.returns-in-10-to-99-clause-length
returns-in-10-to-99-clause-length c = sym (length_two_digits c.args.n (omega arith) (omega arith))

pub returns-in-100-to-999-clause-length : goal.returns-in-100-to-999-clause-length
returns-in-100-to-999-clause-length c = sym (length_three_digits c.args.n (omega arith) (omega arith))

pub returns-in-1000-to-9999-clause-length : goal.returns-in-1000-to-9999-clause-length
returns-in-1000-to-9999-clause-length c = sym (length_four_digits c.args.n (omega arith) (omega arith))

pub returns-in_default-clause-length : goal.returns-in_default-clause-length
returns-in_default-clause-length c = sym (length_five_digits c.args.n (omega arith) (search rules))
