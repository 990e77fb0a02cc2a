-- The digits ahead of the last are those of a tenth of the number.
use Rattle.std.proofs.Common.{◌<◌, arith, rules}
use Rattle.std.proofs.lemmas.Fmt.{decimal_digit}
use Rattle.text.specs.Numbers.{end_of_16_bits}
use Rattle.text.proofs.Decimals.{digit_more, length_one_digit, length_digit_more}
use Rattle.text.proofs.Puts.{put_then}
use Rattle.text.proofs.putting.+put_number.Goals as goal

pub put_byte-requires : goal.put_byte-requires
put_byte-requires t c = omega (arith, length_one_digit c.args.n c.if-n-lt10.true)

pub returns-then-n-lt10 : goal.returns-then-n-lt10
returns-then-n-lt10 t c = rw (decimal_digit c.args.n c.if-n-lt10.true) c.put_byte.ensures

pub put_number-last-requires : goal.put_number-last-requires
put_number-last-requires t c =
    let small : c.args.n < end_of_16_bits = search rules in
    let more = length_digit_more c.args.n c.if-n-lt10.false small in
    (search rules, omega arith)

pub put_byte-requires-2 : goal.put_byte-requires-2
put_byte-requires-2 t c =
    let small : c.args.n < end_of_16_bits = search rules in
    let more = length_digit_more c.args.n c.if-n-lt10.false small in
    omega arith

pub returns : goal.returns
returns t c =
    let small : c.args.n < end_of_16_bits = search rules in
    rw (digit_more c.args.n c.if-n-lt10.false small) (put_then c.put_number-last.ensures c.put_byte-2.ensures)
