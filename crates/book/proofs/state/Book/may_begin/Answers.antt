use Rattle.std.proofs.Common.{sym, ◌∙◌, arith}
use Rattle.std.proofs.lemmas.Bool.Decides.{nat_tests}
use Rattle.book.proofs.Held.{held}
use Rattle.book.proofs.RefusalTests.{begin_damaged}
use Rattle.book.proofs.RefusedBy.{check_passed}
use Rattle.book.proofs.state.Book.may_begin.Goals as goal

pub returns-in_err-check : goal.returns-in_err-check
returns-in_err-check c =
    let e = begin_damaged _ _ _ c.args.number _ (sym c.in_err-check.was ∙ c.check.ensures.answer) in
    grind (arith, nat_tests)

pub judge_begin-requires : goal.judge_begin-requires
judge_begin-requires c = (held _ _ _ _ (check_passed _ _ _ (sym c.in_ok-check.was ∙ c.check.ensures.answer))).trains_fit

pub returns : goal.returns
returns c = c.judge_begin.ensures c.args.stops.now (check_passed _ _ _ (sym c.in_ok-check.was ∙ c.check.ensures.answer))
