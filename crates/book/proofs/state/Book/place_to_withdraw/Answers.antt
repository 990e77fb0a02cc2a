use Rattle.std.proofs.Common.{sym, ◌∙◌, arith, length-take-le}
use Rattle.std.proofs.lemmas.Bool.Decides.{nat_tests}
use Rattle.book.proofs.Held.{held}
use Rattle.book.proofs.RefusalTests.{withdraw_damaged, withdraw_found}
use Rattle.book.proofs.RefusedBy.{check_passed}
use Rattle.book.proofs.state.Book.place_to_withdraw.Goals as goal

pub returns-in_err-check : goal.returns-in_err-check
returns-in_err-check c =
    let e = withdraw_damaged _ _ _ c.args.number _ (sym c.in_err-check.was ∙ c.check.ensures.answer) in
    grind (arith, nat_tests)

pub slice_bounds-place_of-end : goal.slice_bounds-place_of-end
slice_bounds-place_of-end c =
    let h = held _ _ _ _ (check_passed _ _ _ (sym c.in_ok-check.was ∙ c.check.ensures.answer)) in
    sym (length-take-le _ _ h.trains_fit)

pub returns : goal.returns
returns c =
    let e = withdraw_found _ _ _ c.args.number (check_passed _ _ _ (sym c.in_ok-check.was ∙ c.check.ensures.answer)) in
    grind (arith, nat_tests)
