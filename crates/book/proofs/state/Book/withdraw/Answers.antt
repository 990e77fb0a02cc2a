use Rattle.std.proofs.Common.{arith, rules}
use Rattle.book.proofs.Continued.{withdraw_continued}
use Rattle.book.proofs.Found.{found}
use Rattle.book.proofs.RefusedBy.{withheld_by, given}
use Rattle.book.proofs.state.Book.withdraw.Goals as goal

pub offset_bounds-trains-at : goal.offset_bounds-trains-at
offset_bounds-trains-at c = let f = found _ _ _ _ _ c.in-Ok.ensures in omega (arith, f.book.few_trains, f.below)

pub slice_copy_out-row : goal.slice_copy_out-row
slice_copy_out-row c = let f = found _ _ _ _ _ c.in-Ok.ensures in omega (arith, f.book.trains_fit, f.below)

pub take_out_train-requires : goal.take_out_train-requires
take_out_train-requires c =
    let f = found _ _ _ _ _ c.in-Ok.ensures in
    record { part = omega (arith, f.below); fit = f.book.trains_fit; later = λ k more less. omega (arith, f.later k more less) }

pub take_out_stops-requires : goal.take_out_stops-requires
take_out_stops-requires c = let f = found _ _ _ _ _ c.in-Ok.ensures in record { part = f.within; fit = f.book.stops_fit }

pub overflow_sub-result : goal.overflow_sub-result
overflow_sub-result c = let f = found _ _ _ _ _ c.in-Ok.ensures in omega (arith, f.below)

pub overflow_sub-result-in-Ok : goal.overflow_sub-result-in-Ok
overflow_sub-result-in-Ok c = let f = found _ _ _ _ _ c.in-Ok.ensures in omega (arith, f.within)

pub returns-in-Ok : goal.returns-in-Ok
returns-in-Ok c =
    let e = given _ _ _ c.in-Ok.ensures in
    withdraw_continued _ _ _ _ _ _ _ (omega arith) (search rules) (search rules) (search rules)

pub returns-in-Err : goal.returns-in-Err
returns-in-Err c =
    let e = withheld_by _ _ _ c.in-Err.ensures in
    withdraw_continued _ _ _ _ _ _ _ (omega arith) (search rules) (search rules) (search rules)
