use Rattle.std.proofs.Common.{arith, rules}
use Rattle.book.proofs.Continued.{begin_continued}
use Rattle.book.proofs.RefusedBy.{refused_by, not_refused}
use Rattle.book.proofs.state.Book.begin.Goals as goal

pub returns-in-Ok : goal.returns-in-Ok
returns-in-Ok c = let e = not_refused _ c.in-Ok.ensures in begin_continued _ _ _ _ _ _ _ (record { number = omega arith; code = omega arith; features = omega arith; stops = tt }) (search rules)

pub returns-in-Err : goal.returns-in-Err
returns-in-Err c = let e = refused_by _ _ c.in-Err.ensures in begin_continued _ _ _ _ _ _ _ (record { number = omega arith; code = omega arith; features = omega arith; stops = tt }) (search rules)
