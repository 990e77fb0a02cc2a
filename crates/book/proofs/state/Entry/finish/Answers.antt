use Rattle.std.proofs.Common.{rules}
use Rattle.book.proofs.Continued.{finish_continued}
use Rattle.book.proofs.RefusalTests.{may_finish_held}
use Rattle.book.proofs.RefusedBy.{refused_by, not_refused}
use Rattle.book.proofs.state.Entry.finish.Goals as goal

pub into_book-requires : goal.into_book-requires
into_book-requires c =
    let k = may_finish_held _ _ _ c.in-Ok.ensures in
    record { few = k.few_trains; fit = k.trains_fit; few_stops = k.few_stops }

pub returns-in-Ok : goal.returns-in-Ok
returns-in-Ok c = let e = not_refused _ c.in-Ok.ensures in finish_continued _ _ _ _ _ (search rules) (search rules)

pub returns-in-Err : goal.returns-in-Err
returns-in-Err c = let e = refused_by _ _ c.in-Err.ensures in finish_continued _ _ _ _ _ (search rules) (search rules)
