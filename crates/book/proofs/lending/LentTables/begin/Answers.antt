use Rattle.std.proofs.Common.{Ok, Err, arith, rules}
use Rattle.book.proofs.Continued.{begin_continued}
use Rattle.book.proofs.RefusedBy.{refused_by, not_refused}
use Rattle.book.proofs.lending.LentTables.begin.Goals as goal

pub returns-in-Ok-clause-history : goal.returns-in-Ok-clause-history
returns-in-Ok-clause-history c =
    let e = not_refused _ c.in-Ok.ensures.answer in
    let a = c.args in
    rw (c.may_begin.ensures.trains_unchanged, c.may_begin.ensures.stops_unchanged)
    (begin_continued a.self.now.trains.now a.self.now.stops.now a.book a.number a.code a.features (Ok c.open.result) (record { number = omega arith; code = omega arith; features = omega arith; stops = tt }) (search rules)).history

pub returns-in-Err-clause-history : goal.returns-in-Err-clause-history
returns-in-Err-clause-history c =
    let e = refused_by _ _ c.in-Err.ensures.answer in
    let a = c.args in
    rw (c.may_begin.ensures.trains_unchanged, c.may_begin.ensures.stops_unchanged)
    (begin_continued a.self.now.trains.now a.self.now.stops.now a.book a.number a.code a.features (Err (record { back = a.book; refusal = c.in-Err.refusal })) (record { number = omega arith; code = omega arith; features = omega arith; stops = tt }) (search rules)).history
