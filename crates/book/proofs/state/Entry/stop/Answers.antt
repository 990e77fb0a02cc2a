use Rattle.std.proofs.Common.{rules}
use Rattle.book.proofs.Continued.{stop_continued}
use Rattle.book.proofs.RefusalTests.{stop_passed}
use Rattle.book.proofs.RefusedBy.{refused_by, not_refused}
use Rattle.book.proofs.state.Entry.stop.Goals as goal

pub with_stop-requires : goal.with_stop-requires
with_stop-requires c = let p = stop_passed _ _ _ _ (not_refused _ c.in-Ok.ensures) in record { few = p.1; fit = p.3 }

pub returns-in-Ok : goal.returns-in-Ok
returns-in-Ok c = let e = not_refused _ c.in-Ok.ensures in stop_continued _ _ _ _ _ _ c.fits_types.ensures (search rules) (search rules)

pub returns-in-Err : goal.returns-in-Err
returns-in-Err c = let e = refused_by _ _ c.in-Err.ensures in stop_continued _ _ _ _ _ _ c.fits_types.ensures (search rules) (search rules)
