use Rattle.calendar.proofs.Zeros.{zeros_ahead}
use Rattle.calendar.proofs.date.DateDisplay.fmt.Goals as goal

pub returns-clause-writes : goal.returns-clause-writes
returns-clause-writes g c plain ok =
    let t = c.args.self.now in
    rw (c.laid_out.ensures, c.laid_out-2.ensures, c.laid_out-3.ensures, zeros_ahead 4 t.year, zeros_ahead 2 t.month, zeros_ahead 2 t.day) at (c.write.ensures.writes plain ok)
