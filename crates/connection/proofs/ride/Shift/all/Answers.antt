use Rattle.connection.proofs.EachShift.{each_shift_once}
use Rattle.connection.proofs.ride.Shift.all.Goals as goal

pub returns-clause-each_once : goal.returns-clause-each_once
returns-clause-each_once c = each_shift_once
