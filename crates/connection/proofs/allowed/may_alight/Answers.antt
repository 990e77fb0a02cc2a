use Rattle.std.proofs.Common.{rules}
use Rattle.connection.specs.Rides.{may_alight}
use Rattle.connection.proofs.allowed.may_alight.Goals as goal

pub returns : goal.returns
unfolding may_alight
returns c = search rules
