use Rattle.std.proofs.Common.{rules}
use Rattle.connection.specs.Rides.{can_catch}
use Rattle.connection.proofs.allowed.can_catch.Goals as goal

pub returns : goal.returns
unfolding can_catch
returns c = search rules
