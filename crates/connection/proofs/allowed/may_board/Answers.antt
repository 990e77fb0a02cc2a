use Rattle.std.proofs.Common.{rules}
use Rattle.connection.specs.Rides.{may_board}
use Rattle.connection.proofs.allowed.may_board.Goals as goal

pub returns : goal.returns
unfolding may_board
returns c = search rules
