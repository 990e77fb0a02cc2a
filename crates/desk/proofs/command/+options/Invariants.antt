use Rattle.std.proofs.Common.{length}
use Rattle.desk.proofs.command.+options.Given as goal

abbrev pub decreases-options : goal.decreases-options
decreases-options l = length l.behind.now
