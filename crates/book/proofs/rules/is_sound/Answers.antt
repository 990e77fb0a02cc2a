use Rattle.std.proofs.Common.{rules}
use Rattle.book.specs.Stops.{sound}
use Rattle.book.proofs.rules.is_sound.Goals as goal

pub returns-then-are_in_order : goal.returns-then-are_in_order
unfolding sound
returns-then-are_in_order c = search rules

pub returns-else-are_in_order : goal.returns-else-are_in_order
unfolding sound
returns-else-are_in_order c = search rules
