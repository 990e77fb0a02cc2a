use Rattle.std.proofs.Common.{◌∙◌}
use Rattle.book.proofs.StopOrder.{last_of_get}
use Rattle.book.proofs.rules.last_of.Goals as goal

pub returns : goal.returns
returns c = c.copied.ensures ∙ c.last.ensures.value ∙ last_of_get c.args.stops.now
