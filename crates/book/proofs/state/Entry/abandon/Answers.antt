use Rattle.std.proofs.Common.{rules}
use Rattle.book.proofs.Continued.{abandon_continued}
use Rattle.book.proofs.state.Entry.abandon.Goals as goal

pub returns : goal.returns
returns c = abandon_continued _ _ (search rules)
