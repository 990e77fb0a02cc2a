use Rattle.std.proofs.Common.{refl}
use Rattle.book.specs.Histories as histories
use Rattle.book.proofs.state.Book.new.Goals as goal

pub returns : goal.returns
returns c = record { answer = refl; history = λ ts ss. histories.new ts ss refl refl }
