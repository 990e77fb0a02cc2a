use Rattle.std.proofs.Common.{ap, ◌∙◌, refl}
use Rattle.book.specs.Trains.{holds}
use Rattle.book.specs.declared.state.Book.{Book}
use Rattle.book.proofs.Held.{none_held}
use Rattle.book.proofs.lending.LentTables.over.Goals as goal

pub invariant_of-result : goal.invariant_of-result
invariant_of-result c =
    let ts = c.args.trains.now in
    let ss = c.args.stops.now in
    record { held = ap (λ (b : Book). holds b.trains b.stops ts ss) c.new.ensures.answer ∙ none_held ts ss; ordered = refl }
