use Rattle.std.proofs.Common.{◌==◌, rules, tests}
use Rattle.std.proofs.lemmas.Iterator.{YieldsList-from_slice}
use Rattle.std.proofs.lemmas.Iterator.Search.{position_from_yields_List}
use Rattle.text.proofs.Cuts.{cut_here, cut_nowhere}
use Rattle.text.proofs.cut.cut_at.Goals as goal

pub returns-in-Some : goal.returns-in-Some
returns-in-Some c =
    let bs = c.args.bytes.now in
    let cut = cut_here c.args.mark bs c.in-Some.at (position_from_yields_List (λ b. b == c.args.mark) _ _ _ c.in-Some.ensures.ran (YieldsList-from_slice bs cc) (λ x b q k. search (rules, tests))) in
    record { found = cut.0; front = cut.1; behind = cut.2 }

pub returns-in-None : goal.returns-in-None
returns-in-None c =
    let bs = c.args.bytes.now in
    let cut = cut_nowhere c.args.mark bs (position_from_yields_List (λ b. b == c.args.mark) _ _ _ c.in-None.ensures.ran (YieldsList-from_slice bs cc) (λ x b q k. search (rules, tests))) in
    record { found = cut.0; front = cut.1; behind = cut.2 }
