use Rattle.std.proofs.Common.{◌==◌, arith, rules, tests}
use Rattle.std.proofs.lemmas.Iterator.{YieldsList-from_slice}
use Rattle.std.proofs.lemmas.Iterator.Consumers.{YieldsList-at, YieldsList-from_filter, count_from_yields_List}
use Rattle.std.proofs.lemmas.List.Splits.{length-slice_split}
use Rattle.std.proofs.lemmas.List.Sums.{length-filter}
use Rattle.text.proofs.reader.Reader.count_fields.Goals as goal

pub returns : goal.returns
returns c =
    let line = c.args.self.now.line.now in
    let commas = count_from_yields_List _ c.count.result c.count.ensures.ran (YieldsList-from_filter _ (λ b. b == 44) (YieldsList-at c.filter.ensures.source (YieldsList-from_slice line cc)) c.filter.ensures.closure (λ x r q k. search (rules, tests))) in
    omega (arith, commas, length-filter (λ b. b == 44) line, length-slice_split (λ b. b == 44) line)
