use Rattle.std.proofs.Common.{replicate, ap, ◌∙◌, arith}
use Rattle.search.specs.Records.{blank}
use Rattle.search.proofs.BlankRecords.{blanked}
use Rattle.search.proofs.cheapest.blank_block.Goals as goal

pub returns : goal.returns
returns g c =
    let l = c.loop-record in
    blanked l.record-index l.work (omega arith) l.invariant ∙ ap (λ n. replicate n blank) l.auto.work
