use Rattle.std.proofs.Common.{◌≡◌, ℕ, ◌<◌, get_or}
use Rattle.search.specs.Records.{blank}
use Rattle.search.proofs.cheapest.blank_block.Given as goal

abbrev pub invariant-loop-record : goal.invariant-loop-record
invariant-loop-record g l = (z : ℕ) → z < l.record-index → get_or l.work z blank ≡ blank
