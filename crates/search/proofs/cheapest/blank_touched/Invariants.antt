use Rattle.std.proofs.Common.{◌≡◌, ℕ, ◌<◌, ◌/◌, get_or}
use Rattle.search.specs.Notes.{BlankElsewhere}
use Rattle.search.specs.Records.{blank}
use Rattle.search.specs.Limits.{block}
use Rattle.search.proofs.cheapest.blank_touched.Given as goal

-- the blocks ahead are blank, and those that are not touched
abbrev pub invariant-loop-block : goal.invariant-loop-block
invariant-loop-block g l = ((z : ℕ) → z / block < l.block → get_or l.work z blank ≡ blank) × BlankElsewhere l.work l.notes
