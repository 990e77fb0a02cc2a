use Rattle.std.proofs.Common.{◌≡◌, drop}
use Rattle.book.specs.Reasons.{first_of}
use Rattle.book.proofs.reasons.first_of.Given as goal

-- the reasons that are left decide
abbrev pub invariant-loop-reason : goal.invariant-loop-reason
invariant-loop-reason g l = first_of (drop l.reason-index l.reasons) ≡ first_of l.reasons
