use Rattle.std.proofs.Common.{sym, ◌∙◌}
use Rattle.search.proofs.BlankRecords.{is_blank_is}
use Rattle.search.proofs.record.WorkRecord.clear.Goals as goal

pub returns-else-not-is_blank : goal.returns-else-not-is_blank
returns-else-not-is_blank g c = is_blank_is c.args.self.now (sym c.is_blank.ensures ∙ c.if-not-is_blank.false)
