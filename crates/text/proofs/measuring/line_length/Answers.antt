-- The length of a line is that of its parts together.
use Rattle.std.proofs.Common.{ℕ, arith}
use Rattle.std.proofs.lemmas.List.{length_push}
use Rattle.text.proofs.LineParts.{length_line}
use Rattle.text.proofs.measuring.line_length.Goals as goal

pub returns-clause-length : goal.returns-clause-length
returns-clause-length c = omega (arith, length_line c.args.line, length_push {X = ℕ})
