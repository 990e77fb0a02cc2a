-- One byte is put by one write.
use Rattle.std.proofs.Common.{refl, arith}
use Rattle.text.proofs.Puts.{placed_byte}
use Rattle.text.proofs.putting.put_byte.Goals as goal

pub returns : goal.returns
returns c = record { ends = refl; fits = omega arith; bytes = placed_byte _ _ _ c.requires }
