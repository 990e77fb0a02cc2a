-- Three calls that put bytes one behind the other.
use Rattle.text.proofs.Puts.{put_then}
use Rattle.text.proofs.putting.put_departure.Goals as goal

pub returns : goal.returns
returns c = rw c.in-Some.is (put_then (put_then c.put_time_field-at.ensures c.put_number-end.ensures) c.put_byte.ensures)
