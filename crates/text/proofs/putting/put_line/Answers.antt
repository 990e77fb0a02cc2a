-- The parts of a line, one behind the other.
use Rattle.text.proofs.LineParts.{line_parts}
use Rattle.text.proofs.Puts.{put_then}
use Rattle.text.proofs.putting.put_line.Goals as goal

pub returns : goal.returns
returns c =
    rw (line_parts c.args.line)
    (put_then c.put_number_field-code.ensures (put_then c.put_number_field-features.ensures (put_then c.put_number_field-station.ensures
    (put_then c.put_number_field-arrive.ensures (put_then c.put_time_field-depart.ensures c.put_departure.ensures)))))
