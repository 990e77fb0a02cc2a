-- A line in the parts in which it is put into a buffer.
use Rattle.std.proofs.Common.{◌≡◌, ◌+◌, ◌++◌, length, decimal, ap, ◌∙◌, append_assoc, length-append}
use Rattle.text.specs.Puts.{and_comma, departure_and_end}
use Rattle.text.specs.Written.{clock_or_blank, line_of}
use Rattle.text.specs.declared.stop_line.StopLine.{StopLine}

pub line_parts : (l : StopLine) → line_of l ≡ and_comma (decimal l.number) ++ (and_comma (decimal l.code) ++ (and_comma (decimal l.features) ++ (and_comma (decimal l.stop.station) ++ (and_comma (clock_or_blank l.stop.arrive) ++ departure_and_end l.stop.depart))))
unfolding line_of
line_parts l = simp append_assoc

pub length_line : (l : StopLine) → length (line_of l) ≡ length (and_comma (decimal l.number)) + (length (and_comma (decimal l.code)) + (length (and_comma (decimal l.features)) + (length (and_comma (decimal l.stop.station)) + (length (and_comma (clock_or_blank l.stop.arrive)) + length (departure_and_end l.stop.depart)))))
length_line l = ap length (line_parts l) ∙ simp length-append
