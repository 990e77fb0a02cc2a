-- Rows of dates: which pairs they cover, and whether one goes backwards.
use Rattle.std.specs.Prelude.{Bool, ◌&&◌, List, ◌==◌, nat_le, nat_lt}
use Rattle.std.specs.List.{list_any}
use Rattle.calendar.specs.Pairs.{Pairs}
use Rattle.calendar.specs.declared.dated.DateRow.{DateRow}

-- the pair has the row's code and a day from its first to its last
abbrev pub covers : DateRow → Pairs
covers row code day = row.code == code && nat_le row.first day && nat_le day row.last

-- the pairs that some row covers
abbrev pub covered : List DateRow → Pairs
covered rows code day = list_any (λ row. covers row code day) rows

-- the first day is after the last
abbrev pub backwards : DateRow → Bool
backwards row = nat_lt row.last row.first

abbrev pub some_backwards : List DateRow → Bool
some_backwards rows = list_any backwards rows
