-- One record of the list, lent out.
use Rattle.std.specs.Prelude.{ℕ, slice_set}
use Rattle.std.specs.Borrow.{Lends, MutBor, Fml}
use Rattle.calendar.specs.declared.exceptions.Exception.{Exception}
use Rattle.calendar.specs.declared.exceptions.Listed.{Listed}
use Rattle.calendar.specs.contracts.exceptions.Exception as exception
use Rattle.calendar.specs.contracts.exceptions.Listed as listed

-- the list with another record at that index, and every other record and the count as they were
abbrev pub with_record : Listed → ℕ → Exception → Listed
with_record l i e = record { records = slice_set l.records i e; count = l.count }

-- the list ends with record i as it is last left behind the reference
abbrev pub LendsRecord : MutBor Listed → ℕ → MutBor Exception → Fml
LendsRecord l i r = Lends listed.the_row exception.the_row l r (with_record l.now i)
