-- The records of a work table.
use Rattle.std.specs.Prelude.{Bool, ◌&&◌, Some, None, Option, ◌==◌}
use Rattle.std.specs.Option.{is_none}
use Rattle.connection.specs.declared.label.Label.{Label}
use Rattle.search.specs.declared.record.WorkRecord.{WorkRecord}

module _ {A : Type 0} where
  -- no total, and numbers 0
  abbrev pub blank : WorkRecord A
  blank = record { total = None; board = 0; from = 0 }

  abbrev pub is_blank : WorkRecord A → Bool
  is_blank r = is_none r.total && (r.board == 0 && r.from == 0)

  -- a record holds a label, or none
  abbrev pub record_of : Option (Label A) → WorkRecord A
  record_of (Some l) = record { total = Some l.total; board = l.board; from = l.from }
  record_of None = blank

  abbrev pub label_of : WorkRecord A → Option (Label A)
  label_of r = elim r.total [ Some t ↦ Some (record { total = t; board = r.board; from = r.from }) | None ↦ None ]
