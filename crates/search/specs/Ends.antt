-- The labels at the destination.
use Rattle.std.specs.Prelude.{◌≡◌, ℕ, ◌+◌, ◌<◌, Bool, true, false, ◌&&◌, T, List, Some, None, Option, option_map, ◌==◌}
use Rattle.tariff.specs.Meaning.{Meaning}
use Rattle.book.specs.declared.rows.StopRow.{StopRow}
use Rattle.connection.specs.Choosing.{cheaper}
use Rattle.connection.specs.Rides.{may_alight}
use Rattle.connection.specs.Settled.{Hopeless}
use Rattle.connection.specs.Ways.{Best}
use Rattle.connection.specs.declared.label.Label.{Label}
use Rattle.connection.specs.declared.ride.Shift.{Shift}
use Rattle.search.specs.Working.{costs_at_most, size_of, stop_in, place, layer_at, label_in}
use Rattle.search.specs.declared.ends.End.{End}
use Rattle.search.specs.declared.inquiry.Inquiry.{Inquiry}
use Rattle.search.specs.declared.record.WorkRecord.{WorkRecord}

-- one may alight at the destination
abbrev pub is_end : StopRow → ℕ → Bool
is_end stop destination = stop.station == destination && may_alight stop

module _ {A : Type 0} where
  -- the first costs no more than the second
  abbrev pub ends_no_dearer : Meaning A → End A → End A → Bool
  ends_no_dearer m = costs_at_most m (λ (e : End A). e.total)

  -- what the cheapest end that is known costs, if one is
  abbrev pub known_total : Option (End A) → Option A
  known_total = option_map (λ (e : End A). e.total)

  -- the end that names a label by its layer and its place there
  abbrev pub end_of : ℕ → ℕ → Label A → End A
  end_of k x l = record { total = l.total; layer = k; place = x }

  -- the end that the label at the stop is, if it is one
  abbrev pub end_here : Bool → ℕ → ℕ → Option (Label A) → Option (End A)
  end_here true k x (Some l) = Some (end_of k x l)
  end_here true k x None = None
  end_here false k x o = None

  -- the cheapest end that is known once the label at the stop is known too
  abbrev pub with_end : {P : Type 0} → Meaning A → Inquiry P → Option (End A) → StopRow → ℕ → ℕ → Option (Label A) → Option (End A)
  with_end m inquiry known stop k x o = cheaper (ends_no_dearer m) known (end_here (is_end stop inquiry.query.now.destination) k x o)

  -- one may alight at the destination with the label that the end names, whose record is among the first `reach` of the table
  pub record Ends {P : Type 0} (inquiry : Inquiry P) (table : List (WorkRecord A)) (reach : ℕ) (e : End A) : Type 0 where
    pub shift : Shift
    pub row : ℕ
    pub label : Label A
    pub ahead : layer_at (size_of inquiry) e.layer + e.place < reach
    pub inside : row < size_of inquiry
    pub off : T (is_end (stop_in inquiry row) inquiry.query.now.destination)
    pub held : label_in (size_of inquiry) table e.layer shift row ≡ Some label
    pub total_is : e.total ≡ label.total
    pub place_is : e.place ≡ place (size_of inquiry) shift row

  -- the end that is known is the cheapest of them
  abbrev pub Known : {P : Type 0} → Meaning A → Inquiry P → List (WorkRecord A) → ℕ → Option (End A) → Type 0
  Known m inquiry table reach known = Best (ends_no_dearer m) (Ends inquiry table reach) known

  -- what a known end made hopeless, the end that is known later makes hopeless
  abbrev pub NoDearer : Meaning A → Option (End A) → Option (End A) → Type 0
  NoDearer m before after = (t : A) → Hopeless m (known_total before) t → Hopeless m (known_total after) t
