-- The labels of who boards a run: at the origin, or after a change.
use Rattle.std.specs.Prelude.{◌≡◌, ℕ, ◌-◌, ◌<◌, Bool, false, ◌&&◌, T, List, Some, None, Option, ◌==◌, nat_le}
use Rattle.tariff.specs.Meaning.{Meaning}
use Rattle.tariff.specs.declared.step.Kind.TheVariants.{Start, Change}
use Rattle.connection.specs.Choosing.{only_when}
use Rattle.connection.specs.Clock.{ready}
use Rattle.connection.specs.Moves.{with}
use Rattle.connection.specs.Prices.{stretch}
use Rattle.connection.specs.Rides.{can_catch, may_alight}
use Rattle.connection.specs.Settled.{no_dearer}
use Rattle.connection.specs.Ways.{Best}
use Rattle.connection.specs.declared.label.Label.{Label}
use Rattle.connection.specs.declared.ride.Shift.{Shift}
use Rattle.search.specs.Chains.{taken}
use Rattle.search.specs.Working.{size_of, stop_in, row_reaches, row_leaves, place}
use Rattle.search.specs.declared.chains.Arrivals.{Arrivals}
use Rattle.search.specs.declared.inquiry.Inquiry.{Inquiry}
use Rattle.search.specs.declared.record.WorkRecord.{WorkRecord}
use Rattle.search.specs.declared.run.Onward.{Onward}

module _ {A : Type 0} (m : Meaning A) where
  -- who came at the minute, at that place, and waits for what leaves
  abbrev pub changed : (came from : ℕ) → Onward → Label A → Label A
  changed came from onward l = record { total = with m l.total (stretch Change (onward.minute - came) 0); board = onward.board; from = from }

  -- both are there, and the first costs no more
  abbrev pub both_and_no_dearer : Option (Label A) → Option (Label A) → Bool
  both_and_no_dearer (Some a) (Some b) = m.at_most a.total b.total
  both_and_no_dearer (Some a) None = false
  both_and_no_dearer None o = false

  -- `label` has the labels of a layer by shift and row
  module _ {P : Type 0} (inquiry : Inquiry P) (label : Shift → ℕ → Option (Label A)) (onward : Onward) where
    -- l is what a change from the label at the row makes, to what the traveller wants to catch
    pub record ChangesAt (s : Shift) (row : ℕ) (l : Label A) : Type 0 where
      pub inside : row < size_of inquiry
      pub here : (stop_in inquiry row).station ≡ onward.station
      pub off : T (may_alight (stop_in inquiry row))
      pub in_time : T (can_catch (row_reaches inquiry s row) onward.minute)
      pub before : Label A
      pub held : label s row ≡ Some before
      pub is : l ≡ changed (row_reaches inquiry s row) (place (size_of inquiry) s row) onward before

    abbrev pub ChangesOn : Shift → Label A → Type 0
    ChangesOn s l = (row : ℕ) × ChangesAt s row l

    abbrev pub Changes : Label A → Type 0
    Changes l = (s : Shift) × ChangesOn s l

  -- it is the best change from the labels of the layer that the arrivals have, or none where one can change from none
  abbrev pub IsBestChange : {P : Type 0} → Inquiry P → List (WorkRecord A) → ℕ → Arrivals A → Onward → Option (Label A) → Type 0
  IsBestChange inquiry table k arrivals onward best = Best (no_dearer m) (Changes inquiry (taken m inquiry table k arrivals) onward) best

  -- the label of who starts with the run of that shift at the row, if that is at the origin, and does not leave before the query's minute
  abbrev pub label_at_start : {P : Type 0} → Inquiry P → Shift → (row board : ℕ) → Option (Label A)
  label_at_start inquiry s row board =
      only_when ((stop_in inquiry row).station == inquiry.query.now.origin && nat_le (ready inquiry.query.now) (row_leaves inquiry s row))
      (Some (record { total = with m m.empty (stretch Start (row_leaves inquiry s row - ready inquiry.query.now) 0); board = board; from = 0 }))
