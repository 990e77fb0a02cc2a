-- What the layers of a work table hold.
use Rattle.connection.specs.Connections.{most_rides}
use Rattle.connection.specs.Rides.{ride}
use Rattle.std.specs.Prelude.{◌≡◌, ℕ, zero, suc, ◌+◌, ◌<◌, ◌≤◌, Bool, true, false, ◌⊎◌, List, [], ◌∷◌, ◌++◌, length, get_or, None, Option, slice_index_or}
use Rattle.tariff.specs.Meaning.{Meaning}
use Rattle.book.specs.Answers.{train_row}
use Rattle.book.specs.declared.rows.TrainRow.{TrainRow}
use Rattle.calendar.specs.Pairs.{Pairs}
use Rattle.connection.specs.Settled.{SettlesBoarding, SettlesArrival}
use Rattle.connection.specs.declared.label.Label.{Label}
use Rattle.connection.specs.declared.ride.Ride.{Ride}
use Rattle.connection.specs.declared.ride.Shift.{Shift}
use Rattle.search.specs.Ends.{known_total, Known, NoDearer}
use Rattle.search.specs.Limits.{layer_size}
use Rattle.search.specs.Notes.{no_notes, BlankElsewhere, Noted}
use Rattle.search.specs.Records.{blank}
use Rattle.search.specs.Working.{size_of, asked_over, may_use, place, layer_at, label_in}
use Rattle.search.specs.Shifts.{on}
use Rattle.search.specs.declared.by_shift.ByShift.{ByShift}
use Rattle.search.specs.declared.ends.End.{End}
use Rattle.search.specs.declared.inquiry.Inquiry.{Inquiry}
use Rattle.search.specs.declared.reached.Reached.{Reached}
use Rattle.search.specs.declared.record.WorkRecord.{WorkRecord}

-- the row of the stop i of the train n
abbrev pub row_of : List TrainRow → ℕ → ℕ → ℕ
row_of rows n i = (train_row n rows).first + i

-- ---- what is asked of the calendar
module _ {P : Type 0} (inquiry : Inquiry P) where
  -- it tells whether the query may use the run, each run of a shift, each run
  abbrev pub RunAsked : ℕ → Shift → Bool → Pairs → Type 0
  RunAsked n s usable runs = usable ≡ may_use runs inquiry.query.now (train_row n inquiry.trains.now) s

  abbrev pub ShiftAsked : Shift → List Bool → Pairs → Type 0
  ShiftAsked s usable runs = (n : ℕ) → n < length inquiry.trains.now → RunAsked n s (slice_index_or usable n false) runs

  abbrev pub Asked : ByShift (List Bool) → Pairs → Type 0
  Asked usable runs = (s : Shift) → ShiftAsked s (on usable s) runs

  -- ---- where a stop of a run stands in a layer
  -- f is the place of that stop in the part of that shift
  pub record Spot (n : ℕ) (s : Shift) (i f : ℕ) : Type 0 where
    pub in_force : n < length inquiry.trains.now
    pub on_the_train : i < (train_row n inquiry.trains.now).count
    pub is : f ≡ place (size_of inquiry) s (row_of inquiry.trains.now n i)

  -- the places where a run begins and ends
  abbrev pub run_begins : ℕ → Shift → ℕ
  run_begins n s = place (size_of inquiry) s (train_row n inquiry.trains.now).first

  abbrev pub run_ends : ℕ → Shift → ℕ
  run_ends n s = place (size_of inquiry) s (row_of inquiry.trains.now n (train_row n inquiry.trains.now).count)

  module _ {A : Type 0} (table : List (WorkRecord A)) where
    -- the label of the layer k at the stop i of the run
    abbrev pub label_of_run : ℕ → ℕ → Shift → ℕ → Option (Label A)
    label_of_run k n s i = label_in (size_of inquiry) table k s (row_of inquiry.trains.now n i)

    -- the rides of who changed from the place f of the layer before the layer k, as the records tell them
    abbrev pub Trail : ℕ → ℕ → List Ride → Type 0
    Trail zero f rides = rides ≡ []
    Trail (suc k) f rides =
        (n : ℕ) × (s : Shift) × (i : ℕ) × Spot n s i f × (before : List Ride)
        × Trail k (get_or table (layer_at (size_of inquiry) k + f) blank).from before
        × (rides ≡ before ++ (ride n s (get_or table (layer_at (size_of inquiry) k + f) blank).board i ∷ []))

    -- between two places of the layer k there is no label
    abbrev pub NoLabelBetween : ℕ → ℕ → ℕ → Type 0
    NoLabelBetween k x y =
        (n : ℕ) (s : Shift) (i : ℕ) → n < length inquiry.trains.now → i < (train_row n inquiry.trains.now).count
        → x ≤ place (size_of inquiry) s (row_of inquiry.trains.now n i) → place (size_of inquiry) s (row_of inquiry.trains.now n i) < y
        → label_of_run k n s i ≡ None

    -- the first layers are all that there is: one for each ride that the query allows, or the last of them has no label
    abbrev pub AllLayers : ℕ → Type 0
    AllLayers layers =
        (layers ≡ most_rides inquiry.query.now) ⊎ ((k : ℕ) × (layers ≡ suc k) × NoLabelBetween k 0 (layer_size (size_of inquiry)))

-- ---- what a layer is filled from, and with
-- nothing is reached ahead of the first
abbrev pub nothing_reached : {A : Type 0} → Reached A
nothing_reached = record { end = None; notes = no_notes }

module _ {A : Type 0} where
  -- the records ahead of the place b are as they were
  abbrev pub UnchangedBelow : ℕ → List (WorkRecord A) → List (WorkRecord A) → Type 0
  UnchangedBelow b old new = (z : ℕ) → z < b → slice_index_or new z blank ≡ slice_index_or old z blank

  -- the records from the place b on are blank
  abbrev pub BlankFrom : ℕ → List (WorkRecord A) → Type 0
  BlankFrom b table = (z : ℕ) → b ≤ z → slice_index_or table z blank ≡ blank

module _ {P A : Type 0} (m : Meaning A) (inquiry : Inquiry P) where
  -- the label settles the ways to the stop i of the run, after k changes, where a connection is known at that total
  abbrev pub Holds : Pairs → Option A → List (WorkRecord A) → ℕ → ℕ → Shift → ℕ → Option (Label A) → Type 0
  Holds runs known table k n s i o = SettlesArrival m (asked_over inquiry runs) inquiry.query.now (Trail inquiry table k) known k n s i o

  -- so do all labels of the first layers
  abbrev pub Filled : Pairs → Option A → List (WorkRecord A) → ℕ → Type 0
  Filled runs known table layers =
      (k n : ℕ) (s : Shift) (i : ℕ) → k < layers → n < length inquiry.trains.now → i < (train_row n inquiry.trains.now).count
      → Holds runs known table k n s i (label_of_run inquiry table k n s i)

  -- if the query may use the run and the layers ahead of the layer k are filled, the label settles the ways to board the run at its
  -- stop i after k changes; `before` was known when the arrivals of the layer before were taken
  abbrev pub SettlesWhoBoards : List (WorkRecord A) → ℕ → Option (End A) → ℕ → Shift → ℕ → Option (Label A) → Type 0
  SettlesWhoBoards table k before n s i o =
      (runs : Pairs) (known : Option (End A)) → NoDearer m before known → RunAsked inquiry n s true runs → Filled runs (known_total known) table k
      → SettlesBoarding m (asked_over inquiry runs) inquiry.query.now (Trail inquiry table k) (known_total known) k n s i o

  -- between two places of the layer k the labels of the new table settle, by what the layers before held in the old one
  abbrev pub SettledBetween : Pairs → Option A → List (WorkRecord A) → List (WorkRecord A) → ℕ → ℕ → ℕ → Type 0
  SettledBetween runs known old new k x y =
      (n : ℕ) (s : Shift) (i : ℕ) → n < length inquiry.trains.now → i < (train_row n inquiry.trains.now).count
      → x ≤ place (size_of inquiry) s (row_of inquiry.trains.now n i) → place (size_of inquiry) s (row_of inquiry.trains.now n i) < y
      → Holds runs known old k n s i (label_of_run inquiry new k n s i)

  -- the layer k is filled from the place x up to the place y, where the calendar says what May tells; found is false only where no label
  -- is there; before and after are what is reached
  pub record Fills (k : ℕ) (May : Pairs → Type 0) (old new : List (WorkRecord A)) (x y : ℕ) (found : Bool) (before after : Reached A) : Type 0 where
    pub unchanged : UnchangedBelow (layer_at (size_of inquiry) k + x) old new
    pub blank : BlankFrom (layer_at (size_of inquiry) k + x) old → BlankFrom (layer_at (size_of inquiry) k + y) new
    pub nothing : found ≡ false → NoLabelBetween inquiry new k x y
    pub known : Known m inquiry old (layer_at (size_of inquiry) k + x) before.end → Known m inquiry new (layer_at (size_of inquiry) k + y) after.end
    pub no_dearer : NoDearer m before.end after.end
    pub noted : Noted m (size_of inquiry) old k x before.notes → Noted m (size_of inquiry) new k y after.notes
    pub settled : (runs : Pairs) → May runs → Filled runs (known_total before.end) old k → SettledBetween runs (known_total after.end) old new k x y

  -- so are a run, which the query may use, all runs of a shift, which it may use by what is asked, and a whole layer
  abbrev pub FillsRun : ℕ → ℕ → Shift → (old new : List (WorkRecord A)) → Bool → (before after : Reached A) → Type 0
  FillsRun k n s old new found before after = Fills k (RunAsked inquiry n s true) old new (run_begins inquiry n s) (run_ends inquiry n s) found before after

  abbrev pub FillsShift : ℕ → Shift → List Bool → (old new : List (WorkRecord A)) → Bool → (before after : Reached A) → Type 0
  FillsShift k s usable old new found before after =
      Fills k (ShiftAsked inquiry s usable) old new (place (size_of inquiry) s 0) (place (size_of inquiry) s (size_of inquiry)) found before after

  abbrev pub FillsLayer : ℕ → ByShift (List Bool) → (old new : List (WorkRecord A)) → Bool → (before after : Reached A) → Type 0
  FillsLayer k usable old new found before after = Fills k (Asked inquiry usable) old new 0 (layer_size (size_of inquiry)) found before after

  -- the layers are filled, and the end is the cheapest of them all
  pub record AllFilled (May : Pairs → Type 0) (table : List (WorkRecord A)) (reached : Reached A) : Type 0 where
    pub layers : ℕ
    pub few : layers ≤ most_rides inquiry.query.now
    pub all : AllLayers inquiry table layers
    pub elsewhere : BlankElsewhere table reached.notes
    pub known : Known m inquiry table (layer_at (size_of inquiry) layers) reached.end
    pub filled : (runs : Pairs) → May runs → Filled runs (known_total reached.end) table layers
