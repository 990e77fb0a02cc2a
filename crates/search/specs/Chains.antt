-- The places of a layer with a promising label, chained by station, the last of a station first.
use Rattle.std.specs.Prelude.{◌≡◌, ℕ, zero, suc, ◌-◌, ◌<◌, ◌≤◌, Bool, true, false, ◌&&◌, nat_le, cond, min, List, length, replicate, is_some, Some, None, Option, IfSome, slice_index_or, slice_set, ◌==◌, ◌+◌}
use Rattle.tariff.specs.Meaning.{Meaning}
use Rattle.book.specs.Answers.{train_row}
use Rattle.book.specs.Limits.{last_station}
use Rattle.book.specs.declared.rows.StopRow.{StopRow}
use Rattle.connection.specs.Clock.{midnight, ready}
use Rattle.connection.specs.Rides.{may_board, may_alight, departure, reaches_at}
use Rattle.connection.specs.declared.label.Label.{Label}
use Rattle.connection.specs.declared.query.Query.{Query}
use Rattle.connection.specs.declared.ride.Shift.{Shift}
use Rattle.search.specs.Ends.{known_total, NoDearer}
use Rattle.search.specs.Limits.{stations, layer_size, most_places}
use Rattle.search.specs.Working.{size_of, stop_in, place, label_in, if_promising}
use Rattle.search.specs.declared.chains.Arrivals.{Arrivals}
use Rattle.search.specs.declared.ends.End.{End}
use Rattle.search.specs.declared.inquiry.Inquiry.{Inquiry}
use Rattle.search.specs.declared.record.WorkRecord.{WorkRecord}

-- ---- what is written in the chains
-- the minute at which nobody comes
abbrev pub never : ℕ
never = 65535

-- the minute at which who is on board the run of that shift comes to the stop, if one may alight there
abbrev pub comes : Query → StopRow → Shift → ℕ
comes q stop s = cond (may_alight stop) (reaches_at q s stop) never

-- before the first layer, which clears them, nothing counts but that no end is known
abbrev pub no_arrivals : {A : Type 0} → Arrivals A
no_arrivals = record { heads = replicate stations None; nexts = replicate most_places None; minutes = replicate most_places 0; earliest = replicate stations 0; known = None }

-- the chains of a new layer: what comes next counts only behind a first place
abbrev pub cleared : {A : Type 0} → Arrivals A → Option (End A) → Arrivals A
cleared a known = record { heads = replicate stations None; nexts = a.nexts; minutes = a.minutes; earliest = replicate stations never; known = known }

-- the place becomes the first of the station, where it comes at the minute
abbrev pub with_arrival : {A : Type 0} → Arrivals A → (station minute x : ℕ) → Arrivals A
with_arrival a station minute x =
    record {
      heads = slice_set a.heads station (Some x);
      nexts = slice_set a.nexts x (slice_index_or a.heads station None);
      minutes = slice_set a.minutes x minute;
      earliest = slice_set a.earliest station (min (slice_index_or a.earliest station never) minute);
      known = a.known;
    }

-- ---- what that says
-- the places of a chain lie ahead of this: behind its first place, or the start where it has none
abbrev pub behind : Option ℕ → ℕ
behind None = zero
behind (Some x) = suc x

module _ {P A : Type 0} (inquiry : Inquiry P) (label : Shift → ℕ → Option (Label A)) where
  -- the place has a label of the station
  pub record ArrivesAt (station x : ℕ) : Type 0 where
    pub shift : Shift
    pub row : ℕ
    pub inside : row < size_of inquiry
    pub is : x ≡ place (size_of inquiry) shift row
    pub here : (stop_in inquiry row).station ≡ station
    pub labelled : is_some (label shift row) ≡ true

  -- b is the last place ahead of a with a label of the station, or none is there
  pub record Link (station a : ℕ) (b : Option ℕ) : Type 0 where
    pub ahead : behind b ≤ a
    pub passed_over : (s : Shift) (row : ℕ) → row < size_of inquiry → behind b ≤ place (size_of inquiry) s row → place (size_of inquiry) s row < a → (stop_in inquiry row).station ≡ station → label s row ≡ None
    pub arrives : IfSome b (ArrivesAt station)

  -- the chains of the places ahead of a
  pub record Chained (a : ℕ) (arrivals : Arrivals A) : Type 0 where
    pub long_heads : length arrivals.heads ≡ stations
    pub long_nexts : length arrivals.nexts ≡ most_places
    pub long_minutes : length arrivals.minutes ≡ most_places
    pub long_earliest : length arrivals.earliest ≡ stations
    pub first : (station : ℕ) → station ≤ last_station → Link station a (slice_index_or arrivals.heads station None)
    pub next : (station x : ℕ) → x < a → ArrivesAt station x → Link station x (slice_index_or arrivals.nexts x None)
    pub minute : (station x : ℕ) → x < a → (w : ArrivesAt station x) → slice_index_or arrivals.minutes x 0 ≡ comes inquiry.query.now (stop_in inquiry w.row) w.shift
    pub not_before : (station x : ℕ) → x < a → (w : ArrivesAt station x) → slice_index_or arrivals.earliest station never ≤ comes inquiry.query.now (stop_in inquiry w.row) w.shift

-- ---- which runs can be boarded
-- the minute from which on one is at the station after so many changes: at the start at the origin, later where somebody has come
-- with a change less
abbrev pub there_from : {A : Type 0} → Arrivals A → (k : ℕ) → Query → (station : ℕ) → ℕ
there_from arrivals zero q station = cond (station == q.origin) (ready q) never
there_from arrivals (suc k) q station = slice_index_or arrivals.earliest station never

-- by how many minutes one misses the run of the day before at the stop
abbrev pub missed_at : {A : Type 0} → Arrivals A → (k : ℕ) → Query → StopRow → ℕ
missed_at arrivals k q stop = there_from arrivals k q stop.station - departure stop

-- one may board the run of that shift at the stop, and is there when it leaves
abbrev pub may_be_caught : {A : Type 0} → Arrivals A → (k : ℕ) → Query → StopRow → Shift → Bool
may_be_caught arrivals k q stop s = may_board stop && nat_le (missed_at arrivals k q stop) (midnight q s)

module _ {P A : Type 0} (inquiry : Inquiry P) (k : ℕ) (arrivals : Arrivals A) (n : ℕ) (s : Shift) where
  abbrev caught : ℕ → Bool
  caught i = may_be_caught arrivals k inquiry.query.now (stop_in inquiry ((train_row n inquiry.trains.now).first + i)) s

  -- the run can be caught at none of its stops
  abbrev pub OutOfReach : Type 0
  OutOfReach = (i : ℕ) → i < (train_row n inquiry.trains.now).count → caught i ≡ false

  -- it can be caught at one of them
  abbrev pub WithinReach : Type 0
  WithinReach = (i : ℕ) × (i < (train_row n inquiry.trains.now).count) × (caught i ≡ true)

-- for each train by how many minutes its run of the day before is missed: a run of a later shift leaves that much later, and is out of
-- reach where this does not make up for it
abbrev pub TellsMissed : {P A : Type 0} → Inquiry P → ℕ → Arrivals A → List ℕ → Shift → Type 0
TellsMissed inquiry k arrivals missed s =
    (n : ℕ) → n < length inquiry.trains.now → midnight inquiry.query.now s < slice_index_or missed n 0 → OutOfReach inquiry k arrivals n s

module _ {P A : Type 0} (m : Meaning A) (inquiry : Inquiry P) (table : List (WorkRecord A)) where
  -- the labels of the layer k of which something can come, where a connection is known at that total
  abbrev pub promising : Option A → ℕ → Shift → ℕ → Option (Label A)
  promising known k s row = if_promising m known (label_in (size_of inquiry) table k s row)

  -- those that were promising when the arrivals were taken
  abbrev pub taken : ℕ → Arrivals A → Shift → ℕ → Option (Label A)
  taken k arrivals = promising (known_total arrivals.known) k

  -- they are chained, all of the layer k
  abbrev pub ChainedLayer : ℕ → Arrivals A → Type 0
  ChainedLayer k arrivals = Chained inquiry (taken k arrivals) (layer_size (size_of inquiry)) arrivals

  -- the chains of the layer before the layer k, if there is one, by an end that is no cheaper than the one known now
  pub record LinkedBefore (k : ℕ) (arrivals : Arrivals A) (end : Option (End A)) : Type 0 where
    pub chained : 0 < k → ChainedLayer (k - 1) arrivals
    pub no_dearer : NoDearer m arrivals.known end
