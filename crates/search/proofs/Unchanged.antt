-- What the layers before a layer tell is the same in two tables that agree on them, and stays so where a cheaper end is known.
use Rattle.connection.specs.Rides.{ride}
use Rattle.std.proofs.Common.{◌≡◌, ℕ, zero, suc, ◌+◌, ◌-◌, ◌*◌, ◌<◌, ◌≤◌, List, [], ◌∷◌, ◌++◌, get_or, Option, sym, ap, ◌∙◌, subst, add_assoc, arith}
use Rattle.tariff.specs.Meaning.{Meaning}
use Rattle.book.specs.declared.rows.StopRow.{StopRow}
use Rattle.book.specs.declared.rows.TrainRow.{TrainRow}
use Rattle.calendar.specs.Pairs.{Pairs}
use Rattle.connection.specs.Settled.{SettlesBoarding}
use Rattle.connection.specs.Ways.{Arrives}
use Rattle.connection.specs.declared.label.Label.{Label}
use Rattle.connection.specs.declared.query.Query.{Query}
use Rattle.connection.specs.declared.ride.Ride.{Ride}
use Rattle.connection.specs.declared.ride.Shift.{Shift}
use Rattle.connection.proofs.Settling.{settles_same, excused_more}
use Rattle.search.specs.Chains.{LinkedBefore, promising}
use Rattle.search.specs.Ends.{known_total, NoDearer}
use Rattle.search.specs.Layers.{row_of, Spot, Trail, Holds, Filled, UnchangedBelow}
use Rattle.search.specs.Limits.{layer_size}
use Rattle.search.specs.Records.{blank, label_of}
use Rattle.search.specs.Working.{size_of, asked_over, number, layer_at, part_at, label_in, if_promising}
use Rattle.search.specs.declared.chains.Arrivals.{Arrivals}
use Rattle.search.specs.declared.ends.End.{End}
use Rattle.search.specs.declared.inquiry.Inquiry.{Inquiry}
use Rattle.search.specs.declared.record.WorkRecord.{WorkRecord}
use Rattle.search.proofs.Chaining.{chained_same}
use Rattle.search.proofs.Layering.{next_layer, layers_below}
use Rattle.search.proofs.RowsAreTrains.{fits, place_below}

module _ {A : Type 0} where
  pub unchanged_sym : (b : ℕ) (old new : List (WorkRecord A)) → UnchangedBelow b old new → UnchangedBelow b new old
  unchanged_sym b old new h z l = sym (h z l)

  pub unchanged_less : (b c : ℕ) (old new : List (WorkRecord A)) → c ≤ b → UnchangedBelow b old new → UnchangedBelow c old new
  unchanged_less b c old new l h z k = h z (omega arith)

  pub unchanged_then : (b c : ℕ) (old mid new : List (WorkRecord A)) → b ≤ c → UnchangedBelow b old mid → UnchangedBelow c mid new → UnchangedBelow b old new
  unchanged_then b c old mid new l h k z w = k z (omega arith) ∙ h z w

  -- ---- the label of a row of a layer before
  pub label_same : (size k layer : ℕ) (s : Shift) (row : ℕ) (old new : List (WorkRecord A)) → k < layer → row < size → UnchangedBelow (layer_at size layer) old new → label_in size new k s row ≡ label_in size old k s row
  label_same size k layer s row old new l h u =
      ap label_of (u (part_at size k s + row) (omega (arith, add_assoc (layer_at size k) (number s * size) row, place_below s size row h, next_layer size k, layers_below size (suc k) layer l)))

-- ---- chains
pub linked_same : {P A : Type 0} (m : Meaning A) (inquiry : Inquiry P) (layer : ℕ) (old new : List (WorkRecord A)) (a : Arrivals A) (before after : Option (End A)) → UnchangedBelow (layer_at (size_of inquiry) layer) old new → NoDearer m before after → LinkedBefore m inquiry old layer a before → LinkedBefore m inquiry new layer a after
linked_same m inquiry layer old new a before after u better h =
    let size = size_of inquiry in
    let known = known_total a.known in
    record {
      chained = λ later. chained_same inquiry (promising m inquiry old known (layer - 1)) (promising m inquiry new known (layer - 1)) (layer_size size) (λ s row i w. ap (if_promising m known) (label_same size (layer - 1) layer s row old new (omega arith) i u)) a (h.chained later);
      no_dearer = λ t w. better t (h.no_dearer t w);
    }

-- ---- trails
module _ {P A : Type 0} (m : Meaning A) (inquiry : Inquiry P) (runs : Pairs) where
  abbrev rows : List TrainRow
  rows = inquiry.trains.now

  abbrev stops : List StopRow
  stops = inquiry.stops.now

  abbrev q : Query
  q = inquiry.query.now

  spot_below : (n : ℕ) (s : Shift) (i f : ℕ) → Spot inquiry n s i f → f < layer_size (size_of inquiry)
  spot_below n s i f p =
      let inside = fits rows stops inquiry.ordered n p.in_force in
      let within = p.on_the_train in
      omega (arith, p.is, place_below s (size_of inquiry) (row_of rows n i) (omega arith))

  pub trail_same : (k f : ℕ) (rides : List Ride) (old new : List (WorkRecord A)) → UnchangedBelow (layer_at (size_of inquiry) k) old new → Trail inquiry old k f rides → Trail inquiry new k f rides
  trail_same zero f rides old new u t = t
  trail_same (suc k) f rides old new u t =
      let size = size_of inquiry in
      let same : get_or new (layer_at size k + f) blank ≡ get_or old (layer_at size k + f) blank = u (layer_at size k + f) (omega (arith, next_layer size k, spot_below t.0 t.1 t.2 f t.3)) in
      let less : UnchangedBelow (layer_at size k) old new = unchanged_less (layer_at size (suc k)) (layer_at size k) old new (layers_below size k (suc k) (omega arith)) u in (
        t.0,
        t.1,
        t.2,
        t.3,
        t.4,
        subst (λ (g : ℕ). Trail inquiry new k g t.4) (sym (ap (λ (r : WorkRecord A). r.from) same)) (trail_same k (get_or old (layer_at size k + f) blank).from t.4 old new less t.5),
        t.6 ∙ ap (λ b. t.4 ++ (ride t.0 t.1 b t.2 ∷ [])) (sym (ap (λ (r : WorkRecord A). r.board) same)),
      )

  pub holds_same : (known : Option A) (k n : ℕ) (s : Shift) (i : ℕ) (o : Option (Label A)) (old new : List (WorkRecord A)) → UnchangedBelow (layer_at (size_of inquiry) k) old new → Holds m inquiry runs known old k n s i o → Holds m inquiry runs known new k n s i o
  holds_same known k n s i o old new u h =
      settles_same m _ _ _ _ _ _ o (λ t x. x) (λ t x. x) (λ t d. d) (λ l x. (x.0, x.1, trail_same k l.from x.0.boarded.rides old new u x.2)) h

  pub boarding_same : (known : Option A) (k n : ℕ) (s : Shift) (i : ℕ) (o : Option (Label A)) (old new : List (WorkRecord A)) → UnchangedBelow (layer_at (size_of inquiry) k) old new → SettlesBoarding m (asked_over inquiry runs) q (Trail inquiry old k) known k n s i o → SettlesBoarding m (asked_over inquiry runs) q (Trail inquiry new k) known k n s i o
  boarding_same known k n s i o old new u h =
      settles_same m _ _ _ _ _ _ o (λ t x. x) (λ t x. x) (λ t d. d) (λ l x. (x.0, x.1, trail_same k l.from x.0.rides old new u x.2)) h

  pub filled_same : (known : Option A) (layers : ℕ) (old new : List (WorkRecord A)) → UnchangedBelow (layer_at (size_of inquiry) layers) old new → Filled m inquiry runs known old layers → Filled m inquiry runs known new layers
  filled_same known layers old new u f k n s i lk ln li =
      let size = size_of inquiry in
      let row = row_of rows n i in
      let inside = fits rows stops inquiry.ordered n ln in
      let less : UnchangedBelow (layer_at size k) old new = unchanged_less (layer_at size layers) (layer_at size k) old new (layers_below size k layers (omega arith)) u in
      subst (Holds m inquiry runs known new k n s i) (sym (label_same size k layers s row old new lk (omega arith) u)) (holds_same known k n s i (label_in size old k s row) old new less (f k n s i lk ln li))

  -- ---- where a cheaper end is known
  module _ (before after : Option (End A)) (better : NoDearer m before after) where
    pub holds_still : (k n : ℕ) (s : Shift) (i : ℕ) (o : Option (Label A)) (table : List (WorkRecord A)) → Holds m inquiry runs (known_total before) table k n s i o → Holds m inquiry runs (known_total after) table k n s i o
    holds_still k n s i o table h =
        settles_same m _ _ _ _ _ _ o (λ t x. x) (λ t x. x) (excused_more m (λ j. Arrives m (asked_over inquiry runs) q j n s i) k (known_total before) (known_total after) better) (λ l x. x) h

    pub filled_still : (layers : ℕ) (table : List (WorkRecord A)) → Filled m inquiry runs (known_total before) table layers → Filled m inquiry runs (known_total after) table layers
    filled_still layers table f k n s i lk ln li = holds_still k n s i (label_in (size_of inquiry) table k s (row_of rows n i)) table (f k n s i lk ln li)
