-- The cheapest end that is known, once one more record is written.
use Rattle.std.proofs.Common.{◌≡◌, ℕ, suc, ◌+◌, ◌*◌, ◌<◌, ◌≤◌, Bool, true, false, cond, ◌||◌, T, List, length, set, Some, None, Option, sym, refl, ap, ◌∙◌, subst, ap₂, inl, inr, add_assoc, arith}
use Rattle.std.proofs.lemmas.Bool.{cases_lt}
use Rattle.std.proofs.lemmas.Option.{none-some, same_Some}
use Rattle.tariff.specs.Laws.{Connex, Transitive}
use Rattle.tariff.specs.Meaning.{Meaning}
use Rattle.connection.specs.Choosing.{cheaper}
use Rattle.connection.specs.Settled.{Hopeless}
use Rattle.connection.specs.Ways.{Either}
use Rattle.connection.specs.declared.label.Label.{Label}
use Rattle.connection.specs.declared.ride.Shift.{Shift}
use Rattle.connection.proofs.Best.{best_same, best_cheaper}
use Rattle.connection.proofs.Tests.{is_true}
use Rattle.search.specs.Ends.{ends_no_dearer, known_total, end_of, is_end, end_here, Ends, Known, NoDearer}
use Rattle.search.specs.Layers.{BlankFrom}
use Rattle.search.specs.Limits.{layer_size}
use Rattle.search.specs.Records.{record_of}
use Rattle.search.specs.Working.{size_of, stop_in, number, place, layer_at, part_at, label_at, label_in}
use Rattle.search.specs.declared.ends.End.{End}
use Rattle.search.specs.declared.inquiry.Inquiry.{Inquiry}
use Rattle.search.specs.declared.record.WorkRecord.{WorkRecord}
use Rattle.search.proofs.BlankRecords.{blank_label}
use Rattle.search.proofs.Chosen.{chosen_connex, chosen_trans, itself}
use Rattle.search.proofs.Layering.{next_layer, layers_below}
use Rattle.search.proofs.RowsAreTrains.{place_below, same_place}
use Rattle.search.proofs.WrittenRecords.{stands_at, kept_ahead, held_here}

-- ---- where a record stands tells its layer and its place there
layer_first : (size k x k' x' : ℕ) → x < layer_size size → k < k' → layer_at size k + x < layer_at size k' + x'
layer_first size k x k' x' h l = omega (arith, next_layer size k, layers_below size (suc k) k' (omega arith))

pub layer_ahead : (size k x layers : ℕ) → layer_at size k + x < layer_at size layers → k < layers
layer_ahead size k x layers h =
    elim (cases_lt k layers) [ inl l ↦ l | inr g ↦ absurd (omega (arith, h, layers_below size layers k g)) ]

place_ahead : (size k x k' x' : ℕ) → x < layer_size size → x' < layer_size size → layer_at size k + x ≡ layer_at size k' + x' → (k ≡ k') × (x ≡ x')
place_ahead size k x k' x' h h' e =
    let low : k' ≤ k = elim (cases_lt k k') [ inl l ↦ absurd (omega (arith, e, layer_first size k x k' x' h l)) | inr g ↦ g ] in
    let high : k ≤ k' = elim (cases_lt k' k) [ inl l ↦ absurd (omega (arith, e, layer_first size k' x' k x h' l)) | inr g ↦ g ] in
    let same : k ≡ k' = omega arith in
    (same, omega (arith, e, ap (layer_at size) same))

same_end : {A : Type 0} (a b : End A) → a.total ≡ b.total → a.layer ≡ b.layer → a.place ≡ b.place → a ≡ b
same_end a b p q r i = record { total = p i; layer = q i; place = r i }

module _ {A : Type 0} (m : Meaning A) (connex : Connex m) (transitive : Transitive m) where
  pub none_known : {P : Type 0} (inquiry : Inquiry P) (table : List (WorkRecord A)) → Known m inquiry table (layer_at (size_of inquiry) 0) None
  none_known inquiry table e x = absurd (omega (arith, x.ahead))

  -- the cheaper of two makes hopeless what the first did
  pub cheaper_no_dearer : (known p : Option (End A)) → NoDearer m known (cheaper (ends_no_dearer m) known p)
  cheaper_no_dearer None p t h = absurd h
  cheaper_no_dearer (Some a) None t h = h
  cheaper_no_dearer (Some a) (Some b) t h = go (m.at_most a.total b.total) refl
    where
      go : (c : Bool) → m.at_most a.total b.total ≡ c → Hopeless m (known_total (cond c (Some a) (Some b))) t
      go true e = h
      go false e = transitive b.total a.total t (subst (λ (c : Bool). T (c || m.at_most b.total a.total)) e (connex a.total b.total)) h

  -- ---- over blank records nothing more is known
  pub known_over : {P : Type 0} (inquiry : Inquiry P) (b c : ℕ) (table : List (WorkRecord A)) (known : Option (End A)) → b ≤ c → BlankFrom b table → Known m inquiry table b known → Known m inquiry table c known
  known_over inquiry b c table known l h =
      best_same (ends_no_dearer m) (Ends inquiry table b) (Ends inquiry table c) known
      (λ e x. record { shift = x.shift; row = x.row; label = x.label; ahead = omega (arith, l, x.ahead); inside = x.inside; off = x.off; held = x.held; total_is = x.total_is; place_is = x.place_is })
      (λ e x. record { shift = x.shift; row = x.row; label = x.label; ahead = short e x; inside = x.inside; off = x.off; held = x.held; total_is = x.total_is; place_is = x.place_is })
    where
      short : (e : End A) → Ends inquiry table c e → layer_at (size_of inquiry) e.layer + e.place < b
      short e x =
          elim (cases_lt (layer_at (size_of inquiry) e.layer + e.place) b) [
            | inl g ↦ g
            | inr g ↦
                let at = part_at (size_of inquiry) e.layer x.shift + x.row in
                let far : b ≤ at = omega (arith, g, x.place_is, add_assoc (layer_at (size_of inquiry) e.layer) (number x.shift * size_of inquiry) x.row) in
                absurd (none-some x.label (sym (blank_label b at table h far) ∙ x.held))
          ]

  -- ---- the record at a row of a layer is written
  module _ {P : Type 0} (inquiry : Inquiry P) (layer : ℕ) (s : Shift) (row at : ℕ) (inside : row < size_of inquiry) (at_is : at ≡ layer_at (size_of inquiry) layer + place (size_of inquiry) s row) (old new : List (WorkRecord A)) (o : Option (Label A)) (room : at < length old) (is_new : new ≡ set old at (record_of o)) where
    abbrev size : ℕ
    size = size_of inquiry

    abbrev Before : End A → Type 0
    Before = Ends inquiry old at

    abbrev After : End A → Type 0
    After = Ends inquiry new (at + 1)

    abbrev here : Option (End A)
    here = end_here (is_end (stop_in inquiry row) inquiry.query.now.destination) layer (place size s row) o

    stands : (k x : ℕ) (s' : Shift) (row' : ℕ) → x ≡ place size s' row' → part_at size k s' + row' ≡ layer_at size k + x
    stands = stands_at size layer s row at at_is old new o is_new

    kept : (k : ℕ) (s' : Shift) (row' : ℕ) → part_at size k s' + row' < at → label_in size new k s' row' ≡ label_in size old k s' row'
    kept = kept_ahead size layer s row at at_is old new o is_new

    held : label_in size new layer s row ≡ o
    held = held_here size layer s row at at_is old new o is_new room

    made : (e : End A) (b : Bool) → is_end (stop_in inquiry row) inquiry.query.now.destination ≡ b → (l : Option (Label A)) → o ≡ l → end_here b layer (place size s row) l ≡ Some e → After e
    made e true eb None eo y = absurd (none-some e y)
    made e true eb (Some l) eo y =
        subst After (same_Some (end_of layer (place size s row) l) e y)
        (record {
          shift = s;
          row = row;
          label = l;
          ahead = omega (arith, at_is);
          inside = inside;
          off = subst T (sym eb) tt;
          held = held ∙ eo;
          total_is = refl;
          place_is = refl;
        })
    made e false eb l eo y = absurd (none-some e y)

    to_after : (e : End A) → Either Before (λ e. here ≡ Some e) e → After e
    to_after e (inl x) =
        record {
          shift = x.shift;
          row = x.row;
          label = x.label;
          ahead = omega (arith, x.ahead);
          inside = x.inside;
          off = x.off;
          held = kept e.layer x.shift x.row (omega (arith, x.ahead, stands e.layer e.place x.shift x.row x.place_is)) ∙ x.held;
          total_is = x.total_is;
          place_is = x.place_is;
        }
    to_after e (inr y) = made e (is_end (stop_in inquiry row) inquiry.query.now.destination) refl o refl y

    is_here : (e : End A) → After e → layer_at size e.layer + e.place ≡ at → here ≡ Some e
    is_here e x f =
        let far : e.place < layer_size size = omega (arith, x.place_is, place_below x.shift size x.row x.inside) in
        let where_is = place_ahead size e.layer e.place layer (place size s row) far (place_below s size row inside) (f ∙ at_is) in
        let which = same_place x.shift s size x.row row x.inside inside (sym x.place_is ∙ where_is.1) in
        let off : T (is_end (stop_in inquiry row) inquiry.query.now.destination) = subst (λ (r : ℕ). T (is_end (stop_in inquiry r) inquiry.query.now.destination)) which.1 x.off in
        let here_is : o ≡ Some x.label =
        sym held
        ∙ ap (label_at new) (stands layer (place size s row) s row refl ∙ sym at_is)
        ∙ ap (label_at new) (sym (stands e.layer e.place x.shift x.row x.place_is ∙ f))
        ∙ x.held
        in
        ap₂ (λ b l. end_here b layer (place size s row) l) (is_true _ off) here_is
        ∙ ap Some (same_end (end_of layer (place size s row) x.label) e (sym x.total_is) (sym where_is.0) (sym where_is.1))

    from_after : (e : End A) → After e → Either Before (λ e. here ≡ Some e) e
    from_after e x =
        elim (cases_lt (layer_at size e.layer + e.place) at) [
          | inl h ↦
              inl
              (record {
                shift = x.shift;
                row = x.row;
                label = x.label;
                ahead = h;
                inside = x.inside;
                off = x.off;
                held = sym (kept e.layer x.shift x.row (omega (arith, h, stands e.layer e.place x.shift x.row x.place_is))) ∙ x.held;
                total_is = x.total_is;
                place_is = x.place_is;
              })
          | inr h ↦ inr (is_here e x (omega (arith, h, x.ahead)))
        ]

    pub known_more : (known known' : Option (End A)) → known' ≡ cheaper (ends_no_dearer m) known here → Known m inquiry old at known → Known m inquiry new (at + 1) known'
    known_more known known' e best =
        rw e
        (best_same (ends_no_dearer m) (Either Before (λ e. here ≡ Some e)) After (cheaper (ends_no_dearer m) known here) to_after from_after
        (best_cheaper (ends_no_dearer m) (chosen_connex m connex transitive (λ (e : End A). e.total)) (chosen_trans m connex transitive (λ (e : End A). e.total)) Before (λ e. here ≡ Some e) known here best (itself m connex transitive (λ (e : End A). e.total) here)))

-- ---- where no label is kept, no end is
pub no_end_here : {A : Type 0} (b : Bool) (k x : ℕ) → end_here {A = A} b k x None ≡ None
no_end_here true k x = refl
no_end_here false k x = refl
