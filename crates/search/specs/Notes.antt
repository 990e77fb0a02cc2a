-- Where labels are written. Nothing that is promised rests on these words.
use Rattle.std.specs.Prelude.{◌≡◌, ℕ, zero, suc, ◌+◌, ◌<◌, ◌≤◌, ◌/◌, true, false, cond, List, length, replicate, Some, None, Option, IfSome, slice_index_or, slice_set, nat_lt}
use Rattle.tariff.specs.Meaning.{Meaning}
use Rattle.connection.specs.declared.label.Label.{Label}
use Rattle.search.specs.Limits.{layer_size, most_places, block, blocks}
use Rattle.search.specs.Records.{blank}
use Rattle.search.specs.Working.{layer_at, label_at, costs_no_more, beaten}
use Rattle.search.specs.declared.notes.Notes.{Notes}
use Rattle.search.specs.declared.record.WorkRecord.{WorkRecord}

-- ---- what is noted
abbrev pub no_notes : Notes
no_notes = record { places = replicate most_places 0; count = 0; touched = replicate blocks false; latest = replicate most_places None }

-- the places of the next layer
abbrev pub for_next_layer : Notes → Notes
for_next_layer n = record { places = n.places; count = 0; touched = n.touched; latest = n.latest }

-- a label is written at the place of the layer k, in that record of the table
abbrev pub with_note : Notes → (k place at : ℕ) → Notes
with_note n k place at =
    record {
      places = slice_set n.places n.count place;
      count = n.count + 1;
      touched = slice_set n.touched (at / block) true;
      latest = slice_set n.latest place (Some k);
    }

-- if there is one
abbrev pub noted : {A : Type 0} → Notes → (k place at : ℕ) → Option (Label A) → Notes
noted n k place at None = n
noted n k place at (Some l) = with_note n k place at

-- ---- what that says
-- behind the first j places
abbrev pub past : Notes → ℕ → ℕ
past n zero = zero
past n (suc j) = suc (slice_index_or n.places j 0)

-- up to the next of them, or to x where there is none
abbrev pub up_to : Notes → (x j : ℕ) → ℕ
up_to n x j = cond (nat_lt j n.count) (slice_index_or n.places j 0) x

module _ {A : Type 0} where
  -- no other place of the layer k ahead of x has a label
  pub record Listed (size k x : ℕ) (table : List (WorkRecord A)) (n : Notes) : Type 0 where
    pub long : length n.places ≡ most_places
    pub few : n.count ≤ x
    pub inside : (j : ℕ) → j < n.count → slice_index_or n.places j 0 < x
    pub rising : (j : ℕ) → j ≤ n.count → past n j ≤ up_to n x j
    pub none_between : (j z : ℕ) → j ≤ n.count → past n j ≤ z → z < up_to n x j → label_at table (layer_at size k + z) ≡ None

  -- the records of blocks that are not touched are blank
  pub record BlankElsewhere (table : List (WorkRecord A)) (n : Notes) : Type 0 where
    pub long : length n.touched ≡ blocks
    pub blank : (z : ℕ) → slice_index_or n.touched (z / block) false ≡ false → slice_index_or table z blank ≡ blank

module _ {A : Type 0} (m : Meaning A) (size : ℕ) (table : List (WorkRecord A)) where
  -- the label at the place in that layer
  abbrev pub label_of_layer : ℕ → Option ℕ → Option (Label A)
  label_of_layer z None = None
  label_of_layer z (Some k) = label_at table (layer_at size k + z)

  -- of the labels at the place in the first layers the latest alone decides what is beaten
  pub record Decides (layers z : ℕ) (latest : Option ℕ) : Type 0 where
    pub earlier : IfSome latest (λ k. k < layers)
    pub as_all : (total : A) → costs_no_more m (label_of_layer z latest) total ≡ beaten m size table z layers total

  -- so does the one that is noted: the layer k counts ahead of x
  pub record LatestDecide (k x : ℕ) (n : Notes) : Type 0 where
    pub long : length n.latest ≡ most_places
    pub ahead : (z : ℕ) → z < x → z < layer_size size → Decides (suc k) z (slice_index_or n.latest z None)
    pub behind : (z : ℕ) → x ≤ z → z < layer_size size → Decides k z (slice_index_or n.latest z None)

  -- all that is noted
  pub record Noted (k x : ℕ) (n : Notes) : Type 0 where
    pub listed : Listed size k x table n
    pub elsewhere : BlankElsewhere table n
    pub latest : LatestDecide k x n
