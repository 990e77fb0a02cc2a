-- What is noted of the labels, as they are written place by place.
use Rattle.std.proofs.Common.{◌≡◌, ℕ, ◌+◌, ◌*◌, ◌<◌, ◌≤◌, false, List, length, set, Some, None, Option, refl, arith}
use Rattle.tariff.specs.Laws.{Connex, Transitive}
use Rattle.tariff.specs.Meaning.{Meaning}
use Rattle.connection.specs.declared.label.Label.{Label}
use Rattle.search.specs.Layers.{BlankFrom}
use Rattle.search.specs.Notes.{no_notes, for_next_layer, noted, Noted}
use Rattle.search.specs.Records.{record_of}
use Rattle.search.specs.Working.{layer_at, beaten}
use Rattle.search.specs.declared.notes.Notes.{Notes}
use Rattle.search.specs.declared.record.WorkRecord.{WorkRecord}
use Rattle.search.specs.Limits.{block, layer_size, blocks, most_places}
use Rattle.search.proofs.LatestLabels.{latest_blank, latest_none, latest_some, latest_next, latest_first}
use Rattle.search.proofs.ListedPlaces.{listed_blank, listed_none, listed_some, listed_next, listed_first}
use Rattle.search.proofs.TouchedBlocks.{elsewhere_none, elsewhere_some, elsewhere_first}

module _ {A : Type 0} (m : Meaning A) (size k : ℕ) where
  -- ---- records are left blank
  pub noted_over : (x y : ℕ) (table : List (WorkRecord A)) (n : Notes) → x ≤ y → BlankFrom (layer_at size k + x) table → Noted m size table k x n → Noted m size table k y n
  noted_over x y table n le blanks h =
      record { listed = listed_blank size k x y table n le blanks h.listed; elsewhere = h.elsewhere; latest = latest_blank m size k x y table n le blanks h.latest }

  -- ---- the record at a place is written, with a label, if there is one, that no earlier one there beats
  pub noted_written : Connex m → Transitive m → (x at : ℕ) → at ≡ layer_at size k + x → x < layer_size size → layer_size size ≤ most_places → at < block * blocks → (old new : List (WorkRecord A)) → at < length old → (n : Notes) (o : Option (Label A)) → new ≡ set old at (record_of o) → ((l : Label A) → o ≡ Some l → beaten m size old x k l.total ≡ false) → Noted m size old k x n → Noted m size new k (x + 1) (noted n k x at o)
  noted_written connex transitive x at at_is far few_places few_records old new room n None is_new fresh h =
      record {
        listed = listed_none size k x at at_is old new room n h.listed is_new;
        elsewhere = elsewhere_none at old new n h.elsewhere room is_new;
        latest = latest_none m size k connex transitive x at at_is far few_places old new room n h.latest is_new;
      }
  noted_written connex transitive x at at_is far few_places few_records old new room n (Some l) is_new fresh h =
      record {
        listed = listed_some size k x at at_is old new room n h.listed (omega arith) l is_new;
        elsewhere = elsewhere_some at old new n h.elsewhere k x few_records l is_new;
        latest = latest_some m size k connex transitive x at at_is far few_places old new room n h.latest l is_new (fresh l refl);
      }

  -- ---- layers
  pub noted_next : (table : List (WorkRecord A)) (n : Notes) → Noted m size table k (layer_size size) n → Noted m size table (k + 1) 0 (for_next_layer n)
  noted_next table n h =
      record {
        listed = listed_next size k (layer_size size) table n h.listed;
        elsewhere = record { long = h.elsewhere.long; blank = h.elsewhere.blank };
        latest = latest_next m size k table n h.latest;
      }

pub noted_first : {A : Type 0} (m : Meaning A) (size : ℕ) (table : List (WorkRecord A)) → layer_size size ≤ most_places → BlankFrom 0 table → Noted m size table 0 0 no_notes
noted_first m size table few blanks =
    record { listed = listed_first size table; elsewhere = elsewhere_first table blanks; latest = latest_first m size table few }
