-- An entry's rows hold where its book's do, there is room for it, and its own stops are in order.
use Rattle.std.proofs.Common.{◌≡◌, Bool, true, false, ◌&&◌, leb, List, length, None, refl, sym, ap, ◌∙◌}
use Rattle.std.proofs.lemmas.Bool.{and_parts, leb-true}
use Rattle.book.specs.declared.rows.StopRow.{StopRow}
use Rattle.book.specs.declared.rows.TrainRow.{TrainRow}
use Rattle.book.specs.declared.state.Entry.{Entry}
use Rattle.book.specs.Limits.{most_stops_of_train}
use Rattle.book.specs.Room.{room}
use Rattle.book.specs.Stops.{few, in_order}
use Rattle.book.specs.Trains.{open_stops, holds, entry_holds}
use Rattle.book.proofs.Held.{length_open}

-- `f` stands for `g` where `r` passes
regrouped : (r f g o : Bool) → (r ≡ true → f ≡ g) → r && (f && o) ≡ (r && g) && o
regrouped false f g o same = refl
regrouped true f g o same = ap (λ x. x && o) (same refl)

module _ (e : Entry) (ts : List TrainRow) (ss : List StopRow) where
  pub entry_without_book : false ≡ holds e.book.trains e.book.stops ts ss → false ≡ entry_holds e ts ss
  unfolding entry_holds
  entry_without_book h = rw (sym h) refl

  module _ (book : true ≡ holds e.book.trains e.book.stops ts ss) where
    pub entry_room : {t : Bool} → t ≡ room e (length ts) (length ss) → entry_holds e ts ss ≡ t && in_order None (open_stops e ss)
    unfolding entry_holds
    entry_room r =
        rw (sym book, r)
        (regrouped _ (few (open_stops e ss)) (leb e.taken most_stops_of_train) _ (λ p. ap (λ n. leb n most_stops_of_train) (length_open e ss (leb-true _ _ (and_parts _ _ p).1))))

    pub entry_order : {t : Bool} → true ≡ room e (length ts) (length ss) → t ≡ in_order None (open_stops e ss) → t ≡ entry_holds e ts ss
    entry_order r o = sym (entry_room r ∙ sym o)
