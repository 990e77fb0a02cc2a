-- The texts of a list's elements, one behind the other.
use Rattle.std.proofs.Common.{◌≡◌, ℕ, ◌+◌, ◌<◌, ◌≤◌, List, [], ◌∷◌, ◌++◌, length, take, drop, get_or, flat_map, sym, ap, ◌∙◌, arith, length-append}
use Rattle.std.proofs.lemmas.List.{append-nil, take-append-drop, take-map, map_more}
use Rattle.std.proofs.lemmas.List.Concat.{flat_map-append}
use Rattle.book.specs.Trains.{trains_in, train_at}
use Rattle.book.specs.declared.rows.StopRow.{StopRow}
use Rattle.book.specs.declared.rows.TrainRow.{TrainRow}

-- the train of the next row
pub train_more : (stops : List StopRow) (rows : List TrainRow) (i : ℕ) (d : TrainRow) → i < length rows → take (i + 1) (trains_in rows stops) ≡ take i (trains_in rows stops) ++ train_at stops (get_or rows i d) ∷ []
train_more stops rows i d h =
    take-map (train_at stops) (i + 1) rows ∙ map_more (train_at stops) rows i d h ∙ ap (λ ts. ts ++ train_at stops (get_or rows i d) ∷ []) (sym (take-map (train_at stops) i rows))

module _ {X : Type 0} (text : X → List ℕ) (xs : List X) (i : ℕ) (x : X) (e : take (i + 1) xs ≡ take i xs ++ x ∷ []) where
  pub text_more : flat_map text (take (i + 1) xs) ≡ flat_map text (take i xs) ++ text x
  text_more = ap (flat_map text) e ∙ flat_map-append text (take i xs) (x ∷ []) ∙ ap (λ bs. flat_map text (take i xs) ++ bs) (append-nil (text x))

  pub length_text_more : length (flat_map text (take (i + 1) xs)) ≡ length (flat_map text (take i xs)) + length (text x)
  length_text_more = ap length text_more ∙ length-append (flat_map text (take i xs)) (text x)

  pub text_within : length (flat_map text (take i xs)) + length (text x) ≤ length (flat_map text xs)
  text_within =
      let front = flat_map text (take (i + 1) xs) in
      let behind = flat_map text (drop (i + 1) xs) in
      let all : flat_map text xs ≡ front ++ behind = ap (flat_map text) (sym (take-append-drop (i + 1) xs)) ∙ flat_map-append text (take (i + 1) xs) (drop (i + 1) xs) in
      omega (arith, length_text_more, ap length all, length-append front behind)
