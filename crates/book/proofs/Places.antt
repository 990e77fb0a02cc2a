-- The place of a number among the train rows.
use Rattle.std.proofs.Common.{◌≡◌, ℕ, suc, ◌+◌, Bool, true, false, cond, ◌||◌, eqb, ltb, List, [], ◌∷◌, length, is_some, Some, None, sym, refl, ap, ◌∙◌, arith}
use lib.Dec.{leb-suc-suc}
use Rattle.std.specs.List.{position_or_len}
use Rattle.std.proofs.lemmas.List.Recursion.{is_position_or_len}
use Rattle.std.proofs.lemmas.Bool.{lt-ltb}
use Rattle.book.specs.declared.rows.StopRow.{StopRow}
use Rattle.book.specs.declared.rows.TrainRow.{TrainRow}
use Rattle.book.specs.Trains.{trains_in, known}
use Rattle.book.specs.Answers.{place, place_if_any}

pub known_place : (n : ℕ) (rows : List TrainRow) (stops : List StopRow) → known n (trains_in rows stops) ≡ ltb (place n rows) (length rows)
known_place n [] stops = refl
known_place n (r ∷ rs) stops = go (eqb r.number n) (known_place n rs stops ∙ sym (leb-suc-suc (suc (place n rs)) (length rs)))
  where
    go : (b : Bool) → known n (trains_in rs stops) ≡ ltb (suc (place n rs)) (suc (length rs)) → (b || known n (trains_in rs stops)) ≡ ltb (cond b 0 (suc (place n rs))) (suc (length rs))
    go true rest = sym (lt-ltb 0 (suc (length rs)) (omega arith))
    go false rest = rest

place_is_position : (n : ℕ) (rows : List TrainRow) → place n rows ≡ position_or_len (λ (r : TrainRow). eqb r.number n) rows
place_is_position n rows =
    is_position_or_len (place n) (λ (r : TrainRow). eqb r.number n) refl
    (λ r rs. let e : suc (place n rs) ≡ 1 + place n rs = omega arith in ap (cond (eqb r.number n) 0) e) rows

-- the place is a row where there is such a row
pub place_if_any_is : (n : ℕ) (rows : List TrainRow) → place_if_any n rows ≡ cond (ltb (place n rows) (length rows)) (Some (place n rows)) None
place_if_any_is n rows = rw (place_is_position n rows) refl

is_some_cond : (b : Bool) (k : ℕ) → is_some (cond b (Some k) None) ≡ b
is_some_cond true k = refl
is_some_cond false k = refl

pub known_found : (n : ℕ) (rows : List TrainRow) (stops : List StopRow) → known n (trains_in rows stops) ≡ is_some (place_if_any n rows)
known_found n rows stops =
    known_place n rows stops ∙ sym (ap is_some (place_if_any_is n rows) ∙ is_some_cond (ltb (place n rows) (length rows)) (place n rows))
