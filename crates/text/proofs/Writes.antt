-- What writing answers and leaves in the buffer, by whether the rows hold and the text fits.
use Rattle.std.proofs.Common.{◌≡◌, ℕ, ◌≤◌, true, false, List, ◌++◌, length, drop, Ok, Err, nat_lt, nat_le, zero-add, refl, sym, ap, ◌∙◌, arith}
use Rattle.std.proofs.lemmas.Bool.Decides.{nat_tests}
use Rattle.book.specs.Answers.{given_unless, check_answer}
use Rattle.book.specs.Trains.{holds, listed}
use Rattle.book.specs.declared.refusal.Refusal.{Refusal as BookRefusal}
use Rattle.book.specs.declared.rows.StopRow.{StopRow}
use Rattle.book.specs.declared.rows.TrainRow.{TrainRow}
use Rattle.book.specs.declared.state.Book.{Book as ABook}
use Rattle.book.proofs.RefusedBy.{check_passed, check_failed}
use Rattle.text.specs.Puts.{Put}
use Rattle.text.specs.Writing.{write_fault, write_refusal, write}
use Rattle.text.specs.Written.{text_of}
use Rattle.text.specs.declared.refusal.Refusal.TheVariants.{Book, ShortBuffer}

module _ (b : ABook) (ts : List TrainRow) (ss : List StopRow) where
  pub write_damaged : (room : ℕ) (r : BookRefusal) → check_answer b ts ss ≡ Err r → write b ts ss room ≡ Err (Book r)
  unfolding write write_refusal
  write_damaged room r e = let f = check_failed b ts ss r (sym e) in rw (f.0, f.1) refl

  -- ---- the check passes; n is how many trains the book says it has
  module _ {u : Unit {0}} (passes : check_answer b ts ss ≡ Ok u) (n : ℕ) (e : n ≡ b.trains) where
    held : holds b.trains b.stops ts ss ≡ true
    held = check_passed b ts ss (sym passes)

    pub rows_fit : n ≤ length ts
    unfolding holds
    rows_fit = let h = held in grind (arith, nat_tests)

    write_by_length : (room : ℕ) → write b ts ss room ≡ given_unless (write_fault (listed n ts ss) room) (text_of (listed n ts ss))
    unfolding write write_refusal
    write_by_length room = rw (held, e) refl

    pub write_short : (room : ℕ) → nat_le (length (text_of (listed n ts ss))) room ≡ false → write b ts ss room ≡ Err ShortBuffer
    write_short room h =
        let short : nat_lt room (length (text_of (listed n ts ss))) ≡ true = grind (arith, nat_tests) in
        write_by_length room ∙ rw short refl

    pub write_fits : (room : ℕ) → nat_le (length (text_of (listed n ts ss))) room ≡ true → write b ts ss room ≡ Ok (text_of (listed n ts ss))
    write_fits room h =
        let fits : nat_lt room (length (text_of (listed n ts ss))) ≡ false = grind (arith, nat_tests) in
        write_by_length room ∙ rw fits refl

-- bytes that are put at the front
pub put_at_front : (text buffer : List ℕ) (end : ℕ) (new : List ℕ) → Put text 0 buffer end new → (end ≡ length text) × (new ≡ text ++ drop (length text) buffer)
put_at_front text buffer end new p =
    (p.ends ∙ zero-add (length text), p.bytes ∙ ap (λ (k : ℕ). text ++ drop k buffer) (zero-add (length text)))
