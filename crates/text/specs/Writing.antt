-- What writing a book into a lent buffer answers, and what it leaves there.
use Rattle.std.specs.Prelude.{ℕ, List, [], ◌∷◌, ◌++◌, length, drop, Ok, Err, Option, Result, nat_lt, codes}
use Rattle.book.specs.Answers.{given_unless}
use Rattle.book.specs.Reasons.{first_of, or_damaged}
use Rattle.book.specs.Refusals.{number as book_number, words as book_words}
use Rattle.book.specs.Trains.{Train, listed, meaning}
use Rattle.book.specs.declared.refusal.Refusal.TheVariants.{Damaged}
use Rattle.book.specs.declared.rows.StopRow.{StopRow}
use Rattle.book.specs.declared.rows.TrainRow.{TrainRow}
use Rattle.book.specs.declared.state.Book.{Book as ABook}
use Rattle.text.specs.Written.{text_of}
use Rattle.text.specs.declared.refusal.Refusal.{Refusal}
use Rattle.text.specs.declared.refusal.Refusal.TheVariants.{Book, ShortBuffer}

-- the number under which each refusal is known
abbrev pub number : Refusal → ℕ
number (Book r) = book_number r
number ShortBuffer = 21

-- the words for it
abbrev pub words_of : Refusal → List ℕ
words_of (Book r) = book_words r
words_of ShortBuffer = codes "the buffer is too short for the text"

-- over a plain list of trains, whose text is to fit into `room` bytes
abbrev pub write_fault : List Train → ℕ → Option Refusal
write_fault trains room = first_of ((nat_lt room (length (text_of trains)), ShortBuffer) ∷ [])

-- over the tables: where their rows mean nothing, no other reason counts
unfoldable pub write_refusal : ABook → List TrainRow → List StopRow → ℕ → Option Refusal
write_refusal b ts ss room = or_damaged (Book Damaged) (meaning b.trains b.stops ts ss) (λ trains. write_fault trains room)

-- the text of the book's trains, unless there is a reason to refuse it
unfoldable pub write : ABook → List TrainRow → List StopRow → ℕ → Result (List ℕ) Refusal
write b ts ss room = given_unless (write_refusal b ts ss room) (text_of (listed b.trains ts ss))

-- how long the text is
abbrev pub length_of : Result (List ℕ) Refusal → Result ℕ Refusal
length_of (Ok text) = Ok (length text)
length_of (Err r) = Err r

-- bytes at the front of a buffer, and behind them what stood there
abbrev pub at_front : List ℕ → List ℕ → List ℕ
at_front bs buffer = bs ++ drop (length bs) buffer

abbrev pub buffer_after : Result (List ℕ) Refusal → List ℕ → List ℕ
buffer_after (Ok text) buffer = at_front text buffer
buffer_after (Err r) buffer = buffer
