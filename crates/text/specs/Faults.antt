-- What is wrong with a text, and where: its number, line, column and layer.
use Rattle.std.specs.Prelude.{ℕ, List, codes}
use Rattle.book.specs.Refusals.{number as book_number, words as book_words}
use Rattle.book.specs.declared.refusal.Refusal.{Refusal}
use Rattle.book.specs.declared.state.Book.{Book as ABook}
use Rattle.text.specs.declared.fault.Cause.{Cause}
use Rattle.text.specs.declared.fault.Cause.TheVariants.{Names, Malformed, Differs, Book}
use Rattle.text.specs.declared.fault.Fault.{Fault}
use Rattle.text.specs.declared.fault.Layer.{Layer}
use Rattle.text.specs.declared.fault.Layer.TheVariants as layers
use Rattle.text.specs.declared.fault.Misread.{Misread}

-- the number under which each cause is known
abbrev pub number : Cause → ℕ
number Names = 18
number Malformed = 19
number Differs = 20
number (Book r) = book_number r

-- the layer that finds it: the text itself, or the book that the text fills
abbrev pub layer : Cause → Layer
layer Names = layers.Text
layer Malformed = layers.Text
layer Differs = layers.Text
layer (Book r) = layers.Book

abbrev pub layer_number : Layer → ℕ
layer_number layers.Text = 1
layer_number layers.Book = 2

-- the words for it
abbrev pub words_of : Cause → List ℕ
words_of Names = codes "the first line is not the line of names"
words_of Malformed = codes "the line or field is malformed"
words_of Differs = codes "the train, code or features differ from those of the open train"
words_of (Book r) = book_words r

abbrev pub fault : Cause → ℕ → ℕ → Fault
fault cause line column = record { cause = cause; line = line; column = column }

-- ---- each fault has its place; columns and lines count from 1, and 0 stands for a whole line, or for all of the text
abbrev pub wrong_names : Fault
wrong_names = fault Names 1 0

-- in the line k, at a field's column, or 0 for a wrong count of fields or a missing line feed
abbrev pub malformed : ℕ → ℕ → Fault
malformed k column = fault Malformed k column

abbrev pub differs : ℕ → Fault
differs k = fault Differs k 1

abbrev pub refused : ℕ → Refusal → Fault
refused k r = fault (Book r) k 0

-- a book that could not be filled to the end, as it was left, and why
abbrev pub misread : ABook → Fault → Misread
misread b f = record { book = b; fault = f }
