-- The listed exceptions: the word for a pair, and the list after a word is noted.
use Rattle.std.specs.Prelude.{ℕ, Bool, cond, ◌&&◌, ◌||◌, List, [], ◌∷◌, take, Ok, Err, Option, Result, ◌==◌, nat_lt}
use Rattle.std.specs.List.{find, list_any, position}
use Rattle.std.specs.Option.{option_map}
use Rattle.calendar.specs.Limits.{most_exceptions}
use Rattle.calendar.specs.declared.exceptions.Exception.{Exception}
use Rattle.calendar.specs.declared.exceptions.Listed.{Listed}
use Rattle.calendar.specs.declared.refusal.Refusal.{Refusal}
use Rattle.calendar.specs.declared.refusal.Refusal.TheVariants.{Full}

-- whether the exception is for the pair
abbrev pub is_for : Exception → ℕ → ℕ → Bool
is_for e code day = e.code == code && e.day == day

-- the exception with another word
abbrev pub marked : Exception → Bool → Exception
marked e word = record { code = e.code; day = e.day; runs = word }

-- the exceptions that are listed, in the first records
abbrev pub entries : Listed → List Exception
entries l = take l.count l.records

-- the index of the pair's exception
abbrev pub place : List Exception → ℕ → ℕ → Option ℕ
place es code day = position (λ e. is_for e code day) es

-- the word that is listed for the pair
abbrev pub word_of : List Exception → ℕ → ℕ → Option Bool
word_of es code day = option_map (λ e. e.runs) (find (λ e. is_for e code day) es)

-- the pair's word replaced, or the pair listed last
abbrev pub with_word : List Exception → ℕ → ℕ → Bool → List Exception
with_word [] code day word = record { code = code; day = day; runs = word } ∷ []
with_word (e ∷ es) code day word = cond (is_for e code day) (marked e word ∷ es) (e ∷ with_word es code day word)

-- a word can be noted where the pair is listed already, or fewer than 64 are
abbrev pub has_room : Listed → ℕ → ℕ → Bool
has_room l code day = list_any (λ e. is_for e code day) (entries l) || nat_lt l.count most_exceptions

abbrev pub room_answer : Bool → Result (Unit {0}) Refusal
room_answer room = cond room (Ok tt) (Err Full)

-- what noting answers ..
abbrev pub note_answer : Listed → ℕ → ℕ → Result (Unit {0}) Refusal
note_answer l code day = room_answer (has_room l code day)

-- .. and the list that it leaves
abbrev pub noted : Listed → ℕ → ℕ → Bool → List Exception
noted l code day word = cond (has_room l code day) (with_word (entries l) code day word) (entries l)
