-- Why a call is refused: the earliest listed reason, and its number.
use Rattle.std.specs.Prelude.{ℕ, ◌+◌, Bool, not, ◌||◌, List, [], ◌∷◌, ◌++◌, length, None, Option, codes, ◌==◌, nat_le}
use Rattle.book.specs.Limits.{most_stops_of_train, most_trains, most_stops}
use Rattle.book.specs.Reasons.{first_of, or_damaged}
use Rattle.book.specs.Stops.{stop_reasons, ended, last_of}
use Rattle.book.specs.Trains.{Train, known, all_stops, meaning, entry_meaning}
use Rattle.book.specs.declared.refusal.Refusal.{Refusal}
use Rattle.book.specs.declared.refusal.Refusal.TheVariants.{Damaged, ZeroNumber, KnownNumber, NoTrainRow, PastLast, NoStation, SameStation, WrongTimes, BadTime, NoStopRow, Unfinished, UnknownNumber}
use Rattle.book.specs.declared.rows.StopRow.{StopRow}
use Rattle.book.specs.declared.rows.TrainRow.{TrainRow}
use Rattle.book.specs.declared.state.Book.{Book}
use Rattle.book.specs.declared.state.Entry.{Entry}

-- the number under which each refusal is known
abbrev pub number : Refusal → ℕ
number Damaged = 1
number ZeroNumber = 2
number KnownNumber = 3
number NoTrainRow = 4
number PastLast = 5
number NoStation = 6
number SameStation = 7
number WrongTimes = 8
number BadTime = 9
number NoStopRow = 10
number Unfinished = 11
number UnknownNumber = 12

-- what is said of each, by its bytes
abbrev pub words : Refusal → List ℕ
words Damaged = codes "the tables do not hold what the book says"
words ZeroNumber = codes "a train's number is not 0"
words KnownNumber = codes "the number is in the book"
words NoTrainRow = codes "there is no room for another train"
words PastLast = codes "the train has come to its last stop"
words NoStation = codes "a station is at most 1023"
words SameStation = codes "the station is that of the stop before"
words WrongTimes = codes "the first stop has a departure alone, a later one an arrival"
words BadTime = codes "a time is above 2879 or out of order"
words NoStopRow = codes "there is no room for another stop"
words Unfinished = codes "the train has not come to a last stop"
words UnknownNumber = codes "no train has the number"

-- ---- over a plain list of trains
-- no train can be added: `used` rows are in use, and `rows` is the length of the train table
abbrev pub no_train_row : ℕ → ℕ → Bool
no_train_row rows used = nat_le most_trains used || nat_le rows used

abbrev pub begin_reasons : ℕ → List Train → ℕ → List (Bool × Refusal)
begin_reasons rows trains n =
    (n == 0, ZeroNumber)
    ∷ (known n trains, KnownNumber)
    ∷ (no_train_row rows (length trains), NoTrainRow)
    ∷ []

abbrev pub begin_fault : ℕ → List Train → ℕ → Option Refusal
begin_fault rows trains n = first_of (begin_reasons rows trains n)

-- no stop can be added: `taken` are the train's, `used` the book's with them, and `rows` the stop table's
abbrev pub no_stop_row : ℕ → ℕ → ℕ → Bool
no_stop_row rows used taken = nat_le most_stops_of_train taken || nat_le most_stops used || nat_le rows used

-- `opened` is the train that the stop is for
abbrev pub next_fault : ℕ → List Train → Train → StopRow → Option Refusal
next_fault rows trains opened s =
    first_of (stop_reasons (last_of None opened.stops) s
    ++ (no_stop_row rows (all_stops trains + length opened.stops) (length opened.stops), NoStopRow) ∷ [])

abbrev pub finish_fault : Train → Option Refusal
finish_fault opened = first_of ((not (ended (last_of None opened.stops)), Unfinished) ∷ [])

abbrev pub withdraw_fault : List Train → ℕ → Option Refusal
withdraw_fault trains n = first_of ((not (known n trains), UnknownNumber) ∷ [])

-- ---- over the tables: where their rows mean nothing, no other reason counts
unfoldable pub check_refusal : Book → List TrainRow → List StopRow → Option Refusal
check_refusal b trains stops = or_damaged Damaged (meaning b.trains b.stops trains stops) (λ ts. None)

unfoldable pub begin_refusal : Book → List TrainRow → List StopRow → ℕ → Option Refusal
begin_refusal b trains stops n = or_damaged Damaged (meaning b.trains b.stops trains stops) (λ ts. begin_fault (length trains) ts n)

unfoldable pub stop_refusal : Entry → List TrainRow → List StopRow → StopRow → Option Refusal
stop_refusal e trains stops s = or_damaged Damaged (entry_meaning e trains stops) (λ x. next_fault (length stops) x.0 x.1 s)

unfoldable pub finish_refusal : Entry → List TrainRow → List StopRow → Option Refusal
finish_refusal e trains stops = or_damaged Damaged (entry_meaning e trains stops) (λ x. finish_fault x.1)

unfoldable pub withdraw_refusal : Book → List TrainRow → List StopRow → ℕ → Option Refusal
withdraw_refusal b trains stops n = or_damaged Damaged (meaning b.trains b.stops trains stops) (λ ts. withdraw_fault ts n)
