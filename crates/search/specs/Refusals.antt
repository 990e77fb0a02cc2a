-- Why a search is refused ahead of looking for a connection: the earliest listed reason, and its number.
use Rattle.connection.specs.Connections.{most_rides}
use Rattle.std.specs.Prelude.{ℕ, Bool, ◌||◌, List, [], ◌∷◌, Option, ◌==◌, nat_le, nat_lt, codes}
use Rattle.book.specs.Limits.{last_station}
use Rattle.book.specs.Reasons.{first_of, or_damaged}
use Rattle.book.specs.Refusals.{number as book_number, words as book_words}
use Rattle.book.specs.Trains.{Train, all_stops, meaning}
use Rattle.book.specs.declared.refusal.Refusal.TheVariants.{Damaged}
use Rattle.connection.specs.Clock.{last_day}
use Rattle.connection.specs.declared.query.Query.{Query}
use Rattle.search.specs.Limits.{last_minute_of_day, most_changes, records_needed}
use Rattle.search.specs.declared.refusal.Refusal.{Refusal}
use Rattle.search.specs.declared.refusal.Refusal.TheVariants.{Book, BadQuery, SameStation, ShortRides, ShortWork, NoConnection}
use Rattle.search.specs.declared.timetable.Timetable.{Timetable as Lent}

-- the number under which each refusal is known
abbrev pub number : Refusal → ℕ
number (Book r) = book_number r
number BadQuery = 13
number SameStation = 14
number ShortRides = 15
number ShortWork = 16
number NoConnection = 17

-- the words for it
abbrev pub words_of : Refusal → List ℕ
words_of (Book r) = book_words r
words_of BadQuery = codes "a station, the day, the minute or the change limit is out of bounds"
words_of SameStation = codes "origin and destination are equal"
words_of ShortRides = codes "the ride list is too short"
words_of ShortWork = codes "the work table is too short"
words_of NoConnection = codes "no connection"

-- a query that cannot be asked: its day has a day before it and a day after it
abbrev pub bad_query : Query → Bool
bad_query q =
    nat_lt last_station q.origin || nat_lt last_station q.destination || q.day == 0 || nat_le last_day q.day || nat_lt last_minute_of_day q.minute
    || nat_lt most_changes q.changes

-- the reasons in their order, over a book with so many stops in use, with a ride list and a work table of these lengths
abbrev pub query_reasons : Query → (stops ride_room work_room : ℕ) → List (Bool × Refusal)
query_reasons q stops ride_room work_room =
    (bad_query q, BadQuery)
    ∷ (q.origin == q.destination, SameStation)
    ∷ (nat_lt ride_room (most_rides q), ShortRides)
    ∷ (nat_lt work_room (records_needed stops q), ShortWork)
    ∷ []

abbrev pub query_refusal : Query → (stops ride_room work_room : ℕ) → Option Refusal
query_refusal q stops ride_room work_room = first_of (query_reasons q stops ride_room work_room)

-- over a plain list of trains
abbrev pub query_fault : List Train → Query → (ride_room work_room : ℕ) → Option Refusal
query_fault trains q ride_room work_room = query_refusal q (all_stops trains) ride_room work_room

-- over what is lent: where its rows mean nothing, no other reason counts
unfoldable pub search_refusal : {C : Type 0} → Lent C → Query → (ride_room work_room : ℕ) → Option Refusal
search_refusal t q ride_room work_room =
    or_damaged (Book Damaged) (meaning t.book.now.trains t.book.now.stops t.trains.now t.stops.now) (λ trains. query_fault trains q ride_room work_room)
