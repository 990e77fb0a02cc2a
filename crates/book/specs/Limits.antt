-- The numbers that bound stations, times, trains and the book.
use Rattle.std.specs.Prelude.{ℕ}

abbrev pub last_station : ℕ
last_station = 1023

-- times count from midnight of the day on which a train sets out, and it may run through the next
abbrev pub last_minute : ℕ
last_minute = 2879

-- of one train
abbrev pub most_stops_of_train : ℕ
most_stops_of_train = 64

-- of the book
abbrev pub most_trains : ℕ
most_trains = 512

abbrev pub most_stops : ℕ
most_stops = 4096
