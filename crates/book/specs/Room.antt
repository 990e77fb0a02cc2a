-- What an entry asks of the tables' lengths, whatever their rows hold: only for how its rows are looked over.
use Rattle.std.specs.Prelude.{ℕ, ◌+◌, Bool, ◌&&◌, nat_le, nat_lt}
use Rattle.book.specs.Limits.{most_stops_of_train, most_trains, most_stops}
use Rattle.book.specs.declared.state.Entry.{Entry}

-- there is a row for the entry's train, and its stops fit the limits and the stop table
abbrev pub room : Entry → ℕ → ℕ → Bool
room e train_rows stop_rows =
    nat_lt e.book.trains most_trains && nat_lt e.book.trains train_rows
    && nat_le (e.book.stops + e.taken) most_stops && nat_le (e.book.stops + e.taken) stop_rows && nat_le e.taken most_stops_of_train
