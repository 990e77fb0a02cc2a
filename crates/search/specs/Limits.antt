-- The numbers that bound a query and the tables that a search works in.
use Rattle.connection.specs.Connections.{most_rides}
use Rattle.std.specs.Prelude.{ℕ, ◌+◌, ◌*◌, ◌/◌}
use Rattle.book.specs.Limits.{last_station, most_stops}
use Rattle.connection.specs.declared.query.Query.{Query}

-- ---- a query
abbrev pub last_minute_of_day : ℕ
last_minute_of_day = 1439

abbrev pub most_changes : ℕ
most_changes = 15

-- how many stations there are
abbrev pub stations : ℕ
stations = last_station + 1

-- ---- the work table
-- how many records a layer has over so many stops: three runs of each train, at each of its stops
abbrev pub layer_size : ℕ → ℕ
layer_size stops = 3 * stops

-- how many records are needed over so many stops: a layer for each ride
abbrev pub records_needed : ℕ → Query → ℕ
records_needed stops q = layer_size stops * most_rides q

-- the most records of a layer, and of all layers
abbrev pub most_places : ℕ
most_places = layer_size most_stops

abbrev pub most_records : ℕ
most_records = most_places * (most_changes + 1)

-- how many records are one block, and how many blocks are in the longest table that is used
abbrev pub block : ℕ
block = 64

abbrev pub blocks : ℕ
blocks = most_records / block
