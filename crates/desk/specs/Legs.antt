-- A ride as a traveller sees it.
use Rattle.std.specs.Prelude.{ℕ, min, List, Option, option_and_then, option_map, slice_get}
use Rattle.book.specs.Trains.{Train, train_at}
use Rattle.book.specs.declared.rows.Departure.{Departure}
use Rattle.book.specs.declared.rows.StopRow.{StopRow}
use Rattle.book.specs.declared.rows.TrainRow.{TrainRow}
use Rattle.connection.specs.Clock.{last_day, sets_out}
use Rattle.connection.specs.declared.ride.Ride.{Ride}
use Rattle.desk.specs.declared.report.Leg.{Leg}

-- from the stop `board` of this train to its stop `alight`, where it leaves the one and arrives at the other
abbrev pub leg_between : ℕ → Train → StopRow → StopRow → Option Leg
leg_between day t board alight =
    option_and_then (λ (d : Departure).
    option_map (λ m. record { train = t.number; day = day; from = board.station; leaves = d.minute; to = alight.station; arrives = m }) alight.arrive) board.depart

abbrev pub leg_on : ℕ → Ride → Train → Option Leg
leg_on day r t = option_and_then (λ board. option_and_then (λ alight. leg_between day t board alight) (slice_get t.stops r.alight)) (slice_get t.stops r.board)

-- the ride of a query for this day, if the rows have it; no day is past the last
abbrev pub leg_of : ℕ → Ride → List TrainRow → List StopRow → Option Leg
leg_of day r trains stops = option_and_then (λ row. leg_on (min (sets_out day r.shift) last_day) r (train_at stops row)) (slice_get trains r.train)
