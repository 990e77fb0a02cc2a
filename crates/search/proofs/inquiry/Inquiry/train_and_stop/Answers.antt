use Rattle.std.proofs.Common.{arith}
use Rattle.search.proofs.RowsAreTrains.{few_stops_of}
use Rattle.search.proofs.inquiry.Inquiry.train_and_stop.Goals as goal

pub overflow_cast-result-2 : goal.overflow_cast-result-2
overflow_cast-result-2 g c =
    let now = c.args.self.now in
    omega (arith, few_stops_of now.trains.now now.stops.now now.ordered now.lawful c.train_at-train.result c.train_at-train.ensures.listed)
