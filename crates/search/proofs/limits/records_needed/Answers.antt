use Rattle.connection.specs.Connections.{most_rides}
use Rattle.std.proofs.Common.{◌*◌, ◌≤◌, ap₂, mul-le-mul_right, arith}
use Rattle.search.specs.Limits.{layer_size}
use Rattle.search.proofs.limits.records_needed.Goals as goal

pub overflow_mul-result : goal.overflow_mul-result
overflow_mul-result c =
    let rides = most_rides c.args.query.now in
    let room : layer_size c.args.stops * rides ≤ layer_size 65536 * rides = mul-le-mul_right {m = layer_size c.args.stops} {n = layer_size 65536} rides (omega (arith, c.requires.few)) in
    omega (arith, room, ap₂ (λ x y. x * y) c.layer_size.ensures c.most_rides.ensures.is, c.most_rides.ensures.few)
