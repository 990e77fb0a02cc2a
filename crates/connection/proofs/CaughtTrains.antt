-- Who catches a train has come by the time that it leaves.
use Rattle.std.proofs.Common.{ℕ, ◌≤◌, T, leb→le}
use Rattle.connection.specs.Rides.{can_catch}

pub has_come_by_then : (arrived leaving : ℕ) → T (can_catch arrived leaving) → arrived ≤ leaving
unfolding can_catch
has_come_by_then arrived leaving t = leb→le arrived leaving t
