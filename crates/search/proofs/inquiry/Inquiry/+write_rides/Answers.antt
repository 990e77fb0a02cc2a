use Rattle.std.proofs.Common.{◌≡◌, ℕ, ◌+◌, ◌*◌, ◌≤◌, slice_index_or, subst, mul-le-mul_right, arith}
use Rattle.search.specs.Limits.{most_changes, layer_size}
use Rattle.search.specs.Working.{size_of}
use Rattle.search.proofs.TrailsAreWritten.{trail_inside, last_inside, last_is, trail_before, first_ends, next_ends}
use Rattle.search.proofs.inquiry.Inquiry.+write_rides.Goals as goal
use Rattle.search.proofs.inquiry.Inquiry.+write_rides.Goals.{in-Some, in_default}

pub overflow_add-last : goal.overflow_add-last
overflow_add-last g t c =
    let a = c.args in
    let now = a.self.now in
    let size = layer_size (size_of now) in
    let m : a.layer.number * size ≤ most_changes * size = mul-le-mul_right {m = a.layer.number} {n = most_changes} size a.layer.shallow in
    omega (arith, now.ordered.few_stops, trail_inside now a.work.now a.layer.number a.place c.requires.told)

pub offset_bounds-work-layer_at : goal.offset_bounds-work-layer_at
offset_bounds-work-layer_at g t c =
    let a = c.args in
    let now = a.self.now in
    omega (arith, last_inside now a.work.now a.layer.number a.place c.requires.within c.requires.told)

pub bounds-work-layer_at : goal.bounds-work-layer_at
bounds-work-layer_at g t c =
    let a = c.args in
    let now = a.self.now in
    rw c.layer_at.ensures (last_inside now a.work.now a.layer.number a.place c.requires.within c.requires.told)

pub overflow_cast-last : goal.overflow_cast-last
overflow_cast-last g t c =
    let a = c.args in
    let now = a.self.now in
    let p = c.requires in
    let x = c.index-work-layer_at.result in
    let j = c.in-Some.before.number in
    let is = last_is now a.work.now a.layer.number a.place x p.within p.told (subst (λ (n : ℕ). x ≡ slice_index_or a.work.now (n + a.place) x) c.layer_at.ensures c.index-work-layer_at.is) in
    let before = trail_before now a.work.now a.layer.number j a.place x is c.in-Some.ensures p.told in
    omega (arith, now.ordered.few_stops, trail_inside now a.work.now j x.from before)

pub write_rides-requires : goal.write_rides-requires
write_rides-requires g t c κs within =
    let a = c.args in
    let now = a.self.now in
    let p = c.requires in
    let x = c.index-work-layer_at.result in
    let j = c.in-Some.before.number in
    let is = last_is now a.work.now a.layer.number a.place x p.within p.told (subst (λ (n : ℕ). x ≡ slice_index_or a.work.now (n + a.place) x) c.layer_at.ensures c.index-work-layer_at.is) in
    let before = trail_before now a.work.now a.layer.number j a.place x is c.in-Some.ensures p.told in
    let size = layer_size (size_of now) in
    let m : (j + 1) * size ≤ (a.layer.number + 1) * size = mul-le-mul_right {m = j + 1} {n = a.layer.number + 1} size (omega (arith, c.in-Some.ensures)) in
    (omega (arith, c.in-Some.ensures), (within.0, (within.1, (omega (arith, m), (omega (arith, c.in-Some.ensures), before)))))

pub ride_to-requires : goal.ride_to-requires
ride_to-requires g t c =
    let a = c.args in
    let now = a.self.now in
    record { inside = trail_inside now a.work.now a.layer.number a.place c.requires.told }

pub returns : goal.returns
returns g t c =
    let a = c.args in
    let now = a.self.now in
    let p = c.requires in
    let x = c.index-work-layer_at.result in
    let is = last_is now a.work.now a.layer.number a.place x p.within p.told (subst (λ (n : ℕ). x ≡ slice_index_or a.work.now (n + a.place) x) c.layer_at.ensures c.index-work-layer_at.is) in
    let made = c.ride_to.ensures in
    record {
      written = elim c.match-before.branch [
        | in-Some w ↦
            next_ends now a.work.now a.layer.number w.in-Some.before.number a.place x a.rides.now w.write_rides.new.rides c.match-before.rides c.ride_to.result is w.in-Some.ensures p.room made.ends made.boards w.write_rides.ensures.written w.rides-is
        | in_default w ↦
            first_ends now a.work.now a.layer.number a.place x a.rides.now c.match-before.rides c.ride_to.result is w.in_default.ensures p.room made.ends made.boards w.rides-is
      ];
    }
