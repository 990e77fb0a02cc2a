use Rattle.std.proofs.Common.{◌≡◌, ℕ, ◌+◌, ◌*◌, ◌<◌, true, false, ◌&&◌, T, get_or, None, Option, option_map, IfSome, sym, refl, ap, ap₂, ◌∙◌, subst, add_assoc, arith}
use Rattle.std.proofs.lemmas.List.{get_or_default}
use Rattle.connection.specs.Choosing.{only_when}
use Rattle.connection.specs.Rides.{can_catch, may_alight}
use Rattle.connection.specs.Settled.{no_dearer}
use Rattle.connection.specs.Ways.{Best}
use Rattle.connection.proofs.Tests.{both_left}
use Rattle.search.specs.Boarding.{changed}
use Rattle.search.specs.Chains.{never, behind, ArrivesAt, taken}
use Rattle.search.specs.Ends.{known_total}
use Rattle.search.specs.Limits.{layer_size}
use Rattle.search.specs.Working.{size_of, stop_in, row_reaches, number, place, layer_at, part_at, label_at, label_in}
use Rattle.search.proofs.BestChange.{ChangesFrom, no_changes, comes_in, comes_and_catches, changes_start, changes_next, changes_all}
use Rattle.search.proofs.Chosen.{cheaper_none}
use Rattle.search.proofs.PromisingLabels.{promising_is}
use Rattle.search.proofs.RowsAreTrains.{place_below}
use Rattle.search.proofs.inquiry.Inquiry.best_change.Goals as goal
use Rattle.search.proofs.inquiry.Inquiry.best_change.Goals.{then-can_catch, else-can_catch}

pub loop-next-init : goal.loop-next-init
loop-next-init g c =
    let a = c.args in
    let o = a.onward in
    let t = a.self.now.tariff.now in
    let laws = g.met.P.Tariff in
    let link = c.requires.linked.first o.station c.requires.known in
    (changes_start (g.P.Tariff.meaning t) (laws.connex t) (laws.transitive t) a.self.now (taken (g.P.Tariff.meaning t) a.self.now a.work.now a.layer.number a.arrivals.now) o _ link, link.arrives)

pub returns-then-onward-arrivals : goal.returns-then-onward-arrivals
returns-then-onward-arrivals g c =
    let a = c.args in
    let o = a.onward in
    let m = g.P.Tariff.meaning a.self.now.tariff.now in
    let label = taken m a.self.now a.work.now a.layer.number a.arrivals.now in
    let soon : o.minute < get_or a.arrivals.now.earliest o.station never = omega (arith, c.if-onward-arrivals.true, get_or_default a.arrivals.now.earliest o.station 0 never (omega (arith, c.requires.linked.long_earliest, c.requires.known))) in
    record { best = no_changes m a.self.now label a.arrivals.now o c.requires.linked soon }

pub loop-next-smaller : goal.loop-next-smaller
loop-next-smaller g c =
    let a = c.args in
    let m = g.P.Tariff.meaning a.self.now.tariff.now in
    let size = size_of a.self.now in
    let label = taken m a.self.now a.work.now a.layer.number a.arrivals.now in
    let here = subst (λ (n : Option ℕ). IfSome n (ArrivesAt a.self.now label a.onward.station)) c.in-Some.is c.loop-next.invariant.1 in
    let far : c.in-Some.place < layer_size size = omega (arith, here.is, place_below here.shift size here.row here.inside) in
    omega (arith, (c.requires.linked.next a.onward.station c.in-Some.place far here).ahead, ap behind c.in-Some.is)

pub loop-next-preserved : goal.loop-next-preserved
loop-next-preserved g c =
    let a = c.args in
    let o = a.onward in
    let t = a.self.now.tariff.now in
    let m = g.P.Tariff.meaning t in
    let laws = g.met.P.Tariff in
    let size = size_of a.self.now in
    let known = known_total a.arrivals.now.known in
    let label = taken m a.self.now a.work.now a.layer.number a.arrivals.now in
    let l = c.loop-next in
    let x = c.in-Some.place in
    let so_far = λ (n : Option ℕ). Best (no_dearer m) (ChangesFrom m a.self.now label o (behind n)) l.best × IfSome n (ArrivesAt a.self.now label o.station) in
    let inv = subst so_far c.in-Some.is l.invariant in
    let s = inv.1.shift in
    let row = inv.1.row in
    let is = inv.1.is in
    let far : x < layer_size size = omega (arith, is, place_below s size row inv.1.inside) in
    let link = c.requires.linked.next o.station x far inv.1 in
    let at : layer_at size a.layer.number + x ≡ part_at size a.layer.number s + row = omega (arith, is, add_assoc (layer_at size a.layer.number) (number s * size) row) in
    let stop = stop_in a.self.now row in
    let test = may_alight stop && can_catch (row_reaches a.self.now s row) o.minute in
    let came = c.requires.linked.minute o.station x far inv.1 in
    let tested : can_catch (get_or a.arrivals.now.minutes x 0) o.minute ≡ test = ap (λ (y : ℕ). can_catch y o.minute) came ∙ comes_and_catches a.self.now.query.now stop s o.minute c.requires.sometime in
    let go = changes_next m (laws.connex t) (laws.transitive t) a.self.now label o s row inv.1.inside inv.1.here x is _ link l.best in
    elim c.if-can_catch.branch [
      | then-can_catch w ↦
          let may : test ≡ true = sym tested ∙ sym c.can_catch.ensures ∙ w.if-can_catch.true in
          let off = both_left (may_alight stop) _ (subst T (sym may) tt) in
          let read = w.label_at-label.ensures ∙ ap (λ (y : ℕ). label_at a.work.now (y + x)) c.layer_at-at.ensures ∙ ap (label_at a.work.now) at in
          let held = read ∙ promising_is m known (label_in size a.work.now a.layer.number s row) inv.1.labelled in
          let made = λ (y z : ℕ). option_map (changed m y z o) w.label_at-label.result in
          let is_made = ap₂ made (came ∙ comes_in a.self.now.query.now stop s off) is ∙ ap (λ b. only_when b (made (row_reaches a.self.now s row) (place size s row))) (sym may) in
          (go _ _ c.if-can_catch.best held is_made (w.best-is ∙ w.with_change-best.ensures) inv.0, link.arrives)
      | else-can_catch w ↦
          let none : test ≡ false = sym tested ∙ sym c.can_catch.ensures ∙ w.if-can_catch.false in
          let is_none = ap (λ b. only_when b (option_map (changed m (row_reaches a.self.now s row) (place size s row) o) (label s row))) (sym none) in
          (go (label s row) None c.if-can_catch.best refl is_none (w.best-is ∙ cheaper_none (no_dearer m) l.best) inv.0, link.arrives)
    ]

pub returns : goal.returns
returns g c =
    let a = c.args in
    let o = a.onward in
    let t = a.self.now.tariff.now in
    let m = g.P.Tariff.meaning t in
    let laws = g.met.P.Tariff in
    let label = taken m a.self.now a.work.now a.layer.number a.arrivals.now in
    let l = c.loop-next in
    let all = subst (λ (n : Option ℕ). Best (no_dearer m) (ChangesFrom m a.self.now label o (behind n)) l.best) c.in_default.is l.invariant.0 in
    record { best = changes_all m (laws.connex t) (laws.transitive t) a.self.now label o l.best all }
