use Rattle.std.proofs.Common.{◌≡◌, ℕ, ◌+◌, ◌*◌, false, get_or, refl, ap, ◌∙◌, subst, arith}
use Rattle.connection.specs.declared.ride.Shift.TheVariants.{DayBefore}
use Rattle.search.specs.Notes.{Noted}
use Rattle.search.specs.Working.{size_of, place, layer_at}
use Rattle.search.proofs.BlankRecords.{blank_less}
use Rattle.search.proofs.FillingLayers.{fills_none, fills_part, moved_to, part_number}
use Rattle.search.proofs.Unchanged.{linked_same}
use Rattle.search.proofs.inquiry.Inquiry.fill_layer.Goals as goal

pub loop-shift-init : goal.loop-shift-init
loop-shift-init g c = let s = c.args.self.now in moved_to s refl (omega arith) (fills_none s)

pub fill_shift-found-requires-clause-linked : goal.fill_shift-found-requires-clause-linked
fill_shift-found-requires-clause-linked g c =
    let a = c.args in
    let s = a.self.now in
    let so_far = c.loop-shift.invariant in
    linked_same (g.P.Tariff.meaning s.tariff.now) s a.layer.number a.work.now c.loop-shift.work a.arrivals.now a.reached.now.end c.loop-shift.reached.end (λ z h. so_far.unchanged z (omega arith)) so_far.no_dearer c.requires.linked

pub fill_shift-found-requires-clause-out_of_reach : goal.fill_shift-found-requires-clause-out_of_reach
fill_shift-found-requires-clause-out_of_reach g c n ln h = c.missed_by-missed_by.ensures.out_of_reach _ n ln h

pub fill_shift-found-requires-clause-noted : goal.fill_shift-found-requires-clause-noted
fill_shift-found-requires-clause-noted g c =
    let a = c.args in
    let size = size_of a.self.now in
    let l = c.loop-shift in
    let at = ap (λ k. k * size) (part_number l.shift-index c.all-shift-items.result c.all-shift-items.ensures.in_order c.loop-shift-test.true) in
    let here : l.shift-index * size ≡ place size (get_or c.all-shift-items.result l.shift-index DayBefore) 0 = omega (arith, at) in
    subst (λ (x : ℕ). Noted (g.P.Tariff.meaning a.self.now.tariff.now) size l.work a.layer.number x l.reached.notes) here (l.invariant.noted c.requires.noted)

pub fill_shift-found-requires-clause-blank : goal.fill_shift-found-requires-clause-blank
fill_shift-found-requires-clause-blank g c =
    let a = c.args in
    let size = size_of a.self.now in
    let l = c.loop-shift in
    let shift = get_or c.all-shift-items.result l.shift-index DayBefore in
    let at = ap (λ k. k * size) (part_number l.shift-index c.all-shift-items.result c.all-shift-items.ensures.in_order c.loop-shift-test.true) in
    let start = layer_at size a.layer.number in
    blank_less (start + l.shift-index * size) (start + place size shift 0) l.work (omega (arith, at)) (l.invariant.blank (blank_less start (start + 0) a.work.now (omega arith) c.requires.blank))

pub loop-shift-preserved : goal.loop-shift-preserved
loop-shift-preserved g c =
    let l = c.loop-shift in
    let shift = get_or c.all-shift-items.result l.shift-index DayBefore in
    fills_part c.args.self.now shift (part_number l.shift-index c.all-shift-items.result c.all-shift-items.ensures.in_order c.loop-shift-test.true) l.invariant c.fill_shift-found.ensures (λ runs asked n ln. ap (λ us. get_or us n false) c.on-usable.ensures ∙ asked shift n ln)

pub returns : goal.returns
returns g c =
    let s = c.args.self.now in
    let end : c.loop-shift.shift-index ≡ 3 = omega arith in
    moved_to s refl (ap (λ k. k * size_of s) end) c.loop-shift.invariant
