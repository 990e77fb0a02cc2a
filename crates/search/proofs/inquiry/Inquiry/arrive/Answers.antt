use Rattle.std.proofs.Common.{◌≡◌, ℕ, ◌+◌, ◌*◌, ◌<◌, length, get_or, is_some, Option, sym, ap, ap₂, ◌∙◌, subst, add_assoc, arith}
use Rattle.std.proofs.lemmas.List.{length-take-le, get_or-take}
use Rattle.search.specs.Chains.{with_arrival, Chained, promising}
use Rattle.search.specs.Ends.{known_total}
use Rattle.search.specs.Limits.{layer_size}
use Rattle.search.specs.Notes.{past}
use Rattle.search.specs.Working.{size_of, stop_in, number, place, layer_at, part_at, label_at, label_in, if_promising}
use Rattle.search.specs.declared.ends.End.{End}
use Rattle.search.proofs.Chaining.{not_some, chained_none, arrived_some}
use Rattle.search.proofs.ListedLabels.{chained_next, chained_past, chained_end}
use Rattle.search.proofs.inquiry.Inquiry.arrive.Goals as goal
use Rattle.search.proofs.inquiry.Inquiry.arrive.Goals.{then-is_some, else-is_some}

pub loop-place-init : goal.loop-place-init
loop-place-init g c =
    let a = c.args in
    let s = a.self.now in
    let end = a.reached.now.end in
    let label = promising (g.P.Tariff.meaning s.tariff.now) s a.work.now (known_total end) a.layer.number in
    (ap (λ x. x.known) c.clear.ensures, subst (Chained s label 0) (sym c.clear.ensures) (chained_none s label a.arrivals.now end c.requires.long c.requires.long_minutes))

pub loop-place-preserved : goal.loop-place-preserved
loop-place-preserved g c =
    let a = c.args in
    let s = a.self.now in
    let size = length s.stops.now in
    let l = c.loop-place in
    let k = a.layer.number in
    let notes = a.reached.now.notes in
    let m = g.P.Tariff.meaning s.tariff.now in
    let known = known_total a.reached.now.end in
    let long = ap length c.places-place-items.ensures ∙ length-take-le notes.count notes.places (omega (arith, c.requires.listed.few, c.requires.listed.long, s.ordered.few_stops)) in
    let lj : l.place-index < notes.count = omega arith in
    let place_is = ap (λ x. get_or x l.place-index 0) c.places-place-items.ensures ∙ get_or-take notes.count notes.places l.place-index 0 lj in
    let x = get_or notes.places l.place-index 0 in
    let held = c.if_promising-label.ensures ∙ ap (if_promising m known) (c.label_at.ensures ∙ ap₂ (λ (y z : ℕ). label_at a.work.now (y + z)) c.layer_at-at.ensures place_is) in
    elim c.if-is_some.branch [
      | then-is_some w ↦
          let day = w.shift_and_row-shift.result.0 in
          let row = w.shift_and_row-shift.result.1 in
          let is = sym place_is ∙ w.shift_and_row-shift.ensures.is in
          let inside = w.shift_and_row-shift.ensures.inside in
          let next = chained_next m s k known a.work.now notes c.requires.listed s.ordered.few_stops l.place-index lj day row inside is (s.timely.stations row inside) w.comes.result w.comes.ensures l.arrivals l.invariant.1 in
          let same : layer_at size k + x ≡ part_at size k day + row = omega (arith, is, add_assoc (layer_at size k) (number day * size) row) in
          let some = ap (λ y. is_some (if_promising m known (label_at a.work.now y))) (sym same) ∙ ap is_some (sym held) ∙ sym w.if-is_some.ensures in
          let station = (stop_in s row).station in
          let taken =
          w.arrivals-is
          ∙ w.add.ensures
          ∙ ap (with_arrival l.arrivals station w.comes.result) w.shift_and_row-shift.ensures.is
          ∙ sym (arrived_some l.arrivals station w.comes.result (place size day row) (if_promising m known (label_in size a.work.now k day row)) some)
          in
          (ap (λ y. y.known) (w.arrivals-is ∙ w.add.ensures) ∙ l.invariant.0, subst (Chained s (promising m s a.work.now known k) (past notes (l.place-index + 1))) (sym taken) next)
      | else-is_some w ↦
          rw w.arrivals-is
          (l.invariant.0, chained_past m s k known a.work.now notes c.requires.listed l.place-index lj (sym held ∙ not_some _ (sym c.is_some.ensures ∙ w.if-is_some.false)) l.arrivals l.invariant.1)
    ]

pub returns : goal.returns
returns g c =
    let a = c.args in
    let s = a.self.now in
    let l = c.loop-place in
    let notes = a.reached.now.notes in
    let m = g.P.Tariff.meaning s.tariff.now in
    let long = ap length c.places-place-items.ensures ∙ length-take-le notes.count notes.places (omega (arith, c.requires.listed.few, c.requires.listed.long, s.ordered.few_stops)) in
    let end : l.place-index ≡ notes.count = omega arith in
    let all = chained_end m s a.layer.number (known_total a.reached.now.end) a.work.now notes c.requires.listed l.place-index end l.arrivals l.invariant.1 in
    record {
      known = l.invariant.0;
      chained = subst (λ (known : Option (End _)). Chained s (promising m s a.work.now (known_total known) a.layer.number) (layer_size (size_of s)) l.arrivals) (sym l.invariant.0) all;
    }
