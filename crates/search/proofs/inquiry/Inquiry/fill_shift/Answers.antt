use Rattle.std.proofs.Common.{ℕ, ◌+◌, false, length, get_or, sym, ap, ◌∙◌, subst, add-one, arith}
use Rattle.std.proofs.Math.Bool.{or-false}
use Rattle.std.proofs.lemmas.List.{length-take-le, get_or-take}
use Rattle.book.specs.Answers.{train_row}
use Rattle.search.specs.Layers.{Fills, ShiftAsked, BlankFrom}
use Rattle.search.specs.Notes.{Noted}
use Rattle.search.specs.Working.{size_of, place, layer_at}
use Rattle.search.proofs.Basis.{Basis}
use Rattle.search.proofs.FillingLayers.{fills_none, fills_then}
use Rattle.search.proofs.IdleRuns.{fills_unused, fills_out_of_reach}
use Rattle.search.proofs.RowsAreTrains.{first_first, next_first, last_ends, none_none}
use Rattle.search.proofs.Unchanged.{linked_same}
use Rattle.search.proofs.inquiry.Inquiry.fill_shift.Goals as goal
use Rattle.search.proofs.inquiry.Inquiry.fill_shift.Goals.{then-missed_by-train+then-usable, else-missed_by-train, else-missed_by-train-via-then-missed_by-train+else-usable, else-missed_by-train-via-else-missed_by-train}

pub loop-train-init : goal.loop-train-init
loop-train-init g c =
    let s = c.args.self.now in
    (0, fills_none s, λ h. first_first s.trains.now s.stops.now s.ordered h, λ h. sym (none_none s.trains.now s.stops.now s.ordered (omega arith)))

pub fill_run-found-requires-clause-linked : goal.fill_run-found-requires-clause-linked
fill_run-found-requires-clause-linked g c =
    let a = c.args in
    let s = a.self.now in
    let so_far = c.loop-train.invariant.1 in
    linked_same (g.P.Tariff.meaning s.tariff.now) s a.layer.number a.work.now c.loop-train.work a.arrivals.now a.reached.now.end c.loop-train.reached.end (λ z h. so_far.unchanged z (omega arith)) so_far.no_dearer c.requires.linked

pub fill_run-found-requires-clause-noted : goal.fill_run-found-requires-clause-noted
fill_run-found-requires-clause-noted g c =
    let a = c.args in
    let s = a.self.now in
    let size = size_of s in
    let l = c.loop-train in
    let long = length-take-le (length s.trains.now) a.usable.now c.requires.each in
    let here = l.invariant.2 (omega arith) in
    subst (λ (r : ℕ). Noted (g.P.Tariff.meaning s.tariff.now) size l.work a.layer.number (place size a.shift r) l.reached.notes) (sym here) (l.invariant.1.noted c.requires.noted)

pub fill_run-found-requires-clause-blank : goal.fill_run-found-requires-clause-blank
fill_run-found-requires-clause-blank g c =
    let a = c.args in
    let s = a.self.now in
    let size = size_of s in
    let l = c.loop-train in
    let long = length-take-le (length s.trains.now) a.usable.now c.requires.each in
    let here = l.invariant.2 (omega arith) in
    subst (λ (r : ℕ). BlankFrom (layer_at size a.layer.number + place size a.shift r) l.work) (sym here) (l.invariant.1.blank c.requires.blank)

pub loop-train-preserved : goal.loop-train-preserved
loop-train-preserved g c =
    let a = c.args in
    let s = a.self.now in
    let l = c.loop-train in
    let size = size_of s in
    let count = length s.trains.now in
    let t = s.tariff.now in
    let laws = g.met.P.Tariff in
    let m = g.P.Tariff.meaning t in
    let train = train_row l.train s.trains.now in
    let long = length-take-le count a.usable.now c.requires.each in
    let basis : Basis m = record { connex = laws.connex t; transitive = laws.transitive t; grows = laws.grows t; keeps = laws.keeps t; starts = laws.starts t; counts = laws.counts t } in
    let asked = get_or-take count a.usable.now l.train false (omega arith) in
    let here = l.invariant.2 (omega arith) in
    let before = subst (λ (r : ℕ). Fills (g.P.Tariff.meaning s.tariff.now) s a.layer.number (ShiftAsked s a.shift a.usable.now) a.work.now l.work (place size a.shift 0) (place size a.shift r) l.found a.reached.now l.reached) (sym here) l.invariant.1 in
    let blank = subst (λ (r : ℕ). BlankFrom (layer_at size a.layer.number + place size a.shift r) l.work) (sym here) (l.invariant.1.blank c.requires.blank) in
    let linked = linked_same m s a.layer.number a.work.now l.work a.arrivals.now a.reached.now.end l.reached.end (λ z h. l.invariant.1.unchanged z (omega arith)) l.invariant.1.no_dearer c.requires.linked in (
      train.first + train.count,
      elim c.if-missed_by-train.branch [
        | then-missed_by-train+then-usable w ↦
            rw (w.work-is, w.reached-is, w.found-is)
            (fills_then s before w.fill_run-found.ensures (λ runs may. sym w.if-usable.true ∙ asked ∙ may l.train (omega arith)) (omega arith))
        | else-missed_by-train w ↦
            elim w.else-missed_by-train.branch [
              | else-missed_by-train-via-then-missed_by-train+else-usable w' ↦
                  let idle = fills_unused m s basis a.layer.number l.train a.shift (omega arith) l.work l.reached blank in
                  rw (w.work-is, w.reached-is, w.found-is ∙ sym (or-false l.found))
                  (fills_then s before idle (λ runs may. sym w'.if-usable.false ∙ asked ∙ may l.train (omega arith)) (omega arith))
              | else-missed_by-train-via-else-missed_by-train w' ↦
                  let gone = c.requires.out_of_reach l.train (omega arith) (omega (arith, w'.if-missed_by-train.false, c.midnight.ensures)) in
                  let idle = fills_out_of_reach m s basis a.layer.number l.train a.shift (omega arith) l.work l.reached blank (get_or a.usable.now l.train false) a.arrivals.now linked gone in
                  rw (w.work-is, w.reached-is, w.found-is ∙ sym (or-false l.found))
                  (fills_then s before idle (λ runs may. may l.train (omega arith)) (omega arith))
            ]
      ],
      λ h. ap (λ n. (train_row n s.trains.now).first) (add-one l.train) ∙ next_first s.trains.now s.stops.now s.ordered l.train (omega arith),
      λ h. last_ends s.trains.now s.stops.now s.ordered l.train (omega arith),
    )

pub returns : goal.returns
returns g c =
    let a = c.args in
    let s = a.self.now in
    let l = c.loop-train in
    let size = size_of s in
    let long = length-take-le (length s.trains.now) a.usable.now c.requires.each in
    subst (λ (r : ℕ). Fills (g.P.Tariff.meaning s.tariff.now) s a.layer.number (ShiftAsked s a.shift a.usable.now) a.work.now l.work (place size a.shift 0) (place size a.shift r) l.found a.reached.now l.reached) (l.invariant.3 (omega arith)) l.invariant.1
