use Rattle.connection.specs.Connections.{most_rides}
use Rattle.std.proofs.Common.{◌+◌, length, replicate, None, refl, ap, ◌∙◌, arith}
use Rattle.search.specs.Records.{blank}
use Rattle.search.specs.Working.{size_of}
use Rattle.search.proofs.Basis.{Basis}
use Rattle.search.proofs.BlankRecords.{blanked}
use Rattle.search.proofs.CheapestEnd.{searched, nothing_found, whole, end_layer, whole_told, finds, rest_stands}
use Rattle.search.proofs.Layering.{layers_below}
use Rattle.search.proofs.inquiry.Inquiry.cheapest.Goals as goal
use Rattle.search.proofs.inquiry.Inquiry.cheapest.Goals.{in-Some, in-None}

pub invariant_of-layer : goal.invariant_of-layer
invariant_of-layer g c =
    let s = c.args.self.now in
    let t = s.tariff.now in
    let laws = g.met.P.Tariff in
    let basis : Basis (g.P.Tariff.meaning t) = record { connex = laws.connex t; transitive = laws.transitive t; grows = laws.grows t; keeps = laws.keeps t; starts = laws.starts t; counts = laws.counts t } in
    let filled = c.fill_layers.ensures.filled in
    let known = searched _ s (g.C.Calendar.runs c.args.calendar.now) _ _ _ basis filled c.usable-usable.ensures in
    record { shallow = omega (arith, end_layer known c.in-Some.end c.in-Some.is, filled.few, s.askable.changes) }

pub fill_layers-requires-clause-nothing : goal.fill_layers-requires-clause-nothing
fill_layers-requires-clause-nothing g c = ap (λ n. record { end = None; notes = n }) c.none.ensures

pub write_rides-requires : goal.write_rides-requires
write_rides-requires g c =
    let s = c.args.self.now in
    let t = s.tariff.now in
    let laws = g.met.P.Tariff in
    let basis : Basis (g.P.Tariff.meaning t) = record { connex = laws.connex t; transitive = laws.transitive t; grows = laws.grows t; keeps = laws.keeps t; starts = laws.starts t; counts = laws.counts t } in
    let filled = c.fill_layers.ensures.filled in
    let known = searched _ s (g.C.Calendar.runs c.args.calendar.now) _ _ _ basis filled c.usable-usable.ensures in
    let e = c.in-Some.end in
    let it = c.in-Some.is in
    let deep = end_layer known e it in
    let more = layers_below (size_of s) (e.layer + 1) (most_rides s.query.now) (omega (arith, filled.few)) in
    record { within = omega (arith, more); room = omega (arith, filled.few); told = (whole known e it, whole_told known e it) }

pub blank_touched-requires : goal.blank_touched-requires
blank_touched-requires g c = record { elsewhere = c.fill_layers.ensures.filled.elsewhere }

pub returns : goal.returns
returns g c =
    let a = c.args in
    let s = a.self.now in
    let t = s.tariff.now in
    let laws = g.met.P.Tariff in
    let basis : Basis (g.P.Tariff.meaning t) = record { connex = laws.connex t; transitive = laws.transitive t; grows = laws.grows t; keeps = laws.keeps t; starts = laws.starts t; counts = laws.counts t } in
    let filled = c.fill_layers.ensures.filled in
    let known = searched _ s (g.C.Calendar.runs a.calendar.now) _ _ _ basis filled c.usable-usable.ensures in
    let blanked = c.blank_touched.ensures ∙ ap (λ k. replicate k blank) c.fill_layers.auto.work in
    elim c.match-end.branch [
      | in-Some w ↦
          let e = w.in-Some.end in
          let it = w.in-Some.is in
          let written = w.write_rides.ensures.written _ (whole_told known e it) in
          rw (w.found-is, w.rides-is)
          record {
            found = finds known e it a.rides.now w.write_rides.new.rides written;
            rides = rest_stands known e it a.rides.now w.write_rides.new.rides written;
            work = blanked;
          }
      | in-None w ↦ rw (w.found-is, w.rides-is) record { found = (refl, nothing_found known w.in-None.is); rides = refl; work = blanked }
    ]

pub returns-then-is_empty-clause-work : goal.returns-then-is_empty-clause-work
returns-then-is_empty-clause-work g c = blanked (length c.args.work.now) c.args.work.now (omega arith) (λ z h. c.requires.blank z (omega arith))
