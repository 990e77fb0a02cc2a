use Rattle.connection.specs.Connections.{most_rides}
use Rattle.std.proofs.Common.{◌≡◌, ℕ, ◌+◌, ◌-◌, length, None, Option, refl, sym, ap, ◌∙◌, subst, inl, inr, add-one, arith}
use Rattle.std.proofs.lemmas.List.{length-replicate}
use Rattle.connection.specs.Settled.{Hopeless}
use Rattle.search.specs.Chains.{ChainedLayer}
use Rattle.search.specs.Ends.{known_total, Known}
use Rattle.search.specs.Limits.{most_places}
use Rattle.search.specs.Notes.{Noted}
use Rattle.search.specs.Working.{size_of, layer_at}
use Rattle.search.specs.declared.chains.Arrivals.{Arrivals}
use Rattle.search.specs.declared.ends.End.{End}
use Rattle.search.specs.declared.reached.Reached.{Reached}
use Rattle.search.proofs.BlankRecords.{blank_less}
use Rattle.search.proofs.FillingLayers.{filled_layer, known_layer, blank_layer}
use Rattle.search.proofs.KnownEnds.{none_known}
use Rattle.search.proofs.Layering.{layers_below}
use Rattle.search.proofs.NotedLabels.{noted_first, noted_next}
use Rattle.search.proofs.inquiry.Inquiry.fill_layers.Goals as goal

pub loop-number-init : goal.loop-number-init
loop-number-init g c =
    let s = c.args.self.now in
    let t = s.tariff.now in
    let laws = g.met.P.Tariff in
    record {
      blank = blank_less 0 (layer_at (size_of s) 0) c.args.work.now (omega arith) c.requires.blank;
      known = subst (λ (r : Reached _). Known (g.P.Tariff.meaning t) s c.args.work.now (layer_at (size_of s) 0) r.end) (sym c.requires.nothing) (none_known (g.P.Tariff.meaning t) (laws.connex t) (laws.transitive t) s c.args.work.now);
      filled = λ runs asked k n sh i lk ln li. absurd (omega arith);
      linked = record { chained = λ h. absurd (omega arith); no_dearer = λ total h. absurd (subst (λ (e : Option (End _)). Hopeless (g.P.Tariff.meaning t) (known_total e) total) (ap (λ (a : Arrivals _). a.known) c.none-arrivals.ensures) h) };
      noted = subst (λ (r : Reached _). Noted (g.P.Tariff.meaning t) (size_of s) c.args.work.now 0 0 r.notes) (sym c.requires.nothing) (noted_first (g.P.Tariff.meaning t) (size_of s) c.args.work.now (omega (arith, s.ordered.few_stops)) c.requires.blank);
      long = ap (λ (a : Arrivals _). length a.nexts) c.none-arrivals.ensures ∙ length-replicate {A = Option ℕ} most_places None;
      long_minutes = ap (λ (a : Arrivals _). length a.minutes) c.none-arrivals.ensures ∙ length-replicate {A = ℕ} most_places 0;
    }

pub fill_layer-requires-clause-within : goal.fill_layer-requires-clause-within
fill_layer-requires-clause-within g c =
    let q = c.args.self.now.query.now in
    let l = c.loop-number in
    omega (arith, layers_below (size_of c.args.self.now) (l.number + 1) (most_rides q) (omega arith), c.requires.within)

pub arrive-requires-clause-within : goal.arrive-requires-clause-within
arrive-requires-clause-within g c =
    let q = c.args.self.now.query.now in
    let l = c.loop-number in
    omega (arith, layers_below (size_of c.args.self.now) (l.number + 1) (most_rides q) (omega arith), c.requires.within, c.fill_layer.auto.work, l.auto.work)

pub arrive-requires-clause-listed : goal.arrive-requires-clause-listed
arrive-requires-clause-listed g c = (c.fill_layer.ensures.noted c.loop-number.invariant.noted).listed

pub returns-then-not-fill_layer : goal.returns-then-not-fill_layer
returns-then-not-fill_layer g c =
    let s = c.args.self.now in
    let l = c.loop-number in
    let filled = c.if-not-fill_layer.ensures in
    record {
      filled = record {
        layers = l.number + 1;
        few = omega arith;
        all = inr (l.number, add-one l.number, filled.nothing refl);
        elsewhere = (filled.noted l.invariant.noted).elsewhere;
        known = known_layer s filled l.invariant.known;
        filled = λ runs asked. filled_layer s filled runs asked (l.invariant.filled runs asked);
      };
    }

pub loop-number-preserved : goal.loop-number-preserved
loop-number-preserved g c =
    let s = c.args.self.now in
    let size = size_of s in
    let l = c.loop-number in
    let m = g.P.Tariff.meaning s.tariff.now in
    let work = c.fill_layer.new.work in
    let end = c.fill_layer.new.reached.end in
    let arrivals = c.arrive.new.arrivals in
    let next : l.number ≡ l.number + 1 - 1 = omega arith in
    let known = c.arrive.ensures.known in
    record {
      blank = blank_layer s c.fill_layer.ensures l.invariant.blank;
      known = known_layer s c.fill_layer.ensures l.invariant.known;
      filled = λ runs asked. filled_layer s c.fill_layer.ensures runs asked (l.invariant.filled runs asked);
      linked = record {
        chained = λ h. subst (λ (k : ℕ). ChainedLayer m s work k arrivals) next c.arrive.ensures.chained;
        no_dearer = λ total h. subst (λ (e : Option (End _)). Hopeless m (known_total e) total) known h;
      };
      noted = subst (Noted m size work (l.number + 1) 0) (sym c.begin_layer.ensures) (noted_next m size l.number work c.fill_layer.new.reached.notes (c.fill_layer.ensures.noted l.invariant.noted));
      long = c.arrive.ensures.chained.long_nexts;
      long_minutes = c.arrive.ensures.chained.long_minutes;
    }

pub returns : goal.returns
returns g c =
    let s = c.args.self.now in
    let l = c.loop-number in
    record { filled = record { layers = l.number; few = omega arith; all = inl (omega arith); elsewhere = l.invariant.noted.elsewhere; known = l.invariant.known; filled = l.invariant.filled } }
