use Rattle.std.proofs.Common.{◌≡◌, length}
use Rattle.calendar.specs.Pairs.{Pairs}
use Rattle.search.specs.Chains.{LinkedBefore}
use Rattle.search.specs.Ends.{known_total, Known}
use Rattle.search.specs.Layers.{Filled, Asked, BlankFrom}
use Rattle.search.specs.Limits.{most_places}
use Rattle.search.specs.Notes.{Noted}
use Rattle.search.specs.Working.{size_of, layer_at}
use Rattle.search.proofs.inquiry.Inquiry.fill_layers.Given as goal

abbrev pub invariant-loop-number : goal.invariant-loop-number
invariant-loop-number g l =
    record {
      blank : BlankFrom (layer_at (size_of l.self) l.number) l.work;
      known : Known (g.P.Tariff.meaning l.self.tariff.now) l.self l.work (layer_at (size_of l.self) l.number) l.reached.end;
      filled : (runs : Pairs) → Asked l.self l.usable runs → Filled (g.P.Tariff.meaning l.self.tariff.now) l.self runs (known_total l.reached.end) l.work l.number;
      linked : LinkedBefore (g.P.Tariff.meaning l.self.tariff.now) l.self l.work l.number l.arrivals l.reached.end;
      noted : Noted (g.P.Tariff.meaning l.self.tariff.now) (size_of l.self) l.work l.number 0 l.reached.notes;
      long : length l.arrivals.nexts ≡ most_places;
      long_minutes : length l.arrivals.minutes ≡ most_places;
    }
