use Rattle.std.proofs.Common.{◌*◌}
use Rattle.search.specs.Layers.{Fills, Asked}
use Rattle.search.specs.Working.{size_of}
use Rattle.search.proofs.inquiry.Inquiry.fill_layer.Given as goal

-- the parts of the shifts ahead are filled
abbrev pub invariant-loop-shift : goal.invariant-loop-shift
invariant-loop-shift g l =
    Fills (g.P.Tariff.meaning l.self.tariff.now) l.self l.fn.layer.number (Asked l.self l.usable) l.initial.work l.work 0 (l.shift-index * size_of l.self) l.found l.initial.reached l.reached
