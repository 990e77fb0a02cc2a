use Rattle.search.proofs.FillingRuns.{FilledTo}
use Rattle.search.proofs.inquiry.Inquiry.fill_run.Given as goal

abbrev pub invariant-loop-i : goal.invariant-loop-i
invariant-loop-i g l =
    FilledTo (g.P.Tariff.meaning l.self.tariff.now) l.self l.fn.layer.number l.fn.run.train l.fn.run.shift l.initial.reached l.initial.work l.work l.i l.found l.aboard l.reached
