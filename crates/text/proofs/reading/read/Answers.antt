use Rattle.std.proofs.Common.{sym, ap, subst}
use Rattle.book.specs.declared.state.Book.{Book}
use Rattle.text.specs.Reading.{Left}
use Rattle.text.specs.Returns.{ComesBack, BringsItsTrains, ReadsOn}
use Rattle.text.proofs.Returning.{comes_back, brings_its_trains, reads_on}
use Rattle.text.proofs.reading.read.Goals as goal

pub returns : goal.returns
returns c =
    let text = c.args.text.now in
    let b = c.args.book in
    let ts = c.args.trains.now in
    let ss = c.args.stops.now in
    let every = c.every_history_holds.ensures in
    let e = c.read_text.ensures in
    record {
      answer = ap (λ (l : Left Book). l.answer) e;
      trains = ap (λ (l : Left Book). l.trains) e;
      stops = ap (λ (l : Left Book). l.stops) e;
      comes_back = subst (λ (l : Left Book). ComesBack text b ts ss l.answer l.trains l.stops) (sym e) (comes_back every.rows every.refusals text b ts ss);
      brings = subst (λ (l : Left Book). BringsItsTrains text b ts ss l.answer l.trains l.stops) (sym e) (brings_its_trains every.rows every.refusals text b ts ss);
      history = subst (λ (l : Left Book). ReadsOn text b ts ss l.answer l.trains l.stops) (sym e) (reads_on text b ts ss);
    }
