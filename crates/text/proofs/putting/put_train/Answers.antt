-- The line of the next stop goes behind those before it.
use Rattle.std.proofs.lemmas.List.{take_more}
use Rattle.text.proofs.Puts.{put_fits, put_more}
use Rattle.text.proofs.putting.put_train.Goals as goal

pub put_line-end-requires : goal.put_line-end-requires
put_line-end-requires c =
    let line = c.of.ensures c.args.stops.now in
    rw line (put_fits _ _ _ _ (take_more _ _ _ c.loop-stop-test.true) (rw (← c.loop-stop.invariant.0) at c.requires) c.loop-stop.auto.buffer c.loop-stop.invariant.1)

pub loop-stop-preserved : goal.loop-stop-preserved
loop-stop-preserved c =
    let line = c.of.ensures c.args.stops.now in
    (c.loop-stop.invariant.0, put_more _ _ _ _ (take_more _ _ _ c.loop-stop-test.true) c.loop-stop.invariant.1 (rw line at c.put_line-end.ensures))
