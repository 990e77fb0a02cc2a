-- The lines of the next train go behind those before them, and all of them behind the names.
use Rattle.std.proofs.Common.{◌≡◌, ◌+◌, ◌≤◌, length, flat_map, arith, take, take_all}
use Rattle.std.proofs.lemmas.List.{length-map}
use Rattle.book.specs.Trains.{trains_in}
use Rattle.text.proofs.Puts.{put_fits, put_more, put_then}
use Rattle.text.proofs.Texts.{train_more}
use Rattle.text.specs.Written.{lines_of}
use Rattle.text.proofs.putting.put_text.Goals as goal

pub put_train-end-requires : goal.put_train-end-requires
put_train-end-requires c =
    let room : c.put_byte-end.result + length (flat_map lines_of (trains_in c.args.rows.now c.args.stops.now)) ≤ length c.put_byte-end.new.buffer = omega arith in
    put_fits lines_of _ _ _ (train_more _ _ _ _ c.loop-row-test.true) room c.loop-row.auto.buffer c.loop-row.invariant

pub loop-row-preserved : goal.loop-row-preserved
loop-row-preserved c = put_more _ _ _ _ (train_more _ _ _ _ c.loop-row-test.true) c.loop-row.invariant c.put_train-end.ensures

pub returns : goal.returns
returns c =
    let trains = trains_in c.args.rows.now c.args.stops.now in
    let all : take c.loop-row.row-index trains ≡ trains = take_all _ _ (simp length-map c.loop-row-test.false) in
    put_then (put_then c.put_bytes-names.ensures c.put_byte-end.ensures) (rw all at c.loop-row.invariant)
