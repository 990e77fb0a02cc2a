use Rattle.std.proofs.Common.{◌+◌, length, set, ap, sym, ◌∙◌}
use Rattle.connection.specs.Choosing.{cheaper}
use Rattle.search.specs.Ends.{ends_no_dearer, is_end, end_here}
use Rattle.search.specs.Notes.{noted}
use Rattle.search.specs.Records.{record_of}
use Rattle.search.specs.Working.{layer_at}
use Rattle.search.proofs.BlankRecords.{blank_kept}
use Rattle.search.proofs.Chosen.{cheaper_none}
use Rattle.search.proofs.KnownEnds.{no_end_here}
use Rattle.search.proofs.inquiry.Inquiry.keep.Goals as goal

pub returns-in_default : goal.returns-in_default
returns-in_default g c =
    let a = c.args in
    let s = a.self.now in
    let m = g.P.Tariff.meaning s.tariff.now in
    let b = is_end a.stop.now s.query.now.destination in
    let at = layer_at (length s.stops.now) a.layer.number + a.place in
    let none = sym c.in_default.is in
    record {
      work = blank_kept at a.work.now c.requires.blank ∙ ap (λ o. set a.work.now at (record_of o)) none;
      end = cheaper_none (ends_no_dearer m) a.reached.now.end ∙ ap (cheaper (ends_no_dearer m) a.reached.now.end) (sym (no_end_here b a.layer.number a.place) ∙ ap (end_here b a.layer.number a.place) none);
      notes = ap (noted a.reached.now.notes a.layer.number a.place at) none;
    }
