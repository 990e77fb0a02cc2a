use Rattle.std.proofs.Common.{◌≡◌, true, Some, refl, sym, ap, ◌∙◌}
use Rattle.std.proofs.lemmas.Bool.{both_ways}
use Rattle.calendar.specs.Words.{entries, place, has_room, room_answer}
use Rattle.calendar.proofs.Noting.{pairs_noted}
use Rattle.calendar.proofs.Listings.{room_listed, room_unlisted, noted_listed, noted_unlisted}
use Rattle.calendar.proofs.exceptions.Exceptions.note.Goals as goal

pub returns-in-Some : goal.returns-in-Some
returns-in-Some g c =
    let t = c.args.self.now in
    let e = c.record.result.now in
    let at : place (entries t.listed) c.args.code c.args.day ≡ Some c.in-Some.i = sym c.place.ensures ∙ c.in-Some.is in
    let room : has_room t.listed c.args.code c.args.day ≡ true = room_listed c.args.code c.args.day t.listed c.in-Some.i e at in
    let listed = noted_listed c.args.code c.args.day c.args.word t.listed c.in-Some.i e at c.record.ensures.value in
    record {
      answer = ap room_answer (sym room);
      pairs = pairs_noted g.C.Calendar.runs t c.args.code c.args.day c.args.word _ listed;
      listed = listed;
      below = refl;
      refused = λ full. absurd (both_ways _ full room);
    }

pub returns-in-None-clause-answer : goal.returns-in-None-clause-answer
returns-in-None-clause-answer g c =
    c.append.ensures.answer ∙ ap room_answer (sym (room_unlisted c.args.code c.args.day c.args.self.now.listed (sym c.place.ensures ∙ c.in-None.is)))

pub returns-in-None-clause-listed : goal.returns-in-None-clause-listed
returns-in-None-clause-listed g c =
    c.append.ensures.listed ∙ noted_unlisted c.args.code c.args.day c.args.word c.args.self.now.listed (sym c.place.ensures ∙ c.in-None.is)

pub returns-in-None-clause-pairs : goal.returns-in-None-clause-pairs
returns-in-None-clause-pairs g c = pairs_noted g.C.Calendar.runs c.args.self.now c.args.code c.args.day c.args.word _ (returns-in-None-clause-listed g c)
