use Rattle.std.proofs.Common.{◌≡◌, length, ◌∙◌, arith}
use Rattle.std.proofs.lemmas.Bool.Decides.{nat_tests}
use Rattle.text.specs.Lines.{fields}
use Rattle.text.specs.Saying.{says}
use Rattle.text.proofs.FieldsInTurn.{fields_in_turn}
use Rattle.text.proofs.saying.said.Goals.{then-not-has_feed-via-then-not-has_feed, then-not-has_feed-via-else-not-has_feed+then-count_fields-ne-FIELDS}
use Rattle.text.proofs.saying.said.Goals as goal

pub returns-then-not-has_feed : goal.returns-then-not-has_feed
unfolding says
returns-then-not-has_feed c =
    elim c.then-not-has_feed.branch [
      | then-not-has_feed-via-then-not-has_feed w ↦ grind (arith, nat_tests)
      | then-not-has_feed-via-else-not-has_feed+then-count_fields-ne-FIELDS w ↦ grind (arith, nat_tests)
    ]

pub returns : goal.returns
unfolding says
returns c =
    let n : length (fields c.args.reader.line.now) ≡ 7 = omega arith in
    let say = c.fields_said.ensures ∙ fields_in_turn c.args.reader.number c.args.reader.line.now n in
    grind (arith, nat_tests)
