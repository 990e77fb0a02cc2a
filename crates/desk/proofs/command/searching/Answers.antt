use Rattle.std.proofs.Common.{map, string_bytes, None, sym, ap, ◌∙◌, ap₂, arith}
use Rattle.std.proofs.lemmas.List.{take_rest}
use Rattle.desk.specs.Commands.{options, searching}
use Rattle.desk.proofs.FirstWords.{first_word}
use Rattle.desk.proofs.command.searching.Goals as goal

pub returns-in-len1-up : goal.returns-in-len1-up
returns-in-len1-up c =
    let words = c.args.behind.now in
    let e = first_word words c.file-item.result (omega arith) c.file-item.is in
    c.options.ensures
    ∙ ap₂ (λ f ws. options f None None (map string_bytes ws)) c.as_str.ensures.value (take_rest words 1)
    ∙ ap (λ ws. searching c.args.word.now (map string_bytes ws)) (sym e)
