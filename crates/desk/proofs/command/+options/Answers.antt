use Rattle.std.proofs.Common.{◌≡◌, map, string_bytes, drop, Some, Ok, Err, codes, sym, ap, ap₂, ◌∙◌, arith}
use Rattle.std.specs.Option.{option_map}
use Rattle.std.proofs.lemmas.List.{take_rest}
use Rattle.desk.specs.Commands.{given, options}
use Rattle.desk.specs.declared.command.Misuse.TheVariants.{UnknownWord}
use Rattle.desk.proofs.FirstWords.{one_word, two_words}
use Rattle.desk.proofs.OptionsTold.{last_unknown, unknown, some_dates, some_exceptions}
use Rattle.desk.proofs.command.+options.Goals as goal

pub returns-in_default : goal.returns-in_default
returns-in_default t c =
    let dates = option_map (λ b. b.now) c.args.dates in
    let exceptions = option_map (λ b. b.now) c.args.exceptions in
    let words = c.args.behind.now in
    let e = one_word words c.word-item.result (omega arith) c.word-item.is in
    let text = c.as_str.ensures.value in
    ap (λ w. Err (UnknownWord w)) text
    ∙ last_unknown c.args.file.now dates exceptions _ (λ h. c.in_default.not-text (text ∙ h)) (λ h. c.in_default.not-text-2 (text ∙ h))
    ∙ ap (λ ws. options c.args.file.now dates exceptions (map string_bytes ws)) (sym e)

pub returns-in_default-as_str : goal.returns-in_default-as_str
returns-in_default-as_str t c =
    let dates = option_map (λ b. b.now) c.args.dates in
    let exceptions = option_map (λ b. b.now) c.args.exceptions in
    let words = c.args.behind.now in
    let e = two_words words c.word-item-2.result c.value-item.result (omega arith) c.word-item-2.is c.value-item.is in
    let text = c.as_str-in-len2-up.ensures.value in
    ap (λ w. Err (UnknownWord w)) text
    ∙ unknown c.args.file.now dates exceptions _ (string_bytes c.value-item.result) (map string_bytes (drop 2 words)) (λ h. c.in_default-as_str.not-text (text ∙ h)) (λ h. c.in_default-as_str.not-text-2 (text ∙ h))
    ∙ ap (λ ws. options c.args.file.now dates exceptions (map string_bytes ws)) (sym e)

pub returns-in_ok-found-in-text-as_str : goal.returns-in_ok-found-in-text-as_str
returns-in_ok-found-in-text-as_str t c =
    let dates = option_map (λ b. b.now) c.args.dates in
    let exceptions = option_map (λ b. b.now) c.args.exceptions in
    let words = c.args.behind.now in
    let e = two_words words c.word-item-2.result c.value-item.result (omega arith) c.word-item-2.is c.value-item.is in
    let found = c.in_ok-found-in-text-as_str.found.now in
    let name : string_bytes c.word-item-2.result ≡ codes "--dates" = sym c.as_str-in-len2-up.ensures.value ∙ c.in-text-as_str.is in
    let value : given (string_bytes c.word-item-2.result) dates (string_bytes c.value-item.result) ≡ Ok found =
    ap₂ (λ w v. given w dates v) (sym c.as_str-in-text-as_str.ensures.value) (sym c.as_str-in-text-as_str-2.ensures.value) ∙ c.in_ok-found-in-text-as_str.ensures
    in
    c.options.ensures
    ∙ ap (λ ws. options c.args.file.now (Some found) exceptions (map string_bytes ws)) (take_rest words 2)
    ∙ some_dates c.args.file.now dates exceptions _ (string_bytes c.value-item.result) (map string_bytes (drop 2 words)) found name value
    ∙ ap (λ ws. options c.args.file.now dates exceptions (map string_bytes ws)) (sym e)

pub returns-in_ok-found-in-text-2 : goal.returns-in_ok-found-in-text-2
returns-in_ok-found-in-text-2 t c =
    let dates = option_map (λ b. b.now) c.args.dates in
    let exceptions = option_map (λ b. b.now) c.args.exceptions in
    let words = c.args.behind.now in
    let e = two_words words c.word-item-2.result c.value-item.result (omega arith) c.word-item-2.is c.value-item.is in
    let found = c.in_ok-found-in-text-2.found.now in
    let name : string_bytes c.word-item-2.result ≡ codes "--exceptions" = sym c.as_str-in-len2-up.ensures.value ∙ c.in-text-2.is in
    let value : given (string_bytes c.word-item-2.result) exceptions (string_bytes c.value-item.result) ≡ Ok found =
    ap₂ (λ w v. given w exceptions v) (sym c.as_str-in-text-2.ensures.value) (sym c.as_str-in-text-2-2.ensures.value) ∙ c.in_ok-found-in-text-2.ensures
    in
    c.options-in-text-2.ensures
    ∙ ap (λ ws. options c.args.file.now dates (Some found) (map string_bytes ws)) (take_rest words 2)
    ∙ some_exceptions c.args.file.now dates exceptions _ (string_bytes c.value-item.result) (map string_bytes (drop 2 words)) found name value
    ∙ ap (λ ws. options c.args.file.now dates exceptions (map string_bytes ws)) (sym e)
