-- What a line asks: FROM TO DAY TIME CHANGES FEATURES TARIFF, with one space between each two.
use Rattle.std.specs.Prelude.{ℕ, List, Ok, Option, Result, ok_or}
use Rattle.text.specs.Cuts.{front, behind}
use Rattle.text.specs.Numbers.{end_of_8_bits, end_of_16_bits, number}
use Rattle.text.specs.Results.{and_then}
use Rattle.text.specs.Times.{time}
use Rattle.desk.specs.Days.{day}
use Rattle.desk.specs.Tariffs.{tariff_named}
use Rattle.desk.specs.declared.expected.Expected.{Expected}
use Rattle.desk.specs.declared.expected.Expected.TheVariants as expected
use Rattle.desk.specs.declared.question.Question.{Question}

-- the first word means this by `read`, or else `what` was expected; the words behind it say the rest
abbrev pub word_then : {B : Type 0} → ℕ → Expected → (List ℕ → Option ℕ) → List ℕ → (ℕ → List ℕ → Result B Expected) → Result B Expected
word_then mark what read bs on = and_then (ok_or (read (front mark bs)) what) (λ n. on n (behind mark bs))

abbrev pub asks : List ℕ → Result Question Expected
asks line =
    word_then 32 expected.Origin (number end_of_16_bits) line (λ origin bs.
    word_then 32 expected.Destination (number end_of_16_bits) bs (λ destination bs.
    word_then 32 expected.Day day bs (λ d bs.
    word_then 32 expected.Time time bs (λ minute bs.
    word_then 32 expected.Changes (number end_of_8_bits) bs (λ changes bs.
    word_then 32 expected.Features (number end_of_16_bits) bs (λ features bs.
    and_then (ok_or (tariff_named bs) expected.Tariff) (λ tariff.
    Ok (record { query = record { origin = origin; destination = destination; day = d; minute = minute; changes = changes; features = features }; tariff = tariff }))))))))
