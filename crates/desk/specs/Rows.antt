-- What a line of a calendar's file says: `code,first,last`, a code and the days on which it runs; or `code,day,yes` and
-- `code,day,no`, an exception.
use Rattle.std.specs.Prelude.{ℕ, Bool, true, false, cond, List, Some, None, Ok, Option, Result, ok_or, codes, bytes_eq}
use Rattle.calendar.specs.declared.dated.DateRow.{DateRow}
use Rattle.text.specs.Numbers.{end_of_8_bits, number}
use Rattle.text.specs.Results.{and_then}
use Rattle.desk.specs.Days.{day}
use Rattle.desk.specs.Questions.{word_then}
use Rattle.desk.specs.declared.expected.Expected.{Expected}
use Rattle.desk.specs.declared.expected.Expected.TheVariants as expected
use Rattle.desk.specs.declared.rows.ExceptionRow.{ExceptionRow}

abbrev pub date_row : List ℕ → Result DateRow Expected
date_row line =
    word_then 44 expected.Code (number end_of_8_bits) line (λ code bs.
    word_then 44 expected.Day day bs (λ first bs.
    and_then (ok_or (day bs) expected.LastDay) (λ last.
    Ok (record { code = code; first = first; last = last }))))

abbrev pub yes_or_no : List ℕ → Option Bool
yes_or_no word = cond (bytes_eq word (codes "yes")) (Some true) (cond (bytes_eq word (codes "no")) (Some false) None)

abbrev pub exception_row : List ℕ → Result ExceptionRow Expected
exception_row line =
    word_then 44 expected.Code (number end_of_8_bits) line (λ code bs.
    word_then 44 expected.Day day bs (λ d bs.
    and_then (ok_or (yes_or_no bs) expected.Word) (λ runs.
    Ok (record { code = code; day = d; runs = runs }))))
