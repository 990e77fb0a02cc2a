-- What a line says: a stop and its train, or what is wrong with the line.
use Rattle.std.specs.Prelude.{ℕ, cond, List, [], ◌∷◌, length, Some, None, Ok, Err, Option, Result, ok_or, option_map, ◌==◌}
use Rattle.book.specs.declared.rows.Departure.{Departure}
use Rattle.text.specs.Faults.{malformed}
use Rattle.text.specs.Lines.{Line, whole, cut_off, fields, field, column}
use Rattle.text.specs.Numbers.{end_of_8_bits, end_of_16_bits, number}
use Rattle.text.specs.Results.{and_then}
use Rattle.text.specs.Times.{time}
use Rattle.text.specs.declared.fault.Fault.{Fault}
use Rattle.text.specs.declared.stop_line.StopLine.{StopLine}

-- a time, or nothing where the field is blank
abbrev pub time_if_any : List ℕ → Option (Option ℕ)
time_if_any [] = Some None
time_if_any (b ∷ bs) = option_map Some (time (b ∷ bs))

-- the departure with its fare: both are there, or neither
abbrev pub departure : Option ℕ → List ℕ → Option (Option Departure)
departure None [] = Some None
departure None (b ∷ bs) = None
departure (Some m) bs = option_map (λ fare. Some (record { minute = m; fare = fare })) (number end_of_16_bits bs)

-- seven fields in the line k, from the left: `field i` is one of them, the first being 0, and `column i` where it begins
abbrev pub seven_say : ℕ → (ℕ → ℕ) → (ℕ → List ℕ) → Result StopLine Fault
seven_say k column field =
    and_then (ok_or (number end_of_16_bits (field 0)) (malformed k (column 0))) (λ train.
    and_then (ok_or (number end_of_8_bits (field 1)) (malformed k (column 1))) (λ code.
    and_then (ok_or (number end_of_16_bits (field 2)) (malformed k (column 2))) (λ features.
    and_then (ok_or (number end_of_16_bits (field 3)) (malformed k (column 3))) (λ station.
    and_then (ok_or (time_if_any (field 4)) (malformed k (column 4))) (λ arrive.
    and_then (ok_or (time_if_any (field 5)) (malformed k (column 5))) (λ leave.
    and_then (ok_or (departure leave (field 6)) (malformed k (column 6))) (λ depart.
    Ok (record { number = train; code = code; features = features; stop = record { station = station; arrive = arrive; depart = depart } }))))))))

unfoldable pub fields_say : ℕ → List (List ℕ) → Result StopLine Fault
fields_say k fs = seven_say k (λ i. column i fs) (λ i. field i fs)

-- the line feed and the count of fields are looked at first
unfoldable pub says : ℕ → Line → Result StopLine Fault
says k (whole l) = cond (length (fields l) == 7) (fields_say k (fields l)) (Err (malformed k 0))
says k (cut_off l) = Err (malformed k 0)
