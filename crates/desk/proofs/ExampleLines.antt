-- Some lines, and what they say.
use Rattle.std.proofs.Common.{◌≡◌, true, Ok, Err, codes, refl}
use Rattle.std.specs.Fmt.{digits}
use Rattle.calendar.specs.Dates.{day_of, date_written}
use Rattle.text.specs.Numbers.{number}
use Rattle.text.specs.Times.{time}
use Rattle.desk.specs.Questions.{asks}
use Rattle.desk.specs.Rows.{date_row, exception_row}
use Rattle.desk.specs.declared.asked.Asked.TheVariants.{Minutes, Fares}
use Rattle.desk.specs.declared.expected.Expected.TheVariants.{Day, Time, Changes, Tariff, Word}

by_minutes : asks (codes "1 4 3 07:50 2 0 minutes:5") ≡ Ok (record { query = record { origin = 1; destination = 4; day = 3; minute = 470; changes = 2; features = 0 }; tariff = Minutes 5 })
unfolding digits number time day_of date_written
by_minutes = refl

on_a_date : asks (codes "1 4 2000-01-04 07:50 2 0 fares") ≡ Ok (record { query = record { origin = 1; destination = 4; day = 3; minute = 470; changes = 2; features = 0 }; tariff = Fares })
unfolding digits number time day_of date_written
on_a_date = refl

no_such_date : asks (codes "1 4 2000-02-30 07:50 2 0 fares") ≡ Err Day
unfolding digits number time day_of date_written
no_such_date = refl

no_minutes : asks (codes "1 4 3 07:60 2 0 fares") ≡ Err Time
unfolding digits number time day_of date_written
no_minutes = refl

too_many_changes : asks (codes "1 4 3 07:50 256 0 fares") ≡ Err Changes
unfolding digits number time day_of date_written
too_many_changes = refl

-- the line ends too early
no_time : asks (codes "1 4 3") ≡ Err Time
unfolding digits number time day_of date_written
no_time = refl

-- the tariff is the last word
more_behind : asks (codes "1 4 3 07:50 2 0 fares 5") ≡ Err Tariff
unfolding digits number time day_of date_written
more_behind = refl

some_days : date_row (codes "31,2000-01-03,9") ≡ Ok (record { code = 31; first = 2; last = 9 })
unfolding digits number day_of date_written
some_days = refl

an_exception : exception_row (codes "31,2,yes") ≡ Ok (record { code = 31; day = 2; runs = true })
unfolding digits number day_of date_written
an_exception = refl

no_word : exception_row (codes "31,2,perhaps") ≡ Err Word
unfolding digits number day_of date_written
no_word = refl
