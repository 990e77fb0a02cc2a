-- What is shown of a question and of its answer, by the bytes of the words.
use Rattle.std.specs.Prelude.{ℕ, ◌/◌, ◌%◌, List, ◌++◌, codes, decimal}
use Rattle.calendar.specs.Dates.{date_of, date_text}
use Rattle.calendar.specs.Refusals.{number, text_of}
use Rattle.connection.specs.declared.query.Query.{Query}
use Rattle.text.specs.Faults as faults
use Rattle.text.specs.declared.fault.Fault.{Fault}
use Rattle.desk.specs.Tariffs.{tariff_name}
use Rattle.desk.specs.declared.question.Question.{Question}
use Rattle.desk.specs.Wanted.{wanted}
use Rattle.desk.specs.declared.report.Leg.{Leg}
use Rattle.desk.specs.declared.report.RowFault.{RowFault}
use Rattle.desk.specs.declared.report.Wrong.{Wrong}
use Rattle.desk.specs.declared.report.Wrong.TheVariants.{Unread, Refused}

-- minutes from midnight as hours and minutes, two digits each, as 07:50 and 24:30
abbrev pub clock_text : ℕ → List ℕ
clock_text m = decimal (m / 60 / 10) ++ decimal (m / 60 % 10) ++ codes ":" ++ decimal (m % 60 / 10) ++ decimal (m % 60 % 10)

abbrev pub day_text : ℕ → List ℕ
day_text day = date_text (date_of day)

-- from where to where, and from when on
abbrev pub way_text : Query → List ℕ
way_text q = decimal q.origin ++ (codes " -> " ++ (decimal q.destination ++ (codes " on " ++ (day_text q.day ++ (codes " from " ++ clock_text q.minute)))))

-- a question is repeated ahead of its answer
abbrev pub question_text : Question → List ℕ
question_text q =
    way_text q.query ++ (codes ", changes " ++ (decimal q.query.changes ++ (codes ", features " ++ (decimal q.query.features ++ (codes ", " ++ tariff_name q.tariff)))))

-- a ride: its train by the day on which it sets out, and the timetable's own times
abbrev pub leg_text : Leg → List ℕ
leg_text l =
    codes "  train " ++ (decimal l.train ++ (codes " of " ++ (day_text l.day ++ (codes ": " ++ (decimal l.from ++ (codes " at " ++ (clock_text l.leaves
    ++ (codes " -> " ++ (decimal l.to ++ (codes " at " ++ clock_text l.arrives))))))))))

-- where a text is broken, and why
abbrev pub fault_text : Fault → List ℕ
fault_text f = decimal f.line ++ codes ":" ++ decimal f.column ++ codes ": refused " ++ decimal (faults.number f.cause) ++ codes ": " ++ faults.words_of f.cause

-- what is wrong with a line of a calendar's file, and which line
abbrev pub wrong_text : Wrong → List ℕ
wrong_text (Unread expected) = codes "expected " ++ wanted expected
wrong_text (Refused r) = codes "refused " ++ (decimal (number r) ++ (codes ": " ++ text_of r))

abbrev pub row_fault_text : RowFault → List ℕ
row_fault_text f = decimal f.line ++ (codes ": " ++ wrong_text f.wrong)
