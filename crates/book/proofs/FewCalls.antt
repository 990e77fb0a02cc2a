-- The trains in force after a few calls, computed: one train is entered, known numbers and bad stops are refused, and it is withdrawn.
use Rattle.std.proofs.Common.{◌≡◌, List, [], ◌∷◌, ◌++◌, length, Some, None, refl}
use Rattle.book.specs.declared.rows.StopRow.{StopRow}
use Rattle.book.specs.Stops.{stop_fault}
use Rattle.book.specs.Answers.{row}
use Rattle.book.specs.Trains.{all_stops}
use Rattle.book.specs.PlainList.{Call, begins, stops, finishes, abandons, withdraws, in_force}

leave : StopRow
leave = row 1 None (Some (record { minute = 600; fare = 5 }))

early : StopRow
early = row 2 (Some 600) None

arrive : StopRow
arrive = row 2 (Some 601) None

one : List Call
one = begins 7 1 0 ∷ stops leave ∷ stops early ∷ finishes ∷ stops arrive ∷ finishes ∷ []

one_train : length (in_force 4 8 one).trains ≡ 1
unfolding one leave early arrive stop_fault
one_train = refl

two_stops : all_stops (in_force 4 8 one).trains ≡ 2
unfolding one leave early arrive stop_fault
two_stops = refl

still_one : length (in_force 4 8 (one ++ (begins 7 1 0 ∷ stops leave ∷ []))).trains ≡ 1
unfolding one leave early arrive stop_fault
still_one = refl

withdrawn : (in_force 4 8 (one ++ (begins 8 1 0 ∷ withdraws 7 ∷ abandons ∷ withdraws 7 ∷ withdraws 7 ∷ []))).trains ≡ []
unfolding one leave early arrive stop_fault
withdrawn = refl
