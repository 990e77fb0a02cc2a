-- What a search answers, and what it leaves in the ride list and the work table.
use Rattle.std.specs.Prelude.{◌≡◌, ◌≢◌, ◌↔◌, ℕ, List, ◌++◌, length, take, drop, replicate, Some, None, Ok, Err, Option, Result, IsOk}
use Rattle.tariff.specs.Meaning.{Meaning}
use Rattle.book.specs.Answers.{unless}
use Rattle.book.specs.Histories.{History, Closed, LeadsOn}
use Rattle.book.specs.PlainList.{Call, reads, in_force}
use Rattle.book.specs.Trains.{listed}
use Rattle.book.specs.declared.refusal.Refusal.{Refusal as BookRefusal}
use Rattle.calendar.specs.Pairs.{Pairs}
use Rattle.connection.specs.Cheapest.{Cheapest, HasNoConnection}
use Rattle.connection.specs.Connections.{Connection}
use Rattle.connection.specs.Timetable.{Timetable, timetable_of}
use Rattle.connection.specs.declared.query.Query.{Query}
use Rattle.connection.specs.declared.ride.Ride.{Ride}
use Rattle.search.specs.Records.{blank}
use Rattle.search.specs.Refusals.{query_fault, search_refusal}
use Rattle.search.specs.declared.record.WorkRecord.{WorkRecord}
use Rattle.search.specs.declared.refusal.Refusal.{Refusal}
use Rattle.search.specs.declared.refusal.Refusal.TheVariants.{Book, NoConnection}
use Rattle.search.specs.declared.timetable.Timetable.{Timetable as Lent}

module _ {Total : Type 0} (m : Meaning Total) (timetable : Timetable) (q : Query) where
  -- ---- what is found in the timetable
  -- so many rides are written, and they are a cheapest connection at that total
  pub record Finds (total : Total) (count : ℕ) (rides : List Ride) : Type 0 where
    pub cheapest : Cheapest m timetable q total (take count rides)
    pub counted : length (take count rides) ≡ count

  -- a cheapest connection is found, or there is no connection
  abbrev pub FoundOrNone : Result (Total × ℕ) Refusal → List Ride → Type 0
  FoundOrNone (Ok found) rides = Finds found.0 found.1 rides
  FoundOrNone (Err reason) rides = (reason ≡ NoConnection) × HasNoConnection timetable q

  -- it is the refusal, if there is one ahead of looking; else a cheapest connection is found, or there is no connection
  abbrev pub AnswersUnless : Option Refusal → Result (Total × ℕ) Refusal → List Ride → Type 0
  AnswersUnless (Some reason) r rides = r ≡ Err reason
  AnswersUnless None r rides = FoundOrNone r rides

  -- ---- the line that is sold, with a ride list and a work table of these lengths
  module _ (ride_room work_room : ℕ) where
    -- the first reason not to look for a connection, if one holds over these trains
    abbrev fault : Option Refusal
    fault = query_fault timetable.trains q ride_room work_room

    -- a connection, "there is none" or that reason: each is answered exactly where it is so, and nothing else ever is
    pub record Guarantee (r : Result (Total × ℕ) Refusal) (rides : List Ride) : Type 0 where
      -- an answer is a cheapest connection ..
      pub cheapest : (total : Total) (count : ℕ) → r ≡ Ok (total, count) → Finds total count rides
      -- .. and there is one exactly where no reason holds and there is a connection
      pub found : IsOk r ↔ ((fault ≡ None) × ((one : List Ride) × Connection timetable q one))
      -- it says that there is none exactly where no reason holds and there is none
      pub none : (r ≡ Err NoConnection) ↔ ((fault ≡ None) × HasNoConnection timetable q)
      -- it gives any other reason exactly where that is the first that holds ..
      pub refused : (reason : Refusal) → reason ≢ NoConnection → (r ≡ Err reason) ↔ (fault ≡ Some reason)
      -- .. and never that the tables are damaged
      pub undamaged : (reason : BookRefusal) → r ≢ Err (Book reason)

-- ---- over what is lent
module _ {C : Type 0} (t : Lent C) where
  -- the trains that its rows list, where the calendar says this
  abbrev pub listed_in : Pairs → Timetable
  listed_in runs = timetable_of (listed t.book.now.trains t.trains.now t.stops.now) runs

  -- the calls lead from a new book to the book and its tables
  abbrev pub LeadTo : List Call → Type 0
  LeadTo calls = History (length t.trains.now) (length t.stops.now) calls (Closed t.book.now) t.trains.now t.stops.now

  -- the trains that are in force after the calls, where the calendar says this
  abbrev pub in_force_after : List Call → Pairs → Timetable
  in_force_after calls runs = timetable_of (in_force (length t.trains.now) (length t.stops.now) calls).trains runs

  -- a search is a call that only reads: it leads every history on
  abbrev pub OnlyReads : Type 0
  OnlyReads = LeadsOn (Closed t.book.now) t.trains.now t.stops.now reads (Closed t.book.now) t.trains.now t.stops.now

  module _ {Total : Type 0} (m : Meaning Total) (runs : Pairs) (q : Query) (ride_room work_room : ℕ) (r : Result (Total × ℕ) Refusal) (rides : List Ride) where
    -- what is answered, of the trains that the rows list
    abbrev pub Answers : Type 0
    Answers = AnswersUnless m (listed_in runs) q (search_refusal t q ride_room work_room) r rides

    -- whatever calls were made since the book was new, the line that is sold holds of the trains then in force
    abbrev pub KeepsGuarantee : Type 0
    KeepsGuarantee = (calls : List Call) → LeadTo calls → Guarantee m (in_force_after calls runs) q ride_room work_room r rides

-- ---- what is left
-- the rides stand at the front of the list, and what stood behind them stands there still
abbrev pub rides_left : {Total : Type 0} → Result (Total × ℕ) Refusal → List Ride → List Ride → List Ride
rides_left (Ok found) old new = take found.1 new ++ drop found.1 old
rides_left (Err reason) old new = old

-- every record is blank, unless the search was refused ahead of looking
abbrev pub work_left : {Total : Type 0} → Option Refusal → List (WorkRecord Total) → List (WorkRecord Total)
work_left refusal old = unless refusal old (replicate (length old) blank)
