-- Every number of the trains in force fits its type, as those of the calls do.
use Rattle.std.proofs.Common.{ℕ, Bool, true, false, cond, eqb, List, [], ◌∷◌, ◌++◌, Some, None, Option, sym, subst}
use Rattle.std.proofs.ByRecursion.{All-append}
use Rattle.book.specs.declared.rows.StopRow.{StopRow}
use Rattle.book.specs.declared.rows.TrainRow.{TrainRow}
use Rattle.book.specs.declared.refusal.Refusal.{Refusal}
use Rattle.book.specs.Trains.{Train}
use Rattle.book.specs.Types.{StopTyped, TrainTyped, TrainsTyped}
use Rattle.book.specs.Answers.{unless}
use Rattle.book.specs.Refusals.{begin_fault, next_fault, finish_fault, withdraw_fault}
use Rattle.book.specs.Histories.{State, History, new, begin, stop, finish, abandon, withdraw, read, EveryHistoryIsTyped}
use Rattle.book.specs.PlainList.{Call, begins, stops, finishes, abandons, withdraws, reads, CallTyped, InForce, none_open, with_open, without, fresh, lengthened, advance, in_force}
use Rattle.book.proofs.KeptState.{after_one_more}

abbrev OpenTyped : Option Train → Type 0
OpenTyped None = Unit {0}
OpenTyped (Some t) = TrainTyped t

abbrev Typed : InForce → Type 0
Typed f = TrainsTyped f.trains × OpenTyped f.opened

-- ---- one call
without_typed : (n : ℕ) (ts : List Train) → TrainsTyped ts → TrainsTyped (without n ts)
without_typed n [] a = tt
without_typed n (t ∷ ts) a = go (eqb t.number n) (without_typed n ts a.1) where
  go : (b : Bool) → TrainsTyped (without n ts) → TrainsTyped (cond b ts (t ∷ without n ts))
  go true less = a.1
  go false less = (a.0, less)

lengthened_typed : (t : Train) (s : StopRow) → TrainTyped t → StopTyped s → TrainTyped (lengthened t s)
lengthened_typed t s a b =
    record { number = a.number; code = a.code; features = a.features; stops = All-append StopTyped t.stops (s ∷ []) a.stops (b, tt) }

module _ (tr sr : ℕ) (ts : List Train) (a : TrainsTyped ts) where
  begun_typed : (n c x : ℕ) (r : Option Refusal) → CallTyped (begins n c x) → Typed (unless r (none_open ts) (with_open ts (fresh n c x)))
  begun_typed n c x (Some e) b = (a, tt)
  begun_typed n c x None b = (a, b)

  stopped_typed : (t : Train) (s : StopRow) (r : Option Refusal) → TrainTyped t → StopTyped s → Typed (unless r (with_open ts t) (with_open ts (lengthened t s)))
  stopped_typed t s (Some e) o b = (a, o)
  stopped_typed t s None o b = (a, lengthened_typed t s o b)

  finished_typed : (t : Train) (r : Option Refusal) → TrainTyped t → Typed (unless r (with_open ts t) (none_open (ts ++ (t ∷ []))))
  finished_typed t (Some e) o = (a, o)
  finished_typed t None o = (All-append TrainTyped ts (t ∷ []) a (o, tt), tt)

  withdrawn_typed : (n : ℕ) (r : Option Refusal) → Typed (unless r (none_open ts) (none_open (without n ts)))
  withdrawn_typed n (Some e) = (a, tt)
  withdrawn_typed n None = (without_typed n ts a, tt)

  advance_typed : (g : Option Train) (c : Call) → OpenTyped g → CallTyped c → Typed (advance tr sr ts g c)
  advance_typed None (begins n c x) o b = begun_typed n c x (begin_fault tr ts n) b
  advance_typed (Some t) (begins n c x) o b = (a, o)
  advance_typed None (stops s) o b = (a, tt)
  advance_typed (Some t) (stops s) o b = stopped_typed t s (next_fault sr ts t s) o b
  advance_typed None finishes o b = (a, tt)
  advance_typed (Some t) finishes o b = finished_typed t (finish_fault t) o
  advance_typed None abandons o b = (a, tt)
  advance_typed (Some t) abandons o b = (a, tt)
  advance_typed None (withdraws n) o b = withdrawn_typed n (withdraw_fault ts n)
  advance_typed (Some t) (withdraws n) o b = (a, o)
  advance_typed None reads o b = (a, tt)
  advance_typed (Some t) reads o b = (a, o)

-- ---- every history
module _ (tr sr : ℕ) where
  one_more : (cs : List Call) (c : Call) → CallTyped c → Typed (in_force tr sr cs) → Typed (in_force tr sr (cs ++ (c ∷ [])))
  one_more cs c b f =
      subst Typed (sym (after_one_more tr sr (none_open []) cs c)) (advance_typed tr sr (in_force tr sr cs).trains f.0 (in_force tr sr cs).opened c f.1 b)

  typed : {cs : List Call} {st : State} {ts : List TrainRow} {ss : List StopRow} → History tr sr cs st ts ss → Typed (in_force tr sr cs)
  typed (new ts ss p q) = (tt, tt)
  typed (begin cs b ts ss n c x t before) = one_more cs (begins n c x) t (typed before)
  typed (stop cs e ts ss s t before) = one_more cs (stops s) t (typed before)
  typed (finish cs e ts ss before) = one_more cs finishes tt (typed before)
  typed (abandon cs e ts ss before) = one_more cs abandons tt (typed before)
  typed (withdraw cs b ts ss n t before) = one_more cs (withdraws n) t (typed before)
  typed (read cs b ts ss before) = one_more cs reads tt (typed before)

pub every_history_is_typed : EveryHistoryIsTyped
every_history_is_typed tr sr calls st ts ss history = (typed tr sr history).0
