-- Trains that keep the rules beside others, of values that fit their types, are ready to be read: their times are on the clock.
use Rattle.std.proofs.Common.{◌≡◌, ℕ, suc, ◌<◌, ◌≤◌, false, ◌≢◌, List, [], ◌∷◌, ◌++◌, length, Some, None, Option, refl, sym, ◌∙◌, subst, append_assoc, arith, length-append}
use Rattle.std.specs.List.{AllByRecursion as All}
use Rattle.std.proofs.lemmas.Bool.{or_from, ne_eqb}
use Rattle.book.specs.Histories.{number_at, EveryHistoryHolds, EveryRefusalAgrees}
use Rattle.book.specs.Limits.{last_minute}
use Rattle.book.specs.Rules.{stop_at, Rules, SoundIsTheRules}
use Rattle.book.specs.Stops.{leaves}
use Rattle.book.specs.Trains.{Train, known}
use Rattle.book.specs.declared.rows.Departure.{Departure}
use Rattle.book.specs.declared.rows.StopRow.{StopRow}
use Rattle.text.specs.Written.{stop_of, Typed, AllTyped}
use Rattle.text.proofs.Accepted.{AllReady}
use Rattle.text.proofs.LinesSay.{OnClock, Fits}

-- ---- times
arrival_on_clock : (o : Option ℕ) → ((m : ℕ) → o ≡ Some m → m ≤ last_minute) → OnClock o
arrival_on_clock None h = tt
arrival_on_clock (Some m) h = omega (arith, h m refl)

departure_on_clock : (o : Option Departure) → ((d : Departure) → o ≡ Some d → d.minute ≤ last_minute) → OnClock (leaves o)
departure_on_clock None h = tt
departure_on_clock (Some d) h = omega (arith, h d refl)

all_fit : (t : Train) (ss : List StopRow) → ((i m : ℕ) → i < length ss → (stop_at ss i).arrive ≡ Some m → m ≤ last_minute)
    → ((i : ℕ) (d : Departure) → i < length ss → (stop_at ss i).depart ≡ Some d → d.minute ≤ last_minute)
    → All (λ (s : StopRow). Typed (stop_of t s)) ss → All (λ (s : StopRow). Fits (stop_of t s)) ss
all_fit t [] arrives departs typed = tt
all_fit t (s ∷ ss) arrives departs typed = (
  record {
    typed = typed.0;
    arrives = arrival_on_clock s.arrive (λ m e. arrives 0 m (omega arith) e);
    leaves = departure_on_clock s.depart (λ d e. departs 0 d (omega arith) e);
  },
  all_fit t ss (λ i m l e. arrives (suc i) m (omega arith) e) (λ i d l e. departs (suc i) d (omega arith) e) typed.1,
)

-- ---- numbers
abbrev Distinct : List Train → Type 0
Distinct us = (i j : ℕ) → i < j → j < length us → number_at us i ≢ number_at us j

not_known : (n : ℕ) (us more : List Train) → ((i : ℕ) → i < length us → number_at (us ++ more) i ≢ n) → known n us ≡ false
not_known n [] more h = refl
not_known n (u ∷ us) more h = or_from _ _ (ne_eqb u.number n (h 0 (omega arith))) (not_known n us more (λ i l. h (suc i) (omega arith)))

number_behind : (us : List Train) (t : Train) (more : List Train) → number_at (us ++ (t ∷ more)) (length us) ≡ t.number
number_behind [] t more = refl
number_behind (u ∷ us) t more = number_behind us t more

-- ---- train after train
module _ (every : EveryHistoryHolds) (agrees : EveryRefusalAgrees) (rule : SoundIsTheRules) (tr sr : ℕ) where
  pub ready : (new us : List Train) → All (λ (t : Train). Rules t.number t.stops) new → Distinct (us ++ new) → AllTyped new → AllReady every agrees tr sr us new
  ready [] us rules apart typed = tt
  ready (t ∷ new) us rules apart typed = (
    (
      (rule t.number t.stops).1 rules.0,
      not_known t.number us (t ∷ new) (λ i l same. apart i (length us) l (simp length-append (omega arith)) (same ∙ sym (number_behind us t new))),
      all_fit t t.stops rules.0.arrives_in_time rules.0.departs_in_time typed.0,
    ),
    ready new (us ++ (t ∷ [])) rules.1 (subst Distinct (sym (append_assoc us (t ∷ []) new)) apart) typed.1,
  )
