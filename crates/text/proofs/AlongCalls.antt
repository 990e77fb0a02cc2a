-- The calls that a line makes, beside the plain list of trains: one is refused over the tables just where it is over the list.
use Rattle.std.proofs.Common.{◌≡◌, ℕ, ◌+◌, List, [], ◌∷◌, ◌++◌, set, false, Some, None, Option, sym, refl, ap, ◌∙◌, subst}
use Rattle.book.specs.Answers.{refused_or, unless, longer, finished_row}
use Rattle.book.specs.Histories.{State, Closed, Open, begun, stopped, finished, History, begin, stop, finish, RowsHold, EveryHistoryHolds, RefusalsAgree, EveryRefusalAgrees}
use Rattle.book.specs.PlainList.{Call, begins, stops, finishes, CallTyped, InForce, none_open, with_open, fresh, lengthened, advance, after, in_force}
use Rattle.book.specs.Refusals.{begin_fault, next_fault, finish_fault, check_refusal, begin_refusal, stop_refusal, finish_refusal}
use Rattle.book.specs.Trains.{Train, open_train, meaning}
use Rattle.book.specs.declared.refusal.Refusal.{Refusal}
use Rattle.book.specs.declared.rows.StopRow.{StopRow}
use Rattle.book.specs.declared.rows.TrainRow.{TrainRow}
use Rattle.book.specs.declared.state.Book.{Book}
use Rattle.book.specs.declared.state.Entry.{Entry}

after_one_more : (tr sr : ℕ) (f : InForce) (cs : List Call) (c : Call) → after tr sr f (cs ++ (c ∷ [])) ≡ advance tr sr (after tr sr f cs).trains (after tr sr f cs).opened c
after_one_more tr sr f [] c = refl
after_one_more tr sr f (d ∷ cs) c = after_one_more tr sr (advance tr sr f.trains f.opened d) cs c

-- calls lead from a new book to this state and these tables, and these trains are in force
pub record At (tr sr : ℕ) (f : InForce) (st : State) (ts : List TrainRow) (ss : List StopRow) : Type 0 where
  pub calls : List Call
  pub history : History tr sr calls st ts ss
  pub force : in_force tr sr calls ≡ f

-- ---- what a call that is not refused gives and leaves
abbrev pub entered : Book → ℕ → ℕ → ℕ → Entry
entered b n c x = record { book = b; number = n; code = c; features = x; taken = 0; spent = false }

abbrev pub wrote : List StopRow → Entry → StopRow → List StopRow
wrote ss e s = set ss (e.book.stops + e.taken) s

abbrev pub closed : Entry → Book
closed e = record { trains = e.book.trains + 1; stops = e.book.stops + e.taken }

abbrev pub rowed : List TrainRow → Entry → List TrainRow
rowed ts e = set ts e.book.trains (finished_row e)

module _ (every : EveryHistoryHolds) (agrees : EveryRefusalAgrees) (tr sr : ℕ) (ts : List TrainRow) (ss : List StopRow) where
  rows_hold : (f : InForce) (st : State) → At tr sr f st ts ss → RowsHold f st ts ss
  rows_hold f st a = subst (λ (g : InForce). RowsHold g st ts ss) a.force (every tr sr a.calls st ts ss a.history)

  refusals_agree : (f : InForce) (st : State) → At tr sr f st ts ss → RefusalsAgree tr sr f st ts ss
  refusals_agree f st a = subst (λ (g : InForce). RefusalsAgree tr sr g st ts ss) a.force (agrees tr sr a.calls st ts ss a.history)

  pub meaning_at : (us : List Train) (b : Book) → At tr sr (none_open us) (Closed b) ts ss → meaning b.trains b.stops ts ss ≡ Some us
  meaning_at us b a = (rows_hold (none_open us) (Closed b) a).0

  pub check_none : (us : List Train) (b : Book) → At tr sr (none_open us) (Closed b) ts ss → check_refusal b ts ss ≡ None
  check_none us b a = (refusals_agree (none_open us) (Closed b) a).0

  pub begin_same : (us : List Train) (b : Book) (n : ℕ) → At tr sr (none_open us) (Closed b) ts ss → begin_refusal b ts ss n ≡ begin_fault tr us n
  begin_same us b n a = (refusals_agree (none_open us) (Closed b) a).1 n

  pub open_at : (us : List Train) (t : Train) (e : Entry) → At tr sr (with_open us t) (Open e) ts ss → open_train e ss ≡ t
  open_at us t e a = let p = (rows_hold (with_open us t) (Open e) a).1 in cc

  pub stop_same : (us : List Train) (t : Train) (e : Entry) (s : StopRow) → At tr sr (with_open us t) (Open e) ts ss → stop_refusal e ts ss s ≡ next_fault sr us t s
  stop_same us t e s a = (refusals_agree (with_open us t) (Open e) a).0 s ∙ ap (λ (x : Train). next_fault sr us x s) (open_at us t e a)

  pub finish_same : (us : List Train) (t : Train) (e : Entry) → At tr sr (with_open us t) (Open e) ts ss → finish_refusal e ts ss ≡ finish_fault t
  finish_same us t e a = (refusals_agree (with_open us t) (Open e) a).1 ∙ ap finish_fault (open_at us t e a)

  -- ---- a call that is not refused leads on
  force_on : (f g : InForce) (st : State) (a : At tr sr f st ts ss) (c : Call) → advance tr sr f.trains f.opened c ≡ g → in_force tr sr (a.calls ++ (c ∷ [])) ≡ g
  force_on f g st a c e = after_one_more tr sr (none_open []) a.calls c ∙ ap (λ (x : InForce). advance tr sr x.trains x.opened c) a.force ∙ e

  pub begin_on : (us : List Train) (b : Book) (n c x : ℕ) → At tr sr (none_open us) (Closed b) ts ss → CallTyped (begins n c x) → begin_refusal b ts ss n ≡ None
      → At tr sr (with_open us (fresh n c x)) (Open (entered b n c x)) ts ss
  begin_on us b n c x a typed none =
      record {
        calls = a.calls ++ (begins n c x ∷ []);
        history = subst (λ (o : Option Refusal). History tr sr (a.calls ++ (begins n c x ∷ [])) (begun (refused_or o b (entered b n c x))) ts ss) none (begin a.calls b ts ss n c x typed a.history);
        force = force_on _ _ _ a (begins n c x) (ap (λ (o : Option Refusal). unless o (none_open us) (with_open us (fresh n c x))) (sym (begin_same us b n a) ∙ none));
      }

  pub stop_on : (us : List Train) (t : Train) (e : Entry) (s : StopRow) → At tr sr (with_open us t) (Open e) ts ss → CallTyped (stops s) → stop_refusal e ts ss s ≡ None
      → At tr sr (with_open us (lengthened t s)) (Open (longer e)) ts (wrote ss e s)
  stop_on us t e s a typed none =
      record {
        calls = a.calls ++ (stops s ∷ []);
        history = subst (λ (o : Option Refusal). History tr sr (a.calls ++ (stops s ∷ [])) (stopped (refused_or o e (longer e))) ts (unless o ss (wrote ss e s))) none (stop a.calls e ts ss s typed a.history);
        force = force_on _ _ _ a (stops s) (ap (λ (o : Option Refusal). unless o (with_open us t) (with_open us (lengthened t s))) (sym (stop_same us t e s a) ∙ none));
      }

  pub finish_on : (us : List Train) (t : Train) (e : Entry) → At tr sr (with_open us t) (Open e) ts ss → finish_refusal e ts ss ≡ None
      → At tr sr (none_open (us ++ (t ∷ []))) (Closed (closed e)) (rowed ts e) ss
  finish_on us t e a none =
      record {
        calls = a.calls ++ (finishes ∷ []);
        history = subst (λ (o : Option Refusal). History tr sr (a.calls ++ (finishes ∷ [])) (finished (refused_or o e (closed e))) (unless o ts (rowed ts e)) ss) none (finish a.calls e ts ss a.history);
        force = force_on _ _ _ a finishes (ap (λ (o : Option Refusal). unless o (with_open us t) (none_open (us ++ (t ∷ [])))) (sym (finish_same us t e a) ∙ none));
      }
