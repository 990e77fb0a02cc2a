-- The text of trains that keep the rules, in a book with room for them, is accepted and brings those trains: no call is refused.
use Rattle.std.proofs.Common.{◌≡◌, ℕ, suc, ◌+◌, ◌<◌, ◌≤◌, Bool, true, false, cond, not, eqb, List, [], ◌∷◌, ◌++◌, length, is_some, Some, None, Ok, Err, Option, Result, sym, refl, ap, ◌∙◌, subst, append_assoc, arith}
use Rattle.std.specs.List.{flat_map, AllByRecursion as All}
use Rattle.std.proofs.lemmas.Bool.{and_parts, leb-true, not-true, not-false}
use Rattle.std.proofs.lemmas.Bool.Decides.{nat_tests}
use Rattle.std.proofs.lemmas.List.{append-nil, length_push}
use Rattle.book.specs.Answers.{refused_or, unless, longer, abandon_answer}
use Rattle.book.specs.Limits.{most_stops_of_train, most_trains, most_stops}
use Rattle.book.specs.Histories.{Closed, Open, EveryHistoryHolds, EveryRefusalAgrees}
use Rattle.book.specs.PlainList.{none_open, with_open, fresh, lengthened}
use Rattle.book.specs.Refusals.{no_stop_row, begin_fault, next_fault, finish_fault, begin_refusal, stop_refusal, finish_refusal}
use Rattle.book.specs.Stops.{stop_reasons, stop_fault, ended, in_order, last_of, sound}
use Rattle.book.specs.Trains.{Train, known, all_stops}
use Rattle.book.specs.declared.refusal.Refusal.{Refusal}
use Rattle.book.specs.declared.refusal.Refusal.TheVariants.{NoStopRow}
use Rattle.book.specs.declared.rows.StopRow.{StopRow}
use Rattle.book.specs.declared.rows.TrainRow.{TrainRow}
use Rattle.book.specs.declared.state.Book.{Book}
use Rattle.book.specs.declared.state.Entry.{Entry}
use Rattle.text.specs.Faults.{differs, misread}
use Rattle.text.specs.Lines.{Line, lines}
use Rattle.text.specs.Reading.{Left, left, after_part, after_finish, after_stop, stopping, after_begin, same_train, taking, after_saying, reading}
use Rattle.text.specs.Written.{fields_of, with_commas, line_of, stop_of, lines_of}
use Rattle.text.specs.declared.fault.Fault.{Fault}
use Rattle.text.specs.declared.stage.Stage.{Stage}
use Rattle.text.specs.declared.stage.Stage.TheVariants.{Between, Inside}
use Rattle.text.specs.declared.stop_line.StopLine.{StopLine}
use Rattle.book.proofs.FirstReason.{none_holds, no_reason, none_of_both}
use Rattle.text.proofs.AlongCalls.{At, open_at, begin_same, stop_same, finish_same, begin_on, stop_on, finish_on, entered, wrote, closed, rowed}
use Rattle.text.proofs.CallsTyped.{calls_typed}
use Rattle.text.proofs.LinesAndFields.{lines_more}
use Rattle.text.proofs.LinesSay.{Fits, says_written, line_high}

-- ---- no call is refused
next_none : (rows : ℕ) (us : List Train) (t : Train) (s : StopRow) → stop_fault (last_of None t.stops) s ≡ None → length t.stops < most_stops_of_train
    → all_stops us + length t.stops < most_stops → all_stops us + length t.stops < rows → next_fault rows us t s ≡ None
unfolding stop_fault
next_none rows us t s f a b c =
    let row : no_stop_row rows (all_stops us + length t.stops) (length t.stops) ≡ false = grind (arith, nat_tests) in
    let last = (no_stop_row rows (all_stops us + length t.stops) (length t.stops), NoStopRow) ∷ [] in
    none_of_both (stop_reasons (last_of None t.stops) s) last f (no_reason last (row, tt))

begin_none : (rows : ℕ) (us : List Train) (n : ℕ) → eqb n 0 ≡ false → known n us ≡ false → length us < most_trains → length us < rows → begin_fault rows us n ≡ None
begin_none rows us n z k a b = grind (arith, nat_tests)

finish_none : (t : Train) → ended (last_of None t.stops) ≡ true → finish_fault t ≡ None
finish_none t e = rw e refl

last_push : (b : Option StopRow) (xs : List StopRow) (s : StopRow) → last_of b (xs ++ (s ∷ [])) ≡ Some s
last_push b [] s = refl
last_push b (x ∷ xs) s = last_push (Some x) xs s

no_fault : (o : Option Refusal) → not (is_some o) ≡ true → o ≡ None
no_fault None e = refl
no_fault (Some r) e = cc

-- a stop that another follows has a departure
goes_on : (s next : StopRow) → stop_fault (Some s) next ≡ None → is_some s.depart ≡ true
unfolding stop_fault
goes_on s next e = not-false _ (none_holds (stop_reasons (Some s) next) e).0

-- ---- one line
-- the lines behind the line k, after what that line led to
abbrev on : ℕ → Left Stage → List Line → Left Book
on k part ls = after_part part (reading k ls)

line_step : (k : ℕ) (st : Stage) (ts : List TrainRow) (ss : List StopRow) (l : StopLine) (more : List ℕ) → Fits l
    → reading k (lines (line_of l ++ more)) st ts ss ≡ on (suc k) (taking (suc k) l st ts ss) (lines more)
unfolding line_of
line_step k st ts ss l more h =
    ap (λ (x : List ℕ). reading k (lines x) st ts ss) (append_assoc (with_commas (fields_of l)) (10 ∷ []) more)
    ∙ ap (λ (ls : List Line). reading k ls st ts ss) (lines_more (with_commas (fields_of l)) more (line_high l h.typed))
    ∙ ap (λ (r : Result StopLine Fault). on (suc k) (after_saying (suc k) r st ts ss) (lines more)) (says_written (suc k) l h)

module _ (every : EveryHistoryHolds) (agrees : EveryRefusalAgrees) (tr sr : ℕ) where
  -- it comes down to reading the rest of the text into a book of these trains
  pub record LeadsTo (from : Left Book) (more : List ℕ) (us : List Train) : Type 0 where
    pub line : ℕ
    pub book : Book
    pub rows : List TrainRow
    pub stop_rows : List StopRow
    pub same : from ≡ reading line (lines more) (Between book) rows stop_rows
    pub at : At tr sr (none_open us) (Closed book) rows stop_rows

  leads_by : (from to : Left Book) (more : List ℕ) (us : List Train) → from ≡ to → LeadsTo to more us → LeadsTo from more us
  leads_by from to more us e l = subst (λ (r : Left Book). LeadsTo r more us) (sym e) l

  module _ (us : List Train) where
    -- what is left of the open train's stops breaks no rule
    record Remains (t : Train) (todo : List StopRow) : Type 0 where
      order : in_order (last_of None t.stops) todo ≡ true
      ends : ended (last_of (last_of None t.stops) todo) ≡ true
      few_stops : length t.stops + length todo ≤ most_stops_of_train
      most_stops : all_stops us + (length t.stops + length todo) ≤ most_stops
      room : all_stops us + (length t.stops + length todo) ≤ sr
      fits : All (λ (s : StopRow). Fits (stop_of t s)) todo

    abbrev extended : Train → List StopRow → Train
    extended t todo = record { number = t.number; code = t.code; features = t.features; stops = t.stops ++ todo }

    remains_next : (t : Train) (s : StopRow) (todo : List StopRow) → Remains t (s ∷ todo) → Remains (lengthened t s) todo
    remains_next t s todo l =
        let f = last_push None t.stops s in
        let n = length_push t.stops s in
        record {
          order = rw f (and_parts _ _ l.order).1;
          ends = rw f l.ends;
          few_stops = omega (arith, n, l.few_stops);
          most_stops = omega (arith, n, l.most_stops);
          room = omega (arith, n, l.room);
          fits = l.fits.1;
        }

    module _ (t : Train) (e : Entry) (s : StopRow) (todo : List StopRow) (ts : List TrainRow) (ss : List StopRow) (a : At tr sr (with_open us t) (Open e) ts ss) (l : Remains t (s ∷ todo)) where
      passes : stop_refusal e ts ss s ≡ None
      passes =
          stop_same every agrees tr sr ts ss us t e s a
          ∙ next_none sr us t s (no_fault _ (and_parts _ _ l.order).0) (omega (arith, l.few_stops)) (omega (arith, l.most_stops)) (omega (arith, l.room))

      stops_on : (k : ℕ) → stopping k s e ts ss ≡ after_stop k (is_some s.depart) (Ok (longer e)) ts (wrote ss e s)
      stops_on k = ap (λ (o : Option Refusal). after_stop k (is_some s.depart) (refused_or o e (longer e)) ts (unless o ss (wrote ss e s))) passes

      at_on : At tr sr (with_open us (lengthened t s)) (Open (longer e)) ts (wrote ss e s)
      at_on = stop_on every agrees tr sr ts ss us t e s a (calls_typed (stop_of t s) l.fits.0).stop passes

    same_open : (t : Train) (e : Entry) (s : StopRow) (ts : List TrainRow) (ss : List StopRow) → At tr sr (with_open us t) (Open e) ts ss → same_train e (stop_of t s) ≡ true
    same_open t e s ts ss a =
        subst (λ (u : Train). same_train e (stop_of u s) ≡ true) (open_at every agrees tr sr ts ss us t e a) (grind (arith, nat_tests))

    stopping_read : (todo : List StopRow) (s : StopRow) (k : ℕ) (t : Train) (e : Entry) (ts : List TrainRow) (ss : List StopRow) (more : List ℕ)
        → At tr sr (with_open us t) (Open e) ts ss → Remains t (s ∷ todo)
        → LeadsTo (on k (stopping k s e ts ss) (lines (flat_map (λ r. line_of (stop_of t r)) todo ++ more))) more (us ++ (extended t (s ∷ todo) ∷ []))
    stopping_read [] s k t e ts ss more a l =
        let ss' = wrote ss e s in
        let b = at_on t e s [] ts ss a l in
        let last : is_some s.depart ≡ false = not-true _ l.ends in
        let done : finish_refusal (longer e) ts ss' ≡ None = finish_same every agrees tr sr ts ss' us (lengthened t s) (longer e) b ∙ finish_none (lengthened t s) (rw (last_push None t.stops s) l.ends) in
        let go = stops_on t e s [] ts ss a l k
        ∙ ap (λ (d : Bool). after_stop k d (Ok (longer e)) ts ss') last
        ∙ ap (λ (o : Option Refusal). left (after_finish k (refused_or o (longer e) (closed (longer e)))) (unless o ts (rowed ts (longer e))) ss') done in
        record {
          line = k;
          book = closed (longer e);
          rows = rowed ts (longer e);
          stop_rows = ss';
          same = ap (λ (r : Left Stage). on k r (lines more)) go;
          at = finish_on every agrees tr sr ts ss' us (lengthened t s) (longer e) b done;
        }
    stopping_read (n ∷ todo) s k t e ts ss more a l =
        let ss' = wrote ss e s in
        let b = at_on t e s (n ∷ todo) ts ss a l in
        let l' = remains_next t s (n ∷ todo) l in
        let v = stop_of t n in
        let rest = flat_map (λ r. line_of (stop_of t r)) todo ++ more in
        let depart : is_some s.depart ≡ true = goes_on s n (no_fault _ (and_parts _ _ (and_parts _ _ l.order).1).0) in
        let go = stops_on t e s (n ∷ todo) ts ss a l k ∙ ap (λ (d : Bool). after_stop k d (Ok (longer e)) ts ss') depart in
        leads_by _ (on (suc k) (stopping (suc k) n (longer e) ts ss') (lines rest)) more _
        (ap (λ (r : Left Stage). on k r (lines ((line_of v ++ flat_map (λ r. line_of (stop_of t r)) todo) ++ more))) go
        ∙ ap (λ (x : List ℕ). reading k (lines x) (Inside (longer e)) ts ss') (append_assoc (line_of v) (flat_map (λ r. line_of (stop_of t r)) todo) more)
        ∙ line_step k (Inside (longer e)) ts ss' v rest l.fits.1.0
        ∙ ap (λ (d : Bool). on (suc k) (cond d (stopping (suc k) n (longer e) ts ss') (left (Err (misread (abandon_answer (longer e)) (differs (suc k)))) ts ss')) (lines rest)) (same_open (lengthened t s) (longer e) n ts ss' b))
        (subst (λ (x : List StopRow). LeadsTo (on (suc k) (stopping (suc k) n (longer e) ts ss') (lines rest)) more (us ++ (record { number = t.number; code = t.code; features = t.features; stops = x } ∷ [])))
        (append_assoc t.stops (s ∷ []) (n ∷ todo))
        (stopping_read todo n (suc k) (lengthened t s) (longer e) ts ss' more b l'))

  -- ---- one train
  -- the train breaks no rule, its number is new, and its stops can be written
  abbrev Ready : List Train → Train → Type 0
  Ready us t = (sound t.number t.stops ≡ true) × (known t.number us ≡ false) × All (λ (s : StopRow). Fits (stop_of t s)) t.stops

  pub record Room (us : List Train) (trains stops : ℕ) : Type 0 where
    pub few_trains : length us + trains ≤ most_trains
    pub train_rows : length us + trains ≤ tr
    pub few_stops : all_stops us + stops ≤ most_stops
    pub stop_rows : all_stops us + stops ≤ sr

  stops_read : (us : List Train) (n c x : ℕ) (stops : List StopRow) (k : ℕ) (b : Book) (ts : List TrainRow) (ss : List StopRow) (more : List ℕ)
      → At tr sr (none_open us) (Closed b) ts ss → begin_refusal b ts ss n ≡ None → Remains us (fresh n c x) stops
      → LeadsTo (reading k (lines (flat_map (λ r. line_of (stop_of (fresh n c x) r)) stops ++ more)) (Between b) ts ss) more (us ++ (extended us (fresh n c x) stops ∷ []))
  stops_read us n c x [] k b ts ss more a none l = let e = l.ends in cc
  stops_read us n c x (s ∷ todo) k b ts ss more a none l =
      let v = stop_of (fresh n c x) s in
      let f : StopRow → List ℕ = λ r. line_of (stop_of (fresh n c x) r) in
      let rest = flat_map f todo ++ more in
      leads_by _ (on (suc k) (stopping (suc k) s (entered b n c x) ts ss) (lines rest)) more _
      (ap (λ (y : List ℕ). reading k (lines y) (Between b) ts ss) (append_assoc (line_of v) (flat_map f todo) more)
      ∙ line_step k (Between b) ts ss v rest l.fits.0
      ∙ ap (λ (o : Option Refusal). on (suc k) (after_begin (suc k) s (refused_or o b (entered b n c x)) ts ss) (lines rest)) none)
      (stopping_read us todo s (suc k) (fresh n c x) (entered b n c x) ts ss more (begin_on every agrees tr sr ts ss us b n c x a (calls_typed v l.fits.0).begin none) l)

  train_read : (us : List Train) (t : Train) (others : ℕ) (k : ℕ) (b : Book) (ts : List TrainRow) (ss : List StopRow) (more : List ℕ) (trains : ℕ)
      → At tr sr (none_open us) (Closed b) ts ss → Ready us t → Room us (suc trains) (length t.stops + others)
      → LeadsTo (reading k (lines (lines_of t ++ more)) (Between b) ts ss) more (us ++ (t ∷ []))
  unfolding sound
  train_read us t others k b ts ss more trains a h r =
      let p = and_parts _ _ h.0 in
      let q = and_parts _ _ p.0 in
      let u = and_parts _ _ q.0 in
      stops_read us t.number t.code t.features t.stops k b ts ss more a
      (begin_same every agrees tr sr ts ss us b t.number a
      ∙ begin_none tr us t.number (not-true _ u.0) h.1 (omega (arith, r.few_trains)) (omega (arith, r.train_rows)))
      (record {
        order = q.1;
        ends = p.1;
        few_stops = omega (arith, leb-true _ _ u.1);
        most_stops = omega (arith, r.few_stops);
        room = omega (arith, r.stop_rows);
        fits = h.2;
      })

  -- ---- all trains
  abbrev pub AllReady : List Train → List Train → Type 0
  AllReady us [] = Unit {0}
  AllReady us (t ∷ new) = Ready us t × AllReady (us ++ (t ∷ [])) new

  all_stops_push : (us : List Train) (t : Train) → all_stops (us ++ (t ∷ [])) ≡ all_stops us + length t.stops
  all_stops_push [] t = omega arith
  all_stops_push (u ∷ us) t = omega (arith, all_stops_push us t)

  pub trains_read : (new us : List Train) (k : ℕ) (b : Book) (ts : List TrainRow) (ss : List StopRow)
      → At tr sr (none_open us) (Closed b) ts ss → AllReady us new → Room us (length new) (all_stops new)
      → LeadsTo (reading k (lines (flat_map lines_of new)) (Between b) ts ss) [] (us ++ new)
  trains_read [] us k b ts ss a h r =
      record { line = k; book = b; rows = ts; stop_rows = ss; same = refl; at = subst (λ (x : List Train). At tr sr (none_open x) (Closed b) ts ss) (sym (append-nil us)) a }
  trains_read (t ∷ new) us k b ts ss a h r =
      let l = train_read us t (all_stops new) k b ts ss (flat_map lines_of new) (length new) a h.0 r in
      let n = length_push us t in
      let m = all_stops_push us t in
      let room : Room (us ++ (t ∷ [])) (length new) (all_stops new) = record {
        few_trains = omega (arith, n, r.few_trains);
        train_rows = omega (arith, n, r.train_rows);
        few_stops = omega (arith, m, r.few_stops);
        stop_rows = omega (arith, m, r.stop_rows);
      } in
      leads_by _ _ [] _ l.same
      (subst (LeadsTo (reading l.line (lines (flat_map lines_of new)) (Between l.book) l.rows l.stop_rows) []) (append_assoc us (t ∷ []) new)
      (trains_read new (us ++ (t ∷ [])) l.line l.book l.rows l.stop_rows l.at h.1 room))
