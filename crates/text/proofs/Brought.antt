-- A text that is accepted is the text of the trains that it brought: each line is that of the stop that it says.
use Rattle.std.proofs.Common.{◌≡◌, ℕ, suc, Bool, true, false, cond, List, [], ◌∷◌, ◌++◌, is_some, Some, None, Ok, Err, Option, Result, sym, refl, ap, ◌∙◌, subst, append_assoc, arith}
use Rattle.std.specs.List.{flat_map}
use Rattle.std.proofs.lemmas.Bool.Decides.{nat_tests}
use Rattle.std.proofs.lemmas.Grind.{flat_map-append}
use Rattle.std.proofs.lemmas.List.{append-nil}
use Rattle.std.proofs.lemmas.Slice.Eq.{bytes_eq-Decides}
use Rattle.book.specs.Answers.{refused_or, unless, longer, abandon_answer}
use Rattle.book.specs.Histories.{Closed, Open, EveryHistoryHolds, EveryRefusalAgrees}
use Rattle.book.specs.PlainList.{stops, CallTyped, none_open, with_open, fresh, lengthened}
use Rattle.book.specs.Refusals.{check_refusal, begin_refusal, stop_refusal, finish_refusal}
use Rattle.book.specs.Trains.{Train, open_train}
use Rattle.book.specs.declared.refusal.Refusal.{Refusal}
use Rattle.book.specs.declared.rows.StopRow.{StopRow}
use Rattle.book.specs.declared.rows.TrainRow.{TrainRow}
use Rattle.book.specs.declared.state.Book.{Book}
use Rattle.book.specs.declared.state.Entry.{Entry}
use Rattle.text.specs.Faults.{wrong_names, differs, misread}
use Rattle.text.specs.Lines.{Line, whole, cut_off, lines}
use Rattle.text.specs.Reading.{Left, left, then_on, after_finish, after_stop, stopping, after_begin, same_train, taking, after_saying, ending, reading, is_names, from_names, unless_refused, read}
use Rattle.text.specs.Saying.{says}
use Rattle.text.specs.Written.{names, line_of, stop_of, lines_of, text_of}
use Rattle.text.specs.declared.fault.Fault.{Fault}
use Rattle.text.specs.declared.fault.Misread.{Misread}
use Rattle.text.specs.declared.stage.Stage.{Stage}
use Rattle.text.specs.declared.stage.Stage.TheVariants.{Between, Inside}
use Rattle.text.specs.declared.stop_line.StopLine.{StopLine}
use Rattle.text.proofs.AlongCalls.{At, open_at, begin_on, stop_on, finish_on, entered, wrote, closed, rowed}
use Rattle.text.proofs.CallsTyped.{CallsTyped, says_typed}
use Rattle.text.proofs.LinesAndFields.{bytes_of, lines_joined}
use Rattle.text.proofs.LinesSay.{says_back}

joined_push : {X : Type 0} (f : X → List ℕ) (xs : List X) (x : X) → flat_map f (xs ++ (x ∷ [])) ≡ flat_map f xs ++ f x
joined_push f xs x = flat_map-append f xs (x ∷ []) ∙ ap (λ (r : List ℕ). flat_map f xs ++ r) (append-nil (f x))

lines_of_more : (t : Train) (s : StopRow) → lines_of (lengthened t s) ≡ lines_of t ++ line_of (stop_of t s)
lines_of_more t s = joined_push (λ s. line_of (stop_of t s)) t.stops s

-- `old` are the trains that the book had
module _ (every : EveryHistoryHolds) (agrees : EveryRefusalAgrees) (tr sr : ℕ) (old : List Train) where
  -- the bytes that are read are the lines of trains behind the old ones
  record GotBook (done : List ℕ) (b : Book) (ts : List TrainRow) (ss : List StopRow) : Type 0 where
    new : List Train
    at : At tr sr (none_open (old ++ new)) (Closed b) ts ss
    bytes : done ≡ flat_map lines_of new

  record GotEntry (done : List ℕ) (e : Entry) (ts : List TrainRow) (ss : List StopRow) : Type 0 where
    new : List Train
    last : Train
    at : At tr sr (with_open (old ++ new) last) (Open e) ts ss
    bytes : done ≡ flat_map lines_of new ++ lines_of last

  abbrev Got : List ℕ → Result Stage Misread → List TrainRow → List StopRow → Type 0
  Got done (Ok (Between b)) ts ss = GotBook done b ts ss
  Got done (Ok (Inside e)) ts ss = GotEntry done e ts ss
  Got done (Err m) ts ss = Unit {0}

  abbrev GotPart : List ℕ → Left Stage → Type 0
  GotPart done l = Got done l.answer l.trains l.stops

  -- ---- finish
  finish_cases : (k : ℕ) (done : List ℕ) (new : List Train) (t : Train) (e : Entry) (ts : List TrainRow) (ss : List StopRow) (o : Option Refusal) → finish_refusal e ts ss ≡ o
      → At tr sr (with_open (old ++ new) t) (Open e) ts ss → done ≡ flat_map lines_of new ++ lines_of t
      → Got done (after_finish k (refused_or o e (closed e))) (unless o ts (rowed ts e)) ss
  finish_cases k done new t e ts ss (Some r) refused a bytes = tt
  finish_cases k done new t e ts ss None none a bytes =
      record {
        new = new ++ (t ∷ []);
        at = subst (λ (us : List Train). At tr sr (none_open us) (Closed (closed e)) (rowed ts e) ss) (append_assoc old new (t ∷ [])) (finish_on every agrees tr sr ts ss (old ++ new) t e a none);
        bytes = bytes ∙ sym (joined_push lines_of new t);
      }

  -- ---- stop, and finish after it
  more_cases : (k : ℕ) (done : List ℕ) (new : List Train) (t : Train) (e : Entry) (ts : List TrainRow) (ss : List StopRow) (more : Bool)
      → At tr sr (with_open (old ++ new) t) (Open e) ts ss → done ≡ flat_map lines_of new ++ lines_of t
      → GotPart done (after_stop k more (Ok e) ts ss)
  more_cases k done new t e ts ss true a bytes = record { new = new; last = t; at = a; bytes = bytes }
  more_cases k done new t e ts ss false a bytes = finish_cases k done new t e ts ss (finish_refusal e ts ss) refl a bytes

  refused_stop : (k : ℕ) (done : List ℕ) (e : Entry) (r : Refusal) (ts : List TrainRow) (ss : List StopRow) (more : Bool) → GotPart done (after_stop k more (Err (record { back = e; refusal = r })) ts ss)
  refused_stop k done e r ts ss true = tt
  refused_stop k done e r ts ss false = tt

  stop_cases : (k : ℕ) (done : List ℕ) (new : List Train) (t : Train) (e : Entry) (s : StopRow) (ts : List TrainRow) (ss : List StopRow) (o : Option Refusal) → stop_refusal e ts ss s ≡ o
      → At tr sr (with_open (old ++ new) t) (Open e) ts ss → done ≡ flat_map lines_of new ++ lines_of t → CallTyped (stops s)
      → GotPart (done ++ line_of (stop_of t s)) (after_stop k (is_some s.depart) (refused_or o e (longer e)) ts (unless o ss (wrote ss e s)))
  stop_cases k done new t e s ts ss (Some r) refused a bytes typed = refused_stop k (done ++ line_of (stop_of t s)) e r ts ss (is_some s.depart)
  stop_cases k done new t e s ts ss None none a bytes typed =
      more_cases k _ new (lengthened t s) (longer e) ts (wrote ss e s) (is_some s.depart) (stop_on every agrees tr sr ts ss (old ++ new) t e s a typed none)
      (ap (λ (x : List ℕ). x ++ line_of (stop_of t s)) bytes ∙ append_assoc (flat_map lines_of new) (lines_of t) _
      ∙ ap (λ (x : List ℕ). flat_map lines_of new ++ x) (sym (lines_of_more t s)))

  stopping_got : (k : ℕ) (done : List ℕ) (new : List Train) (t : Train) (e : Entry) (l : StopLine) (ts : List TrainRow) (ss : List StopRow)
      → At tr sr (with_open (old ++ new) t) (Open e) ts ss → done ≡ flat_map lines_of new ++ lines_of t → stop_of t l.stop ≡ l → CallsTyped l
      → GotPart (done ++ line_of l) (stopping k l.stop e ts ss)
  stopping_got k done new t e l ts ss a bytes same typed =
      subst (λ (x : StopLine). GotPart (done ++ line_of x) (stopping k l.stop e ts ss)) same
      (stop_cases k done new t e l.stop ts ss (stop_refusal e ts ss l.stop) refl a bytes typed.stop)

  -- ---- begin
  begin_cases : (k : ℕ) (done : List ℕ) (new : List Train) (b : Book) (l : StopLine) (ts : List TrainRow) (ss : List StopRow) (o : Option Refusal) → begin_refusal b ts ss l.number ≡ o
      → At tr sr (none_open (old ++ new)) (Closed b) ts ss → done ≡ flat_map lines_of new → CallsTyped l
      → GotPart (done ++ line_of l) (after_begin k l.stop (refused_or o b (entered b l.number l.code l.features)) ts ss)
  begin_cases k done new b l ts ss (Some r) refused a bytes typed = tt
  begin_cases k done new b l ts ss None none a bytes typed =
      stopping_got k done new (fresh l.number l.code l.features) _ l ts ss (begin_on every agrees tr sr ts ss (old ++ new) b l.number l.code l.features a typed.begin none)
      (bytes ∙ sym (append-nil (flat_map lines_of new))) refl typed

  same_line : (e : Entry) (t : Train) (ss : List StopRow) (l : StopLine) → open_train e ss ≡ t → same_train e l ≡ true → stop_of t l.stop ≡ l
  same_line e t ss l o h =
      let n : l.number ≡ e.number = grind (arith, nat_tests) in
      let c : l.code ≡ e.code = grind (arith, nat_tests) in
      let x : l.features ≡ e.features = grind (arith, nat_tests) in
      ap (λ (u : Train). stop_of u l.stop) (sym o) ∙ rw (← n, ← c, ← x) refl

  same_cases : (k : ℕ) (done : List ℕ) (e : Entry) (l : StopLine) (ts : List TrainRow) (ss : List StopRow) (d : Bool) → same_train e l ≡ d → GotEntry done e ts ss → CallsTyped l
      → GotPart (done ++ line_of l) (cond d (stopping k l.stop e ts ss) (left (Err (misread (abandon_answer e) (differs k))) ts ss))
  same_cases k done e l ts ss true h g typed =
      stopping_got k done g.new g.last e l ts ss g.at g.bytes (same_line e g.last ss l (open_at every agrees tr sr ts ss (old ++ g.new) g.last e g.at) h) typed
  same_cases k done e l ts ss false h g typed = tt

  taking_got : (k : ℕ) (done : List ℕ) (st : Stage) (l : StopLine) (ts : List TrainRow) (ss : List StopRow) → Got done (Ok st) ts ss → CallsTyped l → GotPart (done ++ line_of l) (taking k l st ts ss)
  taking_got k done (Between b) l ts ss g typed = begin_cases k done g.new b l ts ss (begin_refusal b ts ss l.number) refl g.at g.bytes typed
  taking_got k done (Inside e) l ts ss g typed = same_cases k done e l ts ss (same_train e l) refl g typed

  -- ---- line after line
  saying_got : (k : ℕ) (done : List ℕ) (st : Stage) (ts : List TrainRow) (ss : List StopRow) (l : Line) (r : Result StopLine Fault) → says k l ≡ r → Got done (Ok st) ts ss
      → GotPart (done ++ bytes_of l) (after_saying k r st ts ss)
  saying_got k done st ts ss l (Err f) e g = tt
  saying_got k done st ts ss l (Ok s) e g =
      subst (λ (x : List ℕ). GotPart (done ++ x) (taking k s st ts ss)) (sym (says_back k l s e)) (taking_got k done st s ts ss g (says_typed k l s e))

  -- a text that is accepted from here on
  abbrev Whole : List ℕ → Result Book Misread → List TrainRow → List StopRow → Type 0
  Whole done (Ok b) ts ss = GotBook done b ts ss
  Whole done (Err m) ts ss = Unit {0}

  abbrev WholePart : List ℕ → Left Book → Type 0
  WholePart done l = Whole done l.answer l.trains l.stops

  ending_whole : (k : ℕ) (done : List ℕ) (st : Stage) (ts : List TrainRow) (ss : List StopRow) → Got done (Ok st) ts ss → Whole done (ending k st) ts ss
  ending_whole k done (Between b) ts ss g = g
  ending_whole k done (Inside e) ts ss g = tt

  then_whole : (done all : List ℕ) (r : Result Stage Misread) (ts : List TrainRow) (ss : List StopRow) (on : Stage → List TrainRow → List StopRow → Left Book)
      → ((st : Stage) → Got done (Ok st) ts ss → WholePart all (on st ts ss)) → Got done r ts ss → WholePart all (then_on r ts ss on)
  then_whole done all (Ok st) ts ss on go g = go st g
  then_whole done all (Err m) ts ss on go g = tt

  reading_whole : (k : ℕ) (ls : List Line) (done : List ℕ) (st : Stage) (ts : List TrainRow) (ss : List StopRow) → Got done (Ok st) ts ss → WholePart (done ++ flat_map bytes_of ls) (reading k ls st ts ss)
  reading_whole k [] done st ts ss g = subst (λ (x : List ℕ). Whole x (ending k st) ts ss) (sym (append-nil done)) (ending_whole k done st ts ss g)
  reading_whole k (l ∷ ls) done st ts ss g =
      subst (λ (x : List ℕ). WholePart x (reading k (l ∷ ls) st ts ss)) (append_assoc done (bytes_of l) (flat_map bytes_of ls))
      (then_whole (done ++ bytes_of l) _ _ _ _ (reading (suc k) ls) (λ st' g'. reading_whole (suc k) ls (done ++ bytes_of l) st' _ _ g')
      (saying_got (suc k) done st ts ss l (says (suc k) l) refl g))

  -- ---- a whole text
  abbrev WholeText : List ℕ → Result Book Misread → List TrainRow → List StopRow → Type 0
  WholeText text (Ok b) ts ss = (brought : List Train) × At tr sr (none_open (old ++ brought)) (Closed b) ts ss × (text ≡ text_of brought)
  WholeText text (Err m) ts ss = Unit {0}

  behind_names : (done : List ℕ) (r : Result Book Misread) (ts : List TrainRow) (ss : List StopRow) → Whole done r ts ss → WholeText (names ++ 10 ∷ done) r ts ss
  behind_names done (Ok b) ts ss g = (g.new, g.at, ap (λ (x : List ℕ). names ++ 10 ∷ x) g.bytes)
  behind_names done (Err m) ts ss g = tt

  names_bytes : (l : Line) → is_names l ≡ true → bytes_of l ≡ names ++ 10 ∷ []
  names_bytes (whole l) e = ap (λ (x : List ℕ). x ++ 10 ∷ []) ((bytes_eq-Decides l names).0 e)
  names_bytes (cut_off l) e = cc

  module _ (b : Book) (ts : List TrainRow) (ss : List StopRow) (a : At tr sr (none_open old) (Closed b) ts ss) where
    none_yet : GotBook [] b ts ss
    none_yet = record { new = []; at = subst (λ (us : List Train). At tr sr (none_open us) (Closed b) ts ss) (sym (append-nil old)) a; bytes = refl }

    abbrev IsText : List ℕ → Left Book → Type 0
    IsText text l = WholeText text l.answer l.trains l.stops

    names_cases : (l : Line) (ls : List Line) (d : Bool) → is_names l ≡ d
        → IsText (bytes_of l ++ flat_map bytes_of ls) (cond d (reading 1 ls (Between b) ts ss) (left (Err (misread b wrong_names)) ts ss))
    names_cases l ls true e =
        subst (λ (x : List ℕ). IsText (x ++ flat_map bytes_of ls) (reading 1 ls (Between b) ts ss)) (sym (names_bytes l e))
        (behind_names (flat_map bytes_of ls) _ _ _ (reading_whole 1 ls [] (Between b) ts ss none_yet))
    names_cases l ls false e = tt

    from_names_text : (ls : List Line) → IsText (flat_map bytes_of ls) (from_names ls b ts ss)
    from_names_text [] = tt
    from_names_text (l ∷ ls) = names_cases l ls (is_names l) refl

    unless_text : (text : List ℕ) (o : Option Refusal) (reads : Left Book) → IsText text reads → IsText text (unless_refused o b ts ss reads)
    unless_text text (Some r) reads h = tt
    unless_text text None reads h = h

    read_text : (text : List ℕ) → IsText text (read text b ts ss)
    unfolding read
    read_text text =
        unless_text text (check_refusal b ts ss) _
        (subst (λ (x : List ℕ). IsText x (from_names (lines text) b ts ss)) (lines_joined text) (from_names_text (lines text)))

    -- an accepted text, and the book that it leads to
    pub accepted_is_text : (text : List ℕ) (after : Book) → (read text b ts ss).answer ≡ Ok after
        → (brought : List Train) × At tr sr (none_open (old ++ brought)) (Closed after) (read text b ts ss).trains (read text b ts ss).stops × (text ≡ text_of brought)
    accepted_is_text text after e = subst (λ (r : Result Book Misread). WholeText text r (read text b ts ss).trains (read text b ts ss).stops) e (read_text text)
