-- One line: its bytes and what it says give each other.
use Rattle.std.proofs.Common.{◌≡◌, ℕ, ◌<◌, ◌≤◌, Bool, true, false, cond, eqb, List, [], ◌∷◌, ◌++◌, length, Some, None, Ok, Err, decimal, Option, Result, sym, refl, ap, ◌∙◌, subst, arith}
use Rattle.std.specs.List.{AllByRecursion as All}
use Rattle.std.specs.Option.{ok_or, option_map}
use Rattle.std.specs.Str.{all_ascii_digits}
use Rattle.std.proofs.ByRecursion.{All-append, All-weaker}
use Rattle.std.proofs.lemmas.Bool.{and_parts, eqb-true, leb-true}
use Rattle.book.specs.Stops.{leaves}
use Rattle.book.specs.declared.rows.Departure.{Departure}
use Rattle.text.specs.Faults.{malformed}
use Rattle.text.specs.Lines.{Line, whole, cut_off, fields, field}
use Rattle.text.specs.Numbers.{end_of_8_bits, end_of_16_bits, number}
use Rattle.text.specs.Results.{and_then}
use Rattle.text.specs.Saying.{time_if_any, departure, fields_say, says}
use Rattle.text.specs.Times.{end_of_clock, time}
use Rattle.text.specs.Written.{clock_or_blank, fare_or_blank, fields_of, with_commas, line_of, Typed}
use Rattle.text.specs.declared.fault.Fault.{Fault}
use Rattle.text.specs.declared.stop_line.StopLine.{StopLine}
use Rattle.text.proofs.LinesAndFields.{From, fields_joined, fields_written, bytes_of}
use Rattle.text.proofs.WrittenNumbers.{number_back, number_of_decimal, decimal_are_digits}
use Rattle.text.proofs.WrittenTimes.{time_back, time_of_clock}

-- ---- from a line to what it says
and_then_ok : {A B P : Type 0} (f : Fault) (o : Option A) (on : A → Result B Fault) (b : B) → and_then (ok_or o f) on ≡ Ok b → ((a : A) → o ≡ Some a → on a ≡ Ok b → P) → P
and_then_ok f None on b e k = cc
and_then_ok f (Some a) on b e k = k a refl e

map_parts : {A B : Type 0} (f : A → B) (o : Option A) (b : B) → option_map f o ≡ Some b → (a : A) × (o ≡ Some a) × (f a ≡ b)
map_parts f None b e = cc
map_parts f (Some a) b e = (a, refl, cc)

clock_back : (bs : List ℕ) (o : Option ℕ) → time_if_any bs ≡ Some o → bs ≡ clock_or_blank o
clock_back [] o e = let p : o ≡ None = cc in rw p refl
clock_back (b ∷ bs) o e = let p = map_parts Some (time (b ∷ bs)) o e in rw (← p.2) (time_back (b ∷ bs) p.0 p.1).0

fare_back : (o : Option ℕ) (bs : List ℕ) (d : Option Departure) → departure o bs ≡ Some d → (bs ≡ fare_or_blank d) × (o ≡ leaves d)
fare_back None [] d e = let p : d ≡ None = cc in rw p (refl, refl)
fare_back None (b ∷ bs) d e = cc
fare_back (Some m) bs d e =
    let p = map_parts (λ fare. Some (record { minute = m; fare = fare })) (number end_of_16_bits bs) d e in
    rw (← p.2) ((number_back end_of_16_bits bs p.0 p.1).0, refl)

seven : (fs : List (List ℕ)) → length fs ≡ 7 → fs ≡ field 0 fs ∷ field 1 fs ∷ field 2 fs ∷ field 3 fs ∷ field 4 fs ∷ field 5 fs ∷ field 6 fs ∷ []
seven (a ∷ b ∷ c ∷ d ∷ f ∷ g ∷ h ∷ []) e = refl
seven fs e = absurd (omega arith)

-- what each of the fields says
record Said (fs : List (List ℕ)) (l : StopLine) : Type 0 where
  train : number end_of_16_bits (field 0 fs) ≡ Some l.number
  code : number end_of_8_bits (field 1 fs) ≡ Some l.code
  features : number end_of_16_bits (field 2 fs) ≡ Some l.features
  station : number end_of_16_bits (field 3 fs) ≡ Some l.stop.station
  arrive : time_if_any (field 4 fs) ≡ Some l.stop.arrive
  minute : Option ℕ
  leave : time_if_any (field 5 fs) ≡ Some minute
  depart : departure minute (field 6 fs) ≡ Some l.stop.depart

said : (k : ℕ) (fs : List (List ℕ)) (l : StopLine) → fields_say k fs ≡ Ok l → Said fs l
unfolding fields_say
said k fs l e =
    and_then_ok _ (number end_of_16_bits (field 0 fs)) _ l e (λ train e0 r0.
    and_then_ok _ (number end_of_8_bits (field 1 fs)) _ l r0 (λ code e1 r1.
    and_then_ok _ (number end_of_16_bits (field 2 fs)) _ l r1 (λ features e2 r2.
    and_then_ok _ (number end_of_16_bits (field 3 fs)) _ l r2 (λ station e3 r3.
    and_then_ok _ (time_if_any (field 4 fs)) _ l r3 (λ arrive e4 r4.
    and_then_ok _ (time_if_any (field 5 fs)) _ l r4 (λ leave e5 r5.
    and_then_ok _ (departure leave (field 6 fs)) _ l r5 (λ depart e6 r6.
    let found : StopLine = record { number = train; code = code; features = features; stop = record { station = station; arrive = arrive; depart = depart } } in
    let same : found ≡ l = cc in
    subst (Said fs) same (record { train = e0; code = e1; features = e2; station = e3; arrive = e4; minute = leave; leave = e5; depart = e6 }))))))))

pub fields_back : (k : ℕ) (fs : List (List ℕ)) (l : StopLine) → length fs ≡ 7 → fields_say k fs ≡ Ok l → fs ≡ fields_of l
fields_back k fs l n e =
    let s = said k fs l e in
    let f0 = (number_back end_of_16_bits (field 0 fs) l.number s.train).0 in
    let f1 = (number_back end_of_8_bits (field 1 fs) l.code s.code).0 in
    let f2 = (number_back end_of_16_bits (field 2 fs) l.features s.features).0 in
    let f3 = (number_back end_of_16_bits (field 3 fs) l.stop.station s.station).0 in
    let f4 = clock_back (field 4 fs) l.stop.arrive s.arrive in
    let f6 = fare_back s.minute (field 6 fs) l.stop.depart s.depart in
    let f5 : field 5 fs ≡ clock_or_blank (leaves l.stop.depart) = clock_back (field 5 fs) s.minute s.leave ∙ ap clock_or_blank f6.1 in
    let d = f6.0 in
    seven fs n ∙ cc

pub says_back : (k : ℕ) (l : Line) (s : StopLine) → says k l ≡ Ok s → bytes_of l ≡ line_of s
unfolding says line_of
says_back k (cut_off l) s e = cc
says_back k (whole l) s e = at_test (eqb (length (fields l)) 7) refl e where
  at_test : (t : Bool) → eqb (length (fields l)) 7 ≡ t → cond t (fields_say k (fields l)) (Err (malformed k 0)) ≡ Ok s → l ++ 10 ∷ [] ≡ with_commas (fields_of s) ++ 10 ∷ []
  at_test true t e = ap (λ (x : List ℕ). x ++ 10 ∷ []) (sym (fields_joined l) ∙ ap with_commas (fields_back k (fields l) s (eqb-true _ _ t) e))
  at_test false t e = cc

-- ---- from a stop to its line
abbrev pub OnClock : Option ℕ → Type 0
OnClock None = Unit {0}
OnClock (Some m) = m < end_of_clock

-- a stop that can be written in a line
pub record Fits (l : StopLine) : Type 0 where
  pub typed : Typed l
  pub arrives : OnClock l.stop.arrive
  pub leaves : OnClock (leaves l.stop.depart)

-- what a line says can be written
clock_fits : (bs : List ℕ) (o : Option ℕ) → time_if_any bs ≡ Some o → OnClock o
clock_fits [] o e = let p : o ≡ None = cc in rw p tt
clock_fits (b ∷ bs) o e = let p = map_parts Some (time (b ∷ bs)) o e in rw (← p.2) (time_back (b ∷ bs) p.0 p.1).1

fare_fits : (o : Option ℕ) (bs : List ℕ) (d : Option Departure) → departure o bs ≡ Some d → (x : Departure) → d ≡ Some x → x.fare < end_of_16_bits
fare_fits None [] d e x same = cc
fare_fits None (b ∷ bs) d e x same = cc
fare_fits (Some m) bs d e x same =
    let p = map_parts (λ fare. Some (record { minute = m; fare = fare })) (number end_of_16_bits bs) d e in
    let fare : p.0 ≡ x.fare = ap (λ (o : Option Departure). elim o [ Some d ↦ d.fare | None ↦ 0 ]) (p.2 ∙ same) in
    subst (λ (n : ℕ). n < end_of_16_bits) fare (number_back end_of_16_bits bs p.0 p.1).1

fields_fit : (k : ℕ) (fs : List (List ℕ)) (l : StopLine) → fields_say k fs ≡ Ok l → Fits l
fields_fit k fs l e =
    let s = said k fs l e in
    record {
      typed = record {
        number = (number_back end_of_16_bits (field 0 fs) l.number s.train).1;
        code = (number_back end_of_8_bits (field 1 fs) l.code s.code).1;
        features = (number_back end_of_16_bits (field 2 fs) l.features s.features).1;
        station = (number_back end_of_16_bits (field 3 fs) l.stop.station s.station).1;
        fare = fare_fits s.minute (field 6 fs) l.stop.depart s.depart;
      };
      arrives = clock_fits (field 4 fs) l.stop.arrive s.arrive;
      leaves = subst OnClock (fare_back s.minute (field 6 fs) l.stop.depart s.depart).1 (clock_fits (field 5 fs) s.minute s.leave);
    }

pub says_fits : (k : ℕ) (l : Line) (s : StopLine) → says k l ≡ Ok s → Fits s
unfolding says
says_fits k (cut_off l) s e = cc
says_fits k (whole l) s e = at_test (eqb (length (fields l)) 7) e where
  at_test : (t : Bool) → cond t (fields_say k (fields l)) (Err (malformed k 0)) ≡ Ok s → Fits s
  at_test true e = fields_fit k (fields l) s e
  at_test false e = cc

clock_said : (o : Option ℕ) → OnClock o → time_if_any (clock_or_blank o) ≡ Some o
clock_said None h = refl
clock_said (Some m) h = rw (time_of_clock m h) refl

fare_said : (o : Option Departure) → ((d : Departure) → o ≡ Some d → d.fare < end_of_16_bits) → departure (leaves o) (fare_or_blank o) ≡ Some o
fare_said None h = refl
fare_said (Some d) h = rw (number_of_decimal end_of_16_bits d.fare (h d refl) (omega arith)) refl

pub fields_said : (k : ℕ) (l : StopLine) → Fits l → fields_say k (fields_of l) ≡ Ok l
unfolding fields_say
fields_said k l h =
    let t = h.typed in
    rw (number_of_decimal end_of_16_bits l.number t.number (omega arith))
    (rw (number_of_decimal end_of_8_bits l.code t.code (omega arith))
    (rw (number_of_decimal end_of_16_bits l.features t.features (omega arith))
    (rw (number_of_decimal end_of_16_bits l.stop.station t.station (omega arith))
    (rw (clock_said l.stop.arrive h.arrives)
    (rw (clock_said (leaves l.stop.depart) h.leaves)
    (rw (fare_said l.stop.depart t.fare) refl))))))

-- no byte of a value is a comma or a line feed
digits_high : (bs : List ℕ) → all_ascii_digits bs ≡ true → From 48 bs
digits_high [] e = tt
digits_high (c ∷ cs) e = let p = and_parts _ _ e in (leb-true 48 c (and_parts _ _ p.0).0, digits_high cs p.1)

decimal_high : (n : ℕ) → n < end_of_16_bits → From 48 (decimal n)
decimal_high n h = digits_high (decimal n) (decimal_are_digits n (omega arith))

clock_high : (o : Option ℕ) → From 48 (clock_or_blank o)
clock_high None = tt
clock_high (Some m) = (omega arith, (omega arith, (omega arith, (omega arith, (omega arith, tt)))))

fare_high : (o : Option Departure) → ((d : Departure) → o ≡ Some d → d.fare < end_of_16_bits) → From 48 (fare_or_blank o)
fare_high None h = tt
fare_high (Some d) h = decimal_high d.fare (h d refl)

fields_high : (l : StopLine) → Typed l → All (From 48) (fields_of l)
fields_high l t = (
  decimal_high l.number t.number,
  (
    decimal_high l.code (omega (arith, t.code)),
    (
      decimal_high l.features t.features,
      (
        decimal_high l.stop.station t.station,
        (clock_high l.stop.arrive, (clock_high (leaves l.stop.depart), (fare_high l.stop.depart t.fare, tt))),
      ),
    ),
  ),
)

pub says_written : (k : ℕ) (l : StopLine) → Fits l → says k (whole (with_commas (fields_of l))) ≡ Ok l
unfolding says
says_written k l h = rw (fields_written _ _ (fields_high l h.typed)) (fields_said k l h)

-- a line has no line feed ahead of its end
commas_high : (fs : List (List ℕ)) → All (From 48) fs → From 44 (with_commas fs)
commas_high [] h = tt
commas_high (f ∷ []) h = All-weaker (λ c. 48 ≤ c) (λ c. 44 ≤ c) (λ x k. omega arith) f h.0
commas_high (f ∷ g ∷ fs) h =
    All-append (λ c. 44 ≤ c) f (44 ∷ with_commas (g ∷ fs)) (All-weaker (λ c. 48 ≤ c) (λ c. 44 ≤ c) (λ x k. omega arith) f h.0) (omega arith, commas_high (g ∷ fs) h.1)

pub line_high : (l : StopLine) → Typed l → From 44 (with_commas (fields_of l))
line_high l t = commas_high (fields_of l) (fields_high l t)
