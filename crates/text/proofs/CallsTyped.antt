-- A line's values are such as the calls take: what their types say of them holds.
use Rattle.std.proofs.Common.{◌≡◌, ℕ, ◌<◌, ◌≤◌, Some, None, Ok, Option, IfSome, refl, arith}
use Rattle.book.specs.PlainList.{begins, stops, CallTyped}
use Rattle.book.specs.Stops.{leaves}
use Rattle.book.specs.Types.{last_of_16_bits, DepartureTyped}
use Rattle.book.specs.declared.rows.Departure.{Departure}
use Rattle.text.specs.Lines.{Line}
use Rattle.text.specs.Numbers.{end_of_16_bits}
use Rattle.text.specs.Saying.{says}
use Rattle.text.specs.declared.stop_line.StopLine.{StopLine}
use Rattle.text.proofs.LinesSay.{OnClock, Fits, says_fits}

pub record CallsTyped (l : StopLine) : Type 0 where
  pub begin : CallTyped (begins l.number l.code l.features)
  pub stop : CallTyped (stops l.stop)

arrive_typed : (o : Option ℕ) → OnClock o → IfSome o (λ m. m ≤ last_of_16_bits)
arrive_typed None h = tt
arrive_typed (Some m) h = omega arith

depart_typed : (o : Option Departure) → ((d : Departure) → o ≡ Some d → d.fare < end_of_16_bits) → OnClock (leaves o) → IfSome o DepartureTyped
depart_typed None fare h = tt
depart_typed (Some d) fare h = record { minute = omega arith; fare = omega (arith, fare d refl) }

pub calls_typed : (l : StopLine) → Fits l → CallsTyped l
calls_typed l h =
    let t = h.typed in
    record {
      begin = record { number = omega (arith, t.number); code = omega (arith, t.code); features = omega (arith, t.features); stops = tt };
      stop = record { station = omega (arith, t.station); arrive = arrive_typed l.stop.arrive h.arrives; depart = depart_typed l.stop.depart t.fare h.leaves };
    }

pub says_typed : (k : ℕ) (l : Line) (s : StopLine) → says k l ≡ Ok s → CallsTyped s
says_typed k l s e = calls_typed s (says_fits k l s e)
