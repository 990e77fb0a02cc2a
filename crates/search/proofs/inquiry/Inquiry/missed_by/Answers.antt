use Rattle.std.proofs.Common.{◌≡◌, ℕ, ◌<◌, ◌≢◌, length, get_or, set, ap, ◌∙◌, subst, inl, inr, arith, get_or-set_other, get_or-set_same}
use Rattle.std.proofs.lemmas.Bool.{cases_lt}
use Rattle.std.proofs.lemmas.List.{length-set}
use Rattle.search.specs.Chains.{OutOfReach, WithinReach}
use Rattle.search.proofs.inquiry.Inquiry.missed_by.Goals as goal

pub loop-n-preserved : goal.loop-n-preserved
loop-n-preserved g c =
    let s = c.args.self.now in
    let l = c.loop-n in
    let k = c.args.layer.number in
    let here = c.minutes_missed.result in
    let room : l.n < length l.missed_by = omega (arith, l.invariant.0, s.ordered.few_trains) in
    let told = get_or-set_same l.missed_by l.n here 0 room in (
      length-set l.missed_by l.n here ∙ l.invariant.0,
      λ j day lj h. elim (cases_lt j l.n) [
        | inl b ↦ let ne : j ≢ l.n = omega arith in l.invariant.1 j day b (omega (arith, h, get_or-set_other l.missed_by l.n j here 0 ne))
        | inr b ↦
            let e : l.n ≡ j = omega arith in
            subst (λ (i : ℕ). OutOfReach s k c.args.arrivals.now i day) e
            (c.minutes_missed.ensures.out_of_reach day (omega (arith, h, told, ap (λ i. get_or (set l.missed_by l.n here) i 0) e)))
      ],
      λ j day lj h. elim (cases_lt j l.n) [
        | inl b ↦ let ne : j ≢ l.n = omega arith in l.invariant.2 j day b (omega (arith, h, get_or-set_other l.missed_by l.n j here 0 ne))
        | inr b ↦
            let e : l.n ≡ j = omega arith in
            subst (λ (i : ℕ). WithinReach s k c.args.arrivals.now i day) e
            (c.minutes_missed.ensures.within_reach day (omega (arith, h, told, ap (λ i. get_or (set l.missed_by l.n here) i 0) e)))
      ],
    )

pub returns : goal.returns
returns g c =
    let l = c.loop-n in
    record {
      out_of_reach = λ day n ln h. l.invariant.1 n day (omega arith) h;
      within_reach = λ n day ln h. l.invariant.2 n day (omega arith) h;
      each = l.invariant.0;
    }
