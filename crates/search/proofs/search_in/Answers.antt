use Rattle.std.proofs.Common.{◌≡◌, List, ◌++◌, length, take, drop, sym, ap, ◌∙◌, subst, arith}
use Rattle.std.proofs.lemmas.List.{take_all, take-append-le}
use Rattle.search.specs.Answers.{Guarantee, in_force_after, work_left}
use Rattle.search.specs.declared.record.WorkRecord.{WorkRecord}
use Rattle.search.proofs.BlankRecords.{left_blank}
use Rattle.search.proofs.search_in.Goals as goal

pub returns-clause-work : goal.returns-clause-work
returns-clause-work g c =
    let a = c.args in
    let records = a.work.now.records.items in
    let n = a.work.now.records.len in
    let lent = c.deref_mut.ensures.value in
    let long : length records ≡ n = ap length (sym lent) ∙ c.deref_mut.ensures.len in
    let left = c.search_over.ensures.work ∙ ap (work_left _) lent ∙ left_blank _ records a.work.now.blank in
    ap (λ w. take n (w ++ drop (length w) records)) left ∙ take-append-le n records (drop (length records) records) (omega (arith, long)) ∙ take_all n records (omega (arith, long))

pub returns-clause-guarantee : goal.returns-clause-guarantee
returns-clause-guarantee g c =
    let a = c.args in
    let runs = g.C.Calendar.runs a.timetable.now.calendar.now in
    λ calls h. subst (λ (table : List (WorkRecord _)). Guarantee (g.P.Tariff.meaning a.tariff.now) (in_force_after a.timetable.now calls runs) a.query (length a.rides.now) (length table) c.search_over.result c.search_over.new.rides)
    c.deref_mut.ensures.value (c.search_over.ensures.guarantee calls h)
