use Rattle.std.proofs.Common.{◌≡◌, ℕ, ◌+◌, ◌-◌, ◌<◌, ◌≤◌, inl, inr, true, false, leb, List, length, arith, rules, tests, leb-true, leb-false}
use Rattle.std.proofs.lemmas.Bool.{cases_lt}
use Rattle.std.proofs.lemmas.List.Sorted.{IsNonDecreasingBy-from_default, IsPartitionedBy-leb, IsPartitionPoint-from_clause}
use Rattle.std.specs.List.Sorted.{IsPartitionPoint, IsPartitionedBy}
use Rattle.book.specs.Answers.{train_row}
use Rattle.book.specs.declared.rows.StopRow.{StopRow}
use Rattle.book.specs.declared.rows.TrainRow.{TrainRow}
use Rattle.search.specs.Rows.{InOrder}
use Rattle.search.proofs.RowsAreTrains.{after, spot_of}
use Rattle.search.proofs.inquiry.Inquiry.train_at.Goals as goal

module _ (rows : List TrainRow) (stops : List StopRow) (ok : InOrder rows stops) (row : ℕ) where
  in_turn : (m n : ℕ) → m ≤ n → n < length rows → (train_row m rows).first ≤ (train_row n rows).first
  in_turn m n h l =
      elim (cases_lt m n) [
        | inl less ↦ omega (arith, after rows stops ok m n less l)
        | inr more ↦ let same : m ≡ n = omega arith in rw same (omega arith)
      ]

  parted : IsPartitionedBy (λ (t : TrainRow). leb t.first row) rows
  parted = IsPartitionedBy-leb (λ (t : TrainRow). t.first) rows row (IsNonDecreasingBy-from_default (λ (t : TrainRow). t.first) rows _ in_turn)

  record Last (begun : ℕ) : Type 0 where
    n : ℕ
    is : begun ≡ n + 1
    listed : n < length rows
    begins : (train_row n rows).first ≤ row
    goes_on : row < (train_row n rows).first + (train_row n rows).count

  last : (begun : ℕ) → begun ≤ length rows → row < length stops → IsPartitionPoint (λ (t : TrainRow). leb t.first row ≡ true) (λ (t : TrainRow). leb t.first row ≡ false) rows begun → Last begun
  last begun bound inside (before, behind) =
      let w = spot_of rows stops ok row inside in
      let reached : w.0 < begun =
      elim (cases_lt w.0 begun) [
        | inl less ↦ less
        | inr more ↦ let no : row < (train_row w.0 rows).first = leb-false _ _ (behind w.0 _ more w.2) in absurd (omega (arith, w.4, no))
      ]
      in
      let no_more : begun ≤ w.0 + 1 =
      elim (cases_lt (w.0 + 1) begun) [
        | inl less ↦ let yes : (train_row (w.0 + 1) rows).first ≤ row = leb-true _ _ (before (w.0 + 1) _ (omega arith) less) in absurd (omega (arith, w.4, yes, after rows stops ok w.0 (w.0 + 1) (omega arith) (omega arith)))
        | inr more ↦ more
      ]
      in
      record { n = w.0; is = omega arith; listed = w.2; begins = omega (arith, w.4); goes_on = omega (arith, w.3, w.4) }

pub overflow_sub-result : goal.overflow_sub-result
overflow_sub-result g c =
    let now = c.args.self.now in
    let point = IsPartitionPoint-from_clause (λ (t : TrainRow). leb t.first c.args.row) now.trains.now c.partition_point.result c.partition_point.ensures.partitioned (parted now.trains.now now.stops.now now.ordered c.args.row) (λ a r f k. search (rules, tests)) in
    let at = last now.trains.now now.stops.now now.ordered c.args.row c.partition_point.result c.partition_point.ensures.bound c.requires.inside point in
    omega (arith, at.is)

pub returns : goal.returns
returns g c =
    let now = c.args.self.now in
    let point = IsPartitionPoint-from_clause (λ (t : TrainRow). leb t.first c.args.row) now.trains.now c.partition_point.result c.partition_point.ensures.partitioned (parted now.trains.now now.stops.now now.ordered c.args.row) (λ a r f k. search (rules, tests)) in
    let at = last now.trains.now now.stops.now now.ordered c.args.row c.partition_point.result c.partition_point.ensures.bound c.requires.inside point in
    let is : c.partition_point.result - 1 ≡ at.n = omega (arith, at.is) in
    rw is (record { listed = at.listed; begun = at.begins; not_over = at.goes_on })
