-- Handed out one after another, the lines of a text are those that line feeds end, and reading goes on from each to the next.
use Rattle.std.proofs.Common.{◌≡◌, ℕ, suc, ◌+◌, ◌<◌, Bool, true, false, not, cond, eqb, ltb, List, [], ◌∷◌, length, take, drop, refl, sym, ap, ap₂, ◌∙◌, arith}
use Rattle.std.proofs.lemmas.Bool.{lt-ltb}
use lib.Dec.{leb-suc-suc}
use Rattle.book.specs.declared.rows.StopRow.{StopRow}
use Rattle.book.specs.declared.rows.TrainRow.{TrainRow}
use Rattle.text.specs.Cuts.{ahead, has, front, behind}
use Rattle.text.specs.Lines.{Line, whole, cut_off, in_first_line, lines, line_with}
use Rattle.text.specs.Reading.{Left, after_part, after_saying, reading}
use Rattle.text.specs.Saying.{says}
use Rattle.text.specs.declared.stage.Stage.{Stage}

-- the line that ends so many bytes in, and the lines behind it
abbrev cut_there : ℕ → List ℕ → List Line
cut_there end bs = line_with (ltb end (length bs)) (take end bs) ∷ lines (drop (end + 1) bs)

longer : (b : ℕ) (feed : Bool) (l : List ℕ) (ls : List Line) → in_first_line b (line_with feed l ∷ ls) ≡ line_with feed (b ∷ l) ∷ ls
longer b true l ls = refl
longer b false l ls = refl

one_more : (b end : ℕ) (bs : List ℕ) → line_with (ltb end (length bs)) (b ∷ take end bs) ∷ lines (drop (end + 1) bs) ≡ cut_there (1 + end) (b ∷ bs)
one_more b end bs =
    let e : suc end ≡ 1 + end = omega arith in
    let f : suc (end + 1) ≡ 1 + end + 1 = omega arith in
    ap (λ t. line_with t (b ∷ take end bs) ∷ lines (drop (end + 1) bs)) (sym (leb-suc-suc (suc end) (length bs)))
    ∙ ap₂ (λ j k. line_with (ltb j (suc (length bs))) (take j (b ∷ bs)) ∷ lines (drop k (b ∷ bs))) e f

lines_cons : (b : ℕ) (bs : List ℕ) → lines (b ∷ bs) ≡ cut_there (ahead 10 (b ∷ bs)) (b ∷ bs)
lines_cons b [] = elim (eqb b 10) as (λ t. cond t (whole [] ∷ []) (cut_off (b ∷ []) ∷ []) ≡ cut_there (cond (not t) 1 0) (b ∷ [])) [ true ↦ refl | false ↦ refl ]
lines_cons b (c ∷ cs) = at_test (eqb b 10) (lines_cons c cs) where
  at_test : (t : Bool) → lines (c ∷ cs) ≡ cut_there (ahead 10 (c ∷ cs)) (c ∷ cs)
      → cond t (whole [] ∷ lines (c ∷ cs)) (in_first_line b (lines (c ∷ cs))) ≡ cut_there (cond (not t) (1 + ahead 10 (c ∷ cs)) 0) (b ∷ c ∷ cs)
  at_test true less = rw (lt-ltb 0 (suc (suc (length cs))) (omega arith)) refl
  at_test false less =
      ap (in_first_line b) less ∙ longer b (has 10 (c ∷ cs)) (front 10 (c ∷ cs)) (lines (behind 10 (c ∷ cs))) ∙ one_more b (ahead 10 (c ∷ cs)) (c ∷ cs)

pub lines_in_turn : (bs : List ℕ) → 0 < length bs → lines bs ≡ line_with (has 10 bs) (front 10 bs) ∷ lines (behind 10 bs)
lines_in_turn [] h = absurd (omega arith)
lines_in_turn (b ∷ bs) h = lines_cons b bs

-- the line n is handed out as `line`, with a line feed or without, and `part` comes of it; m lines are handed out then
pub line_in_turn : (k n m : ℕ) (bs line left : List ℕ) (feed : Bool) (st : Stage) (ts : List TrainRow) (ss : List StopRow) (part : Left Stage)
    → 0 < length bs → n ≡ k + 1 → m ≡ k + 1 → line ≡ front 10 bs → feed ≡ has 10 bs → left ≡ behind 10 bs → part ≡ after_saying n (says n (line_with feed line)) st ts ss
    → after_part part (reading m (lines left)) ≡ reading k (lines bs) st ts ss
line_in_turn k n m bs line left feed st ts ss part some number count is_line is_feed is_left comes =
    let next : n ≡ suc k = omega arith in
    let next_count : m ≡ suc k = omega arith in
    rw (lines_in_turn bs some, comes, is_line, is_feed, is_left, next, next_count) refl
