-- A whole text is read from its line of names on, after the tables are looked over.
use Rattle.std.proofs.Common.{◌≡◌, ℕ, ◌+◌, Bool, false, cond, ltb, List, [], length, is_some, IfSome, MatchOption, Some, None, Ok, Err, Option, sym, ap, ap₂, ◌∙◌, arith}
use Rattle.std.proofs.lemmas.Bool.{ltb-true, ltb-false}
use Rattle.std.proofs.lemmas.List.{nil_from_length}
use Rattle.book.specs.Answers.{check_answer}
use Rattle.book.specs.declared.refusal.Refusal.{Refusal}
use Rattle.book.specs.declared.rows.StopRow.{StopRow}
use Rattle.book.specs.declared.rows.TrainRow.{TrainRow}
use Rattle.book.specs.declared.state.Book.{Book}
use Rattle.text.specs.Cuts.{has, front, behind}
use Rattle.text.specs.Faults.{wrong_names, refused, misread}
use Rattle.text.specs.Lines.{lines, line_with}
use Rattle.text.specs.Reading.{left, reading, is_names, from_names, unless_refused, read}
use Rattle.text.specs.declared.reader.Reader.{Reader}
use Rattle.text.specs.declared.stage.Stage.TheVariants.{Between}
use Rattle.book.proofs.RefusedBy.{refused_by, not_refused}
use Rattle.text.proofs.LinesInTurn.{lines_in_turn}

module _ (text : List ℕ) (b : Book) (ts : List TrainRow) (ss : List StopRow) where
  pub refused_text : (r : Refusal) → Err r ≡ check_answer b ts ss → left (Err (misread b (refused 0 r))) ts ss ≡ read text b ts ss
  unfolding read
  refused_text r e = sym (ap (λ o. unless_refused o b ts ss (from_names (lines text) b ts ss)) (refused_by _ r e))

  module _ (checked : Ok tt ≡ check_answer b ts ss) where
    passed : from_names (lines text) b ts ss ≡ read text b ts ss
    unfolding read
    passed = sym (ap (λ o. unless_refused o b ts ss (from_names (lines text) b ts ss)) (not_refused _ checked))

    -- `named` tells whether there is a first line, and it is the line of names; so many lines are handed out then, and `rest` is left
    pub names_told : (first : Option Reader) (named : Bool) (count : ℕ) (rest : List ℕ)
        → is_some first ≡ ltb 0 (length text) → IfSome first (λ l. l.line.now ≡ front 10 text) → IfSome first (λ l. l.has_feed ≡ has 10 text)
        → count ≡ 0 + cond (is_some first) 1 0 → rest ≡ behind 10 text → MatchOption first (named ≡ false) (λ l. named ≡ is_names (line_with l.has_feed l.line.now))
        → cond named (reading count (lines rest) (Between b) ts ss) (left (Err (misread b wrong_names)) ts ss) ≡ read text b ts ss
    names_told None named count rest some line feed counted left_is told =
        let nothing : text ≡ [] = nil_from_length text (omega (arith, ltb-false 0 (length text) (sym some))) in
        ap (λ t. cond t (reading count (lines rest) (Between b) ts ss) (left (Err (misread b wrong_names)) ts ss)) told
        ∙ ap (λ bs. from_names (lines bs) b ts ss) (sym nothing) ∙ passed
    names_told (Some l) named count rest some line feed counted left_is told =
        let one : count ≡ 1 = omega (arith, counted) in
        rw (one, left_is)
        (ap (λ t. cond t (reading 1 (lines (behind 10 text)) (Between b) ts ss) (left (Err (misread b wrong_names)) ts ss)) (told ∙ ap₂ (λ f bs. is_names (line_with f bs)) feed line)
        ∙ sym (ap (λ ls. from_names ls b ts ss) (lines_in_turn text (ltb-true 0 (length text) (sym some)))) ∙ passed)
