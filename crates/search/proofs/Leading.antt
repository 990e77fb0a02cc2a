-- A search is a call that only reads: it leads every history on.
use Rattle.std.proofs.Common.{List}
use Rattle.book.specs.Histories.{Closed, read, EveryHistoryHolds, LeadsOn}
use Rattle.book.specs.PlainList.{reads}
use Rattle.book.specs.declared.rows.StopRow.{StopRow}
use Rattle.book.specs.declared.rows.TrainRow.{TrainRow}
use Rattle.book.specs.declared.state.Book.{Book}

pub reading_leads_on : EveryHistoryHolds → (b : Book) (ts : List TrainRow) (ss : List StopRow) → LeadsOn (Closed b) ts ss reads (Closed b) ts ss
reading_leads_on hold b ts ss tr sr calls h =
    let next = read calls b ts ss h in
    (next, hold tr sr _ (Closed b) ts ss next)
