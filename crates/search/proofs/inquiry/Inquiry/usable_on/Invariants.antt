use Rattle.std.proofs.Common.{◌≡◌, ℕ, ◌<◌, false, length, get_or}
use Rattle.book.specs.Answers.{train_row}
use Rattle.book.specs.Limits.{most_trains}
use Rattle.search.specs.Working.{may_use}
use Rattle.search.proofs.inquiry.Inquiry.usable_on.Given as goal

abbrev pub invariant-loop-n : goal.invariant-loop-n
invariant-loop-n g l =
    (length l.usable ≡ most_trains)
    × ((k : ℕ) → k < l.n → get_or l.usable k false ≡ may_use (g.C.Calendar.runs l.calendar) l.self.query.now (train_row k l.self.trains.now) l.shift)
