use Rattle.std.proofs.Common.{◌≡◌, ℕ, ◌<◌, ◌≤◌, length}
use Rattle.book.specs.Answers.{train_row}
use Rattle.search.specs.Layers.{Fills, ShiftAsked}
use Rattle.search.specs.Working.{place}
use Rattle.search.proofs.inquiry.Inquiry.fill_shift.Given as goal

-- the runs ahead of the train are filled: the rows up to `row`, which is the train's first, or the end
abbrev pub invariant-loop-train : goal.invariant-loop-train
invariant-loop-train g l =
    (row : ℕ)
    × Fills (g.P.Tariff.meaning l.self.tariff.now) l.self l.fn.layer.number (ShiftAsked l.self l.shift l.fn.usable) l.initial.work l.work (place (length l.self.stops.now) l.shift 0) (place (length l.self.stops.now) l.shift row) l.found l.initial.reached l.reached
    × (l.train < length l.self.trains.now → (train_row l.train l.self.trains.now).first ≡ row)
    × (length l.self.trains.now ≤ l.train → row ≡ length l.self.stops.now)
