use Rattle.book.proofs.KeptHistories as rows
use Rattle.book.proofs.LawfulTrains as trains
use Rattle.book.proofs.RefusalsAgree as refusals
use Rattle.book.proofs.SoundIsRules as rules
use Rattle.book.proofs.TypedTrains as types
use Rattle.book.proofs.histories.every_history_holds.Goals as goal

pub returns : goal.returns
returns c = record { rows = rows.every_history_holds; refusals = refusals.every_refusal_agrees; trains = trains.every_history_is_lawful; types = types.every_history_is_typed; rules = rules.sound_is_the_rules }
