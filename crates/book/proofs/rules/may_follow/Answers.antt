use Rattle.std.proofs.Common.{rules}
use Rattle.book.specs.Stops.{stop_fault}
use Rattle.book.proofs.rules.may_follow.Goals as goal

pub returns-in_err-refused_if : goal.returns-in_err-refused_if
unfolding stop_fault
returns-in_err-refused_if c = search rules

pub returns-in_err-refused_if-2 : goal.returns-in_err-refused_if-2
unfolding stop_fault
returns-in_err-refused_if-2 c = search rules

pub returns-in_err-refused_if-3 : goal.returns-in_err-refused_if-3
unfolding stop_fault
returns-in_err-refused_if-3 c = search rules

pub returns-in_err-refused_if-4 : goal.returns-in_err-refused_if-4
unfolding stop_fault
returns-in_err-refused_if-4 c = search rules

pub returns : goal.returns
unfolding stop_fault
returns c = search rules
