use Rattle.std.proofs.Common.{◌≡◌, not, nat_eq, length, subst, arith}
use Rattle.desk.specs.Input.{TakesLine}
use Rattle.desk.proofs.LinesTaken.{takes_line}
use Rattle.desk.proofs.input.next_line.Goals as goal

pub returns : goal.returns
returns g c =
    let read = c.read_until.new.buf.items in
    let took = c.in_ok-read_until.ensures in
    let none : nat_eq (length read) 0 ≡ c.is_empty-more.result = grind (arith, c.is_empty-more.ensures) in
    subst (λ b. TakesLine (g.R.Read.remaining c.args.input.now) (g.R.Read.remaining c.read_until.new.self) (not b) c.drop_feed.new.line.items) none
    (takes_line (g.R.Read.remaining c.args.input.now) (g.R.Read.remaining c.read_until.new.self) c.clear.new.self.items read c.drop_feed.new.line.items c.clear.ensures.items took.bytes took.rest c.drop_feed.ensures)
