use Rattle.std.proofs.Common.{◌≡◌, ℕ, min, length, sym, ap, ◌∙◌, subst, arith}
use Rattle.book.specs.Answers.{train_row}
use Rattle.book.specs.Rules.{stop_at}
use Rattle.connection.specs.Rides.{may_board}
use Rattle.search.specs.Chains.{missed_at}
use Rattle.search.proofs.MissedTrains.{MissedBy, missed_over, missed_more, out_of_reach, within_reach}
use Rattle.search.proofs.RowsAreTrains.{own_count, own_stop}
use Rattle.search.proofs.inquiry.Inquiry.minutes_missed.Goals as goal
use Rattle.search.proofs.inquiry.Inquiry.minutes_missed.Goals.{then-may_board, else-may_board}

pub loop-stop-preserved : goal.loop-stop-preserved
loop-stop-preserved g c =
    let s = c.args.self.now in
    let n = c.args.train in
    let k = c.args.layer.number in
    let l = c.loop-stop in
    let arrivals = c.args.arrivals.now in
    let long : length c.stops-stop-items.result.now ≡ (train_row n s.trains.now).count = ap length c.stops-stop-items.ensures ∙ own_count s.trains.now s.stops.now s.ordered n c.requires.in_force in
    let is = ap (λ x. stop_at x l.stop-index) c.stops-stop-items.ensures ∙ own_stop s.trains.now s.stops.now s.ordered n l.stop-index (omega arith) in
    elim c.if-may_board.branch [
      | then-may_board w ↦
          let late = w.missed_at.ensures ∙ ap (missed_at arrivals k s.query.now) is in
          rw (w.fewest-is ∙ w.min-fewest.ensures ∙ ap (min l.fewest) late)
          (missed_more s k arrivals n l.stop-index l.fewest l.invariant (ap may_board (sym is) ∙ sym c.may_board.ensures ∙ w.if-may_board.true))
      | else-may_board w ↦
          rw w.fewest-is
          (missed_over s k arrivals n l.stop-index l.fewest l.invariant (ap may_board (sym is) ∙ sym c.may_board.ensures ∙ w.if-may_board.false))
    ]

pub returns : goal.returns
returns g c =
    let s = c.args.self.now in
    let n = c.args.train in
    let l = c.loop-stop in
    let long : length c.stops-stop-items.result.now ≡ (train_row n s.trains.now).count = ap length c.stops-stop-items.ensures ∙ own_count s.trains.now s.stops.now s.ordered n c.requires.in_force in
    let end : l.stop-index ≡ (train_row n s.trains.now).count = omega arith in
    let all = subst (λ (i : ℕ). MissedBy s c.args.layer.number c.args.arrivals.now n i l.fewest) end l.invariant in
    record {
      out_of_reach = λ day. out_of_reach s c.args.layer.number c.args.arrivals.now n l.fewest all day;
      within_reach = λ day. within_reach s c.args.layer.number c.args.arrivals.now n l.fewest all day;
    }
