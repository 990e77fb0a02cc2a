use Rattle.search.proofs.EdgeAnswers.{edge_journeys_are_answered, edge_timetables_can_be_entered}
use Rattle.search.proofs.edges.edge_journeys_are_answered.Goals as goal

pub returns : goal.returns
returns c = record { answered = edge_journeys_are_answered c.edge_journeys_hold.ensures; entered = edge_timetables_can_be_entered }
