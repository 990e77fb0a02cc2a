use Rattle.connection.proofs.ListedConnections.{list_tells}
use Rattle.connection.proofs.edges.list_tells.Goals as goal

pub returns : goal.returns
returns g c = list_tells (g.P.Tariff.meaning c.args.tariff.now)
