-- Tables as they stand once every entry was accepted: what the laws of the flat proof ask for.
use Rattle.model.specs.Query.{Tables}
use Rattle.paths.specs.Hangs.{AcceptedConnections}
use Rattle.flat.specs.Nodes.{AcceptedNodes}

pub record AcceptedTables (t : Tables) : Type 0 where
  pub nodes : AcceptedNodes t.nodes
  pub conns : AcceptedConnections t.nodes t.conns
