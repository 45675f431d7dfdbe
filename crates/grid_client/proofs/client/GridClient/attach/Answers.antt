use Rattle.std.proofs.Common.{ap, ◌∙◌}
use Rattle.std.specs.List.{list_any}
use Rattle.grid_client.specs.Connections.{is_conn}
use Rattle.grid_client.proofs.Placing.{placed_there}
use Rattle.grid_client.proofs.client.GridClient.attach.Goals as goal

pub returns-clause-attached : goal.returns-clause-attached
returns-clause-attached c = ap (list_any (is_conn c.args.conn)) c.in_ok-attach.ensures.ok ∙ placed_there c.args.conn c.self.inside.connections.items
