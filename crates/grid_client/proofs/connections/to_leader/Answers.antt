use Rattle.std.proofs.Common.{rules, tests}
use Rattle.std.proofs.lemmas.Iterator.{YieldsList-from_slice}
use Rattle.std.proofs.lemmas.Iterator.Search.{find_from_yields_List}
use Rattle.grid_client.specs.Connections.{is_to}
use Rattle.grid_client.proofs.connections.to_leader.Goals as goal

pub returns : goal.returns
returns c = find_from_yields_List (is_to c.args.leader) _ _ c.find.result c.find.ensures.ran (YieldsList-from_slice c.args.connections.now c.iter.ensures.rest) (λ x b q k. search (rules, tests))
