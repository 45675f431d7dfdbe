use Rattle.std.proofs.Common.{rules, tests}
use Rattle.std.proofs.lemmas.Iterator.{YieldsList-from_slice}
use Rattle.std.proofs.lemmas.Iterator.Search.{position_from_yields_List}
use Rattle.grid_client.specs.Connections.{is_conn}
use Rattle.grid_client.proofs.connections.place_of.Goals as goal

pub returns : goal.returns
returns c = position_from_yields_List (is_conn c.args.conn) _ _ c.position.result c.position.ensures.ran (YieldsList-from_slice c.args.connections.now c.iter.ensures.rest) (λ x b q k. search (rules, tests))
