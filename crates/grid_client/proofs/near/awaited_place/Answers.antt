use Rattle.std.proofs.Common.{◌==◌, rules, tests}
use Rattle.std.proofs.lemmas.Iterator.{YieldsList-from_slice}
use Rattle.std.proofs.lemmas.Iterator.Search.{position_from_yields_List}
use Rattle.grid_client.specs.declared.near.Awaited.{Awaited}
use Rattle.grid_client.proofs.near.awaited_place.Goals as goal

pub returns : goal.returns
returns c = position_from_yields_List (λ (a : Awaited). a.number == c.args.number) _ _ c.position.result c.position.ensures.ran (YieldsList-from_slice c.args.awaited.now c.iter.ensures.rest) (λ x b q k. search (rules, tests))
