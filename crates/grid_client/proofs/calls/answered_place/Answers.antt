use Rattle.std.proofs.Common.{rules, tests}
use Rattle.std.proofs.lemmas.Iterator.{YieldsList-from_slice}
use Rattle.std.proofs.lemmas.Iterator.Search.{position_from_yields_List}
use Rattle.grid_client.specs.Calls.{is_answered_by}
use Rattle.grid_client.proofs.calls.answered_place.Goals as goal

pub returns : goal.returns
returns c = position_from_yields_List (is_answered_by c.args.conn c.args.number c.args.kind) _ _ c.position.result c.position.ensures.ran (YieldsList-from_slice c.args.calls.now c.iter.ensures.rest) (λ x b q k. search (rules, tests))
