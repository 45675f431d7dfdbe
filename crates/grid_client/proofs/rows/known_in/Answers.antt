use Rattle.std.proofs.Common.{◌==◌, rules, tests}
use Rattle.std.proofs.lemmas.Iterator.{YieldsList-from_slice}
use Rattle.std.proofs.lemmas.Iterator.Search.{find_from_yields_List}
use Rattle.event_codecs.specs.declared.seen.SeenRow.{SeenRow}
use Rattle.grid_client.proofs.rows.known_in.Goals as goal

pub returns : goal.returns
returns c = find_from_yields_List (λ (r : SeenRow). r.partition == c.args.partition) _ _ c.find.result c.find.ensures.ran (YieldsList-from_slice c.args.rows.now c.iter.ensures.rest) (λ x b q k. search (rules, tests))
