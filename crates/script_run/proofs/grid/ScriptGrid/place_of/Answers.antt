use Rattle.std.proofs.Common.{ap, ◌∙◌, rules, tests}
use Rattle.std.specs.List.{position}
use Rattle.std.proofs.lemmas.Iterator.{YieldsList-from_slice}
use Rattle.std.proofs.lemmas.Iterator.Search.{position_from_yields_List}
use Rattle.script_run.specs.Grids.{is_kept}
use Rattle.script_run.proofs.grid.ScriptGrid.place_of.Goals as goal

pub returns : goal.returns
returns g c = position_from_yields_List (is_kept c.args.conn) _ _ c.position.result c.position.ensures.ran (YieldsList-from_slice c.deref.result.now c.iter.ensures.rest) (λ x b q k. search (rules, tests)) ∙ ap (position (is_kept c.args.conn)) c.deref.ensures.value
