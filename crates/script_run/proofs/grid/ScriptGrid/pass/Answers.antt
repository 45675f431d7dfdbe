use Rattle.std.proofs.Common.{◌++◌, ap, ◌∙◌}
use Rattle.line_told.specs.declared.told.LineOutcome.TheVariants.{Idle}
use Rattle.replay_run.specs.LineTold.{came_to}
use Rattle.script_run.specs.LineTold.{by_grid}
use Rattle.script_run.proofs.grid.ScriptGrid.pass.Goals as goal

pub returns-clause-told : goal.returns-clause-told
returns-clause-told g c =
    let told = c.in_ok-tell_outcome.ensures ∙ ap (λ xs. xs ++ came_to Idle) c.new-ready.ensures.told in
    c.by_grid.ensures ∙ (λ i. by_grid (told i) (c.new-ready.ensures.printed i))
