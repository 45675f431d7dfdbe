use Rattle.std.proofs.Common.{ap, ◌∙◌}
use Rattle.std.specs.Option.{is_some}
use Rattle.replay_run.proofs.grid.Grid.takes_bytes.Goals as goal

pub returns : goal.returns
returns g c = λ settings r s. c.is_some.ensures ∙ ap is_some (c.open_member.ensures settings r s)
