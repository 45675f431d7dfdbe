use Rattle.script_run.specs.Runs.{ruled_of}
use Rattle.script_run.proofs.grid.ScriptGrid.members.Goals as goal

pub returns : goal.returns
returns g c = λ settings s stands. c.members.ensures settings (ruled_of s) stands.goes.grid
