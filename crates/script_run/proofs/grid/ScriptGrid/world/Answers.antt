use Rattle.script_run.specs.Runs.{ruled_of}
use Rattle.script_run.proofs.grid.ScriptGrid.world.Goals as goal

pub returns-clause-world : goal.returns-clause-world
returns-clause-world g c = λ settings s stands within. c.world.ensures.world settings (ruled_of s) stands.goes.grid within

pub returns-clause-there : goal.returns-clause-there
returns-clause-there g c = λ settings s stands within. c.world.ensures.there settings (ruled_of s) stands.goes.grid within
