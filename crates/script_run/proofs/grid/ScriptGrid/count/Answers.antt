use Rattle.script_run.specs.Runs.{ruled_of}
use Rattle.script_run.proofs.Playing.{grid_may, has_counted}
use Rattle.script_run.proofs.grid.ScriptGrid.count.Goals as goal

pub count_line-requires : goal.count_line-requires
count_line-requires g c = grid_may c.requires

pub returns-clause-goes : goal.returns-clause-goes
returns-clause-goes g c = λ settings s goes. has_counted (record c.args.self.now { grid = c.count_line.new.self }) s goes.nears (c.count_line.ensures settings (ruled_of s) goes.grid)
