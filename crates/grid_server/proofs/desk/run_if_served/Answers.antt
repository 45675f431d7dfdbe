use Rattle.grid_server.proofs.Unheard.{not_heard}
use Rattle.grid_server.proofs.desk.run_if_served.Goals as goal

pub returns : goal.returns
returns g c = not_heard c.args.stage.now.grid c.args.stage.now.options.members _ c.args.pass.now c.requires.pass
