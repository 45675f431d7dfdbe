use Rattle.std.proofs.Common.{refl}
use Rattle.live_grid.specs.Grids.{place_of}
use Rattle.grid_server.proofs.Handing.{no_workers}
use Rattle.grid_server.proofs.setting.workers_of.Goals as goal

pub loop-number-init : goal.loop-number-init
loop-number-init c = record {
  workers = no_workers (place_of c.args.grid.now) c.in_ok-made.made.items c.in_ok-made.ensures.items;
  of_grid = c.requires.pass;
  passes = refl;
  tokens = refl;
}
