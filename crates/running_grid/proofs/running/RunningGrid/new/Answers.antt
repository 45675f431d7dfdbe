use Rattle.std.proofs.Common.{refl}
use Rattle.running_grid.proofs.running.RunningGrid.new.Goals as goal

pub returns : goal.returns
returns g c = record {
  stands = record {
    some = c.requires.some;
    most = c.requires.most;
    so = record { settings = _; run = _; stands = c.in_ok-grid.ensures; same = refl };
  };
  run = record { grid = _; there = refl; stands = c.in_ok-grid.ensures };
}
