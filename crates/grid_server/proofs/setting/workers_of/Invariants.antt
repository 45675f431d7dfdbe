use Rattle.std.proofs.Common.{◌≡◌}
use Rattle.live_grid.specs.Grids.{IsGridPassOf, place_of}
use Rattle.grid_server.specs.Settings.{AreWorkers}
use Rattle.grid_server.proofs.setting.workers_of.Given as goal

abbrev pub invariant-loop-number : goal.invariant-loop-number
invariant-loop-number l = record {
  workers : AreWorkers (place_of l.grid) l.made.items;
  of_grid : IsGridPassOf l.grid l.pass;
  passes : l.pass.passes.items ≡ l.initial.pass.passes.items;
  tokens : l.pass.tokens.items ≡ l.initial.pass.tokens.items;
}
