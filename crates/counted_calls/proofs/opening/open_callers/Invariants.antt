use Rattle.std.proofs.Common.{◌≡◌, length}
use Rattle.live_grid.specs.Grids.{IsGridPassOf, place_of}
use Rattle.counted_calls.specs.Callers.{MayAllMake}
use Rattle.counted_calls.proofs.Opened.{passes_left}
use Rattle.counted_calls.proofs.opening.open_callers.Given as goal

abbrev pub invariant-loop-conn : goal.invariant-loop-conn
invariant-loop-conn g l = record {
  long : length l.callers.items ≡ l.conn;
  callers : MayAllMake l.stage.grid l.stage.key l.callers.items;
  of_grid : IsGridPassOf l.stage.grid l.pass;
  passes : l.pass.passes.items ≡ passes_left l.conn (place_of l.stage.grid).cells.items;
  tokens : l.pass.tokens.items ≡ l.initial.pass.tokens.items;
}
