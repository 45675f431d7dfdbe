use Rattle.std.proofs.Common.{◌≡◌, map, length}
use Rattle.hand_cell.specs.Calls.{first_pass}
use Rattle.live_grid.specs.Grids.{AreCells}
use Rattle.live_grid.proofs.opening.make_cells.Given as goal

abbrev pub invariant-loop-partition : goal.invariant-loop-partition
invariant-loop-partition l = record {
  long : length l.cells.items ≡ l.partition;
  cells : AreCells l.members l.backups l.forms l.capacity l.cells.items;
  passes : l.passes.items ≡ map (λ cell. first_pass cell) l.cells.items;
}
