-- What the cells of a grid are made for, and what a pass of the grid has.
use Rattle.std.specs.Prelude.{◌≡◌, ℕ, List, Some, slice_get}
use Rattle.entry_processors.specs.declared.form.Form.{Form}
use Rattle.hand_cell.specs.declared.cell.Cell.{Cell}
use Rattle.hand_cell.specs.Calls.{plan_of}
use Rattle.grid_base.specs.declared.calls.Request.{Request}
use Rattle.partition_threads.specs.declared.workplace.Workplace.{Workplace}
use Rattle.partition_threads.specs.Workplaces.{AreTokensAt}
use Rattle.partition_world.specs.declared.event.Event.{Event}
use Rattle.partition_world.specs.declared.event.Happened.{Happened}
use Rattle.session_calls.specs.Passes.{ArePassesOf}
use Rattle.live_grid.specs.declared.grid.GridPass.{GridPass}
use Rattle.live_grid.specs.declared.grid.LiveGrid.{LiveGrid}
use Rattle.live_grid.specs.declared.plan.GridPlan.{GridPlan}
use Rattle.live_grid.specs.declared.world.LiveWorld.{LiveWorld}
use Rattle.live_grid.specs.Plans.{IsPlanOf}

module _ (members backups : ℕ) (forms : List Form) (capacity : ℕ) {T E O : Type 0} where
  abbrev pub IsCellOf : ℕ → Cell T GridPlan E O → Type 0
  IsCellOf partition cell = IsPlanOf members backups forms capacity partition (plan_of cell)

  -- the cell of each partition was made for it
  abbrev pub AreCells : List (Cell T GridPlan E O) → Type 0
  AreCells cells = (partition : ℕ) (cell : Cell T GridPlan E O) → slice_get cells partition ≡ Some cell → IsCellOf partition cell

-- the cells and the queues of a grid
abbrev pub place_of : LiveGrid → Workplace LiveWorld GridPlan (Event Request) Happened
place_of grid = grid.place

-- The pass has a pass of each cell of the grid and a token of each worker's queue, in their order
pub record IsGridPassOf (grid : LiveGrid) (pass : GridPass) : Type 0 where
  pub cells : ArePassesOf (place_of grid).cells.items pass.passes.items
  pub workers : AreTokensAt (place_of grid) pass.tokens.items
