-- The passes of a grid in which nothing has happened.
use Rattle.std.proofs.Common.{◌≡◌, ℕ, true, List, [], ◌∷◌, map, length, Some, slice_get, sym, refl, ap, ◌∙◌, subst}
use Rattle.grid_base.specs.declared.TheConstants.{PARTITIONS}
use Rattle.grid_base.specs.declared.calls.Request.{Request}
use Rattle.hand_cell.specs.declared.cell.Cell.{Cell}
use Rattle.hand_cell.specs.declared.names.Key.TheVariants.{Control}
use Rattle.hand_cell.specs.declared.names.Names.TheVariants.{Every}
use Rattle.hand_cell.specs.Calls.{first_pass}
use Rattle.hand_cell.specs.Names.{has, has_number}
use Rattle.hand_cell.specs.Told.{Told}
use Rattle.job_queues.specs.Roster.{roster_of}
use Rattle.partition_world.specs.declared.event.Event.{Event}
use Rattle.session_calls.specs.Passes.{HaveNumber, giving_up, given}
use Rattle.session_calls.proofs.OfCells.{came_from}
use Rattle.live_grid.specs.declared.grid.GridPass.{GridPass}
use Rattle.live_grid.specs.declared.grid.LiveGrid.{LiveGrid}
use Rattle.live_grid.specs.Grids.{place_of}
use Rattle.live_control.specs.Running.{MayServe}
use Rattle.grid_server.specs.Settings.{AreNew}

module _ {T P E O : Type 0} where
  -- what a pass is that was made of a first pass
  pub of_first : (f : Told E → Told E) (cells : List (Cell T P E O)) (place : ℕ) (pass : Told E) → slice_get (map f (map (λ cell. first_pass cell) cells)) place ≡ Some pass → (cell : Cell T P E O) × (pass ≡ f (first_pass cell))
  of_first f cells place pass e =
      let was = came_from f (map (λ (cell : Cell T P E O). first_pass cell) cells) place pass e in
      let from = came_from (λ (cell : Cell T P E O). first_pass cell) cells place was.0 was.1 in
      (from.0, was.2 ∙ ap f from.2)

  -- The second pass of each has every number for a name
  pub second_named : (cells : List (Cell T P E O)) (number : ℕ) → HaveNumber number (map (given Every) (map (λ cell. first_pass cell) cells))
  second_named cells number place pass e =
      let is = of_first (given Every) cells place pass e in
      subst (λ (p : Told E). has_number p.names.numbers number ≡ true) (sym is.1) refl

  -- and the first pass keeps Control
  pub first_controls : (cells : List (Cell T P E O)) (place : ℕ) (pass : Told E) → slice_get (map (giving_up Every) (map (λ cell. first_pass cell) cells)) place ≡ Some pass → has pass.names Control ≡ true
  first_controls cells place pass e =
      let is = of_first (giving_up Every) cells place pass e in
      subst (λ (p : Told E). has p.names Control ≡ true) (sym is.1) refl

  -- the passes' cells stay
  pub same_tables : (cells : List (Cell T P E O)) → map (λ (p : Told E). p.table) (map (giving_up Every) (map (λ cell. first_pass cell) cells)) ≡ (roster_of cells).tables
  same_tables [] = refl
  same_tables (cell ∷ cells) = ap (λ tables. cell.table.shared.table_id ∷ tables) (same_tables cells)

-- none of them has seen an event
module _ {T P O : Type 0} (cells : List (Cell T P (Event Request) O)) where
  pub first_new : AreNew (map (giving_up Every) (map (λ cell. first_pass cell) cells))
  first_new place pass e =
      let is = of_first (giving_up Every) cells place pass e in
      subst (λ (p : Told (Event Request)). p.seen ≡ []) (sym is.1) refl

  pub second_new : AreNew (map (given Every) (map (λ cell. first_pass cell) cells))
  second_new place pass e =
      let is = of_first (given Every) cells place pass e in
      subst (λ (p : Told (Event Request)). p.seen ≡ []) (sym is.1) refl

-- the operator's pass of a grid in which nothing has happened
pub may_control : (grid : LiveGrid) (pass : GridPass) → length (place_of grid).cells.items ≡ PARTITIONS → pass.passes.items ≡ map (giving_up Every) (map (λ cell. first_pass cell) (place_of grid).cells.items) → MayServe grid pass
may_control grid pass count is = record {
  of_grid = record { as_many = count; tables = ap (map (λ (p : Told (Event Request)). p.table)) is ∙ same_tables (place_of grid).cells.items };
  control = λ partition p e. first_controls (place_of grid).cells.items partition p (subst (λ (ps : List (Told (Event Request))). slice_get ps partition ≡ Some p) is e);
}
