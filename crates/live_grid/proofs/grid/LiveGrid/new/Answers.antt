use Rattle.std.proofs.Common.{◌≡◌, ◌∙◌, ap, sym, subst, map, length}
use Rattle.hand_cell.specs.Calls.{first_pass}
use Rattle.session_calls.specs.Passes.{ArePassesOf}
use Rattle.session_calls.proofs.OfCells.{first_passes}
use Rattle.live_grid.specs.Grids.{AreCells}
use Rattle.live_grid.proofs.PassPlaces.{first_of_grid, first_control}
use Rattle.live_grid.proofs.Pushed.{cells_mean}
use Rattle.live_grid.proofs.grid.LiveGrid.new.Goals as goal

pub returns-clause-whole : goal.returns-clause-whole
returns-clause-whole g c =
    let cells = c.in_ok-place.place.cells.items in
    let first : c.in_ok-cells.passes.items ≡ map (λ cell. first_pass cell) cells = c.in_ok-cells.ensures.passes ∙ ap (map (λ cell. first_pass cell)) (sym c.in_ok-place.ensures.cells) in record {
      cells = subst (ArePassesOf cells) (sym first) (first_passes cells);
      workers = c.in_ok-place.ensures.tokens;
    }

pub returns-clause-of_grid : goal.returns-clause-of_grid
returns-clause-of_grid g c =
    let same = c.in_ok-place.ensures.cells in
    first_of_grid (record { place = c.in_ok-place.place }) (record { passes = c.in_ok-cells.passes; tokens = c.in_ok-place.tokens })
    (ap (λ cs. length cs) same ∙ (sym c.in_ok-cells.cells.ok.0 ∙ c.in_ok-cells.ensures.count))
    (c.in_ok-cells.ensures.passes ∙ ap (λ cs. map (λ cell. first_pass cell) cs) (sym same))

pub returns-clause-control : goal.returns-clause-control
returns-clause-control g c = first_control c.in_ok-cells.cells.items (record { passes = c.in_ok-cells.passes; tokens = c.in_ok-place.tokens }) c.in_ok-cells.ensures.passes

pub returns-clause-means : goal.returns-clause-means
returns-clause-means g c =
    cells_mean c.args.members c.args.backups c.args.forms.now c.args.capacity _ c.requires.env c.in_ok-place.place.cells.items
    (subst (AreCells c.args.members c.args.backups c.args.forms.now c.args.capacity) (sym c.in_ok-place.ensures.cells) c.in_ok-cells.ensures.cells)
