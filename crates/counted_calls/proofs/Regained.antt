-- A pass of the whole grid is one of each of its cells.
use Rattle.std.proofs.Common.{◌≡◌, ℕ, zero, suc, List, [], ◌∷◌, map, length, Some, slice_get, refl, sym, ap, ◌∙◌, arith}
use Rattle.std.proofs.lemmas.List.{length-map}
use Rattle.grid_base.specs.declared.calls.Request.{Request}
use Rattle.hand_cell.specs.Told.{Told}
use Rattle.job_queues.specs.Roster.{roster_of}
use Rattle.partition_world.specs.declared.event.Event.{Event}
use Rattle.session_calls.proofs.OfCells.{came_from}
use Rattle.session_calls.proofs.Places.{same_some}
use Rattle.live_grid.specs.declared.grid.GridPass.{GridPass}
use Rattle.live_grid.specs.declared.grid.LiveGrid.{LiveGrid}
use Rattle.live_grid.specs.Control.{IsPassOfGrid}
use Rattle.live_grid.specs.Grids.{IsGridPassOf, place_of}
use Rattle.counted_calls.proofs.Opened.{GridCell}

-- lists are the same that have the same at each place
same_lists : {A : Type 0} (xs ys : List A) → length xs ≡ length ys → ((k : ℕ) (x : A) → slice_get xs k ≡ Some x → slice_get ys k ≡ Some x) → xs ≡ ys
same_lists [] [] long there = refl
same_lists [] (y ∷ ys) long there = absurd (omega (arith, long))
same_lists (x ∷ xs) [] long there = absurd (omega (arith, long))
same_lists (x ∷ xs) (y ∷ ys) long there =
    let first = same_some y x (there zero x refl) in
    let rest = same_lists xs ys (omega (arith, long)) (λ k z e. there (suc k) z e) in
    ap (λ zs. x ∷ zs) rest ∙ ap (λ z. z ∷ ys) (sym first)

pub pass_of_grid : (grid : LiveGrid) (pass : GridPass) → length (place_of grid).cells.items ≡ 271 → IsGridPassOf grid pass → IsPassOfGrid grid pass
pass_of_grid grid pass count is = record {
  as_many = count;
  tables = same_lists (map (λ (p : Told (Event Request)). p.table) pass.passes.items) (roster_of (place_of grid).cells.items).tables
      (length-map pass.passes.items (λ p. p.table) ∙ (is.cells.as_long ∙ sym (length-map (place_of grid).cells.items (λ (c : GridCell). c.table.shared.table_id))))
      (λ k t e. let was = came_from (λ (p : Told (Event Request)). p.table) pass.passes.items k t e in is.cells.each k was.0 was.1 ∙ ap Some (sym was.2));
}
