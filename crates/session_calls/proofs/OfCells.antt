-- A pass of each cell, in the cells' order.
use Rattle.std.proofs.Common.{◌≡◌, ℕ, zero, suc, ◌<◌, ⊎_elim, List, [], ◌∷◌, Option, Some, slice_get, set, get_or, map, length, sym, refl, ap, ◌∙◌, subst}
use Rattle.std.proofs.lemmas.List.{length-set, length-map}
use Rattle.std.specs.Option.{option_map}
use Rattle.std.proofs.lemmas.Option.{slice_get-map, slice_get_read}
use Rattle.hand_cell.specs.declared.cell.Cell.{Cell}
use Rattle.hand_cell.specs.declared.names.Names.{Names}
use Rattle.hand_cell.specs.declared.names.Key.{Key}
use Rattle.hand_cell.specs.Calls.{first_pass}
use Rattle.hand_cell.specs.Told.{Told}
use Rattle.job_queues.specs.Roster.{roster_of}
use Rattle.session_calls.specs.Passes.{ArePassesOf, HasSplitAt, HasJoinedAt, giving_up}
use Rattle.session_calls.proofs.Places.{same_some, none_some, after_set}

-- what stands in a list that was mapped was made of what stood there
pub came_from : {A B : Type 0} (f : A → B) (xs : List A) (k : ℕ) (y : B) → slice_get (map f xs) k ≡ Some y → (x : A) × (slice_get xs k ≡ Some x) × (y ≡ f x)
came_from f [] k y e = absurd (none_some y e)
came_from f (x ∷ xs) zero y e = (x, refl, sym (same_some (f x) y e))
came_from f (x ∷ xs) (suc k) y e = came_from f xs k y e

pub mapped : {A B : Type 0} (f : A → B) (xs : List A) (k : ℕ) (x : A) → slice_get xs k ≡ Some x → slice_get (map f xs) k ≡ Some (f x)
mapped f xs k x e = slice_get-map f xs k ∙ ap (option_map f) e

module _ {T P E O : Type 0} (cells : List (Cell T P E O)) where
  -- the cell at the place of a pass is its cell
  pub of_cell : (passes : List (Told E)) (place : ℕ) (pass : Told E) (cell : Cell T P E O) → ArePassesOf cells passes → place < length passes → pass ≡ get_or passes place pass → cell ≡ get_or cells place cell
      → pass.table ≡ cell.table.shared.table_id
  of_cell passes place pass cell are within pass_is cell_is =
      let there = slice_get_read passes (length passes) place pass refl within pass_is in
      let here = slice_get_read cells (length passes) place cell are.as_long within cell_is in
      same_some pass.table cell.table.shared.table_id
      (sym (are.each place pass there) ∙ mapped (λ (c : Cell T P E O). c.table.shared.table_id) cells place cell here)

  -- with another pass of the same cell at a place
  pub kept_at : (passes new : List (Told E)) (place : ℕ) (old pass : Told E) → ArePassesOf cells passes → slice_get passes place ≡ Some old → pass.table ≡ old.table → new ≡ set passes place pass → ArePassesOf cells new
  kept_at passes new place old pass are there same written = record {
    as_long = ap length written ∙ (length-set passes place pass ∙ are.as_long);
    each = λ k q e. ⊎_elim
        (λ (h : (q ≡ pass) × (k ≡ place)). ap (slice_get (roster_of cells).tables) h.1 ∙ (are.each place old there ∙ ap Some (sym (ap (λ (p : Told E). p.table) h.0 ∙ same))))
        (λ (h : slice_get passes k ≡ Some q). are.each k q h)
        (after_set passes place pass k q (subst (λ (z : List (Told E)). slice_get z k ≡ Some q) written e));
  }

  pub kept_split : (names : Names) (passes new : List (Told E)) (place : ℕ) (part : Told E) → ArePassesOf cells passes → HasSplitAt names place passes new part → ArePassesOf cells new
  kept_split names passes new place part are has = kept_at passes new place has.pass (giving_up names has.pass) are has.there refl has.left

  pub kept_joined : (key_of : E → Key) (passes new : List (Told E)) (place : ℕ) (other : Told E) → ArePassesOf cells passes → HasJoinedAt key_of place other passes new → ArePassesOf cells new
  kept_joined key_of passes new place other are has = kept_at passes new place has.pass has.joined are has.there (ap (λ (p : Told E). p.table) has.is_joined.pass_is) has.written

  -- other passes of the same cells
  pub same_cells : (f : Told E → Told E) → ((pass : Told E) → (f pass).table ≡ pass.table) → (passes : List (Told E)) → ArePassesOf cells passes → ArePassesOf cells (map f passes)
  same_cells f same passes are = record {
    as_long = length-map passes f ∙ are.as_long;
    each = λ k q e. let was = came_from f passes k q e in are.each k was.0 was.1 ∙ ap Some (sym (ap (λ (p : Told E). p.table) was.2 ∙ same was.0));
  }

  pub parts_of : (f : Told E → Told E) → ((pass : Told E) → (f pass).table ≡ pass.table) → (passes : List (Told E)) → ArePassesOf cells passes → (parts : List (Option (Told E))) → parts ≡ map (λ pass. Some (f pass)) passes
      → (k : ℕ) (q : Told E) → slice_get parts k ≡ Some (Some q) → slice_get (roster_of cells).tables k ≡ Some q.table
  parts_of f same passes are parts made k q e =
      let was = came_from (λ (p : Told E). Some (f p)) passes k (Some q) (subst (λ (z : List (Option (Told E))). slice_get z k ≡ Some (Some q)) made e) in
      are.each k was.0 was.1 ∙ ap Some (sym (ap (λ (p : Told E). p.table) (same_some q (f was.0) was.2) ∙ same was.0))

module _ {T P E O : Type 0} where
  -- the first passes of cells
  pub first_passes : (cells : List (Cell T P E O)) → ArePassesOf cells (map (λ cell. first_pass cell) cells)
  first_passes cells = record {
    as_long = length-map cells (λ cell. first_pass cell);
    each = λ k q e. let was = came_from (λ (c : Cell T P E O). first_pass c) cells k q e in
        mapped (λ (c : Cell T P E O). c.table.shared.table_id) cells k was.0 was.1 ∙ ap Some (sym (ap (λ (p : Told E). p.table) was.2));
  }
