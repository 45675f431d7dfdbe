-- Cells of a list that grows by one.
use Rattle.std.proofs.Common.{◌≡◌, ℕ, zero, suc, ◌⊎◌, inl, inr, ⊎_elim, List, [], ◌∷◌, ◌++◌, Option, Some, None, slice_get, get_or, length, All, sym, refl, ap, ◌∙◌, subst, arith}
use Rattle.entry_processors.specs.declared.form.Form.{Form}
use Rattle.std.proofs.lemmas.Option.{slice_get-get_or}
use Rattle.call_engine.specs.Calls.{Settings}
use Rattle.hand_cell.specs.declared.cell.Cell.{Cell}
use Rattle.hand_cell.specs.Calls.{plan_of}
use Rattle.live_grid.specs.declared.plan.GridPlan.{GridPlan}
use Rattle.live_grid.specs.Grids.{IsCellOf, AreCells}
use Rattle.live_grid.specs.Plans.{settings_in, settings_for}

none_some : {A : Type 0} (a : A) → ◌≡◌ {A = Option A} None (Some a) → ⊥
none_some a e = cc

same_some : {A : Type 0} (a b : A) → ◌≡◌ {A = Option A} (Some a) (Some b) → a ≡ b
same_some a b e = cc

pub pushed : {A : Type 0} (xs : List A) (x : A) (p : ℕ) (y : A) → slice_get (xs ++ x ∷ []) p ≡ Some y → (slice_get xs p ≡ Some y) ⊎ ((p ≡ length xs) × (y ≡ x))
pushed [] x zero y e = inr (refl, sym (same_some x y e))
pushed [] x (suc p) y e = absurd (none_some y e)
pushed (z ∷ zs) x zero y e = inl e
pushed (z ∷ zs) x (suc p) y e = ⊎_elim (λ (h : slice_get zs p ≡ Some y). inl h) (λ (h : (p ≡ length zs) × (y ≡ x)). inr (ap suc h.0, h.1)) (pushed zs x p y e)

pub none_at_all : {X : Type 0} (P : X → Type 0) → All P []
none_at_all P k d less = absurd (omega (arith, less))

module _ (members backups : ℕ) (forms : List Form) (capacity : ℕ) {T E O : Type 0} where
  pub no_cells : AreCells members backups forms capacity {T = T} {E = E} {O = O} []
  no_cells p cell e = absurd (none_some cell e)

  pub cells_more : (xs : List (Cell T GridPlan E O)) (x : Cell T GridPlan E O) (n : ℕ) → length xs ≡ n → AreCells members backups forms capacity xs → IsCellOf members backups forms capacity n x → AreCells members backups forms capacity (xs ++ x ∷ [])
  cells_more xs x n long all is p y e = ⊎_elim
      (λ (h : slice_get xs p ≡ Some y). all p y h)
      (λ (h : (p ≡ length xs) × (y ≡ x)). subst (λ (z : Cell T GridPlan E O). IsCellOf members backups forms capacity p z) (sym h.1) (subst (λ (k : ℕ). IsCellOf members backups forms capacity k x) (sym (h.0 ∙ long)) is))
      (pushed xs x p y e)

  -- what means as much as these forms and this capacity means as much as the plan of each cell
  pub cells_mean : (s : Settings) → s ≡ settings_in forms capacity → (xs : List (Cell T GridPlan E O)) → AreCells members backups forms capacity xs → All (λ (cell : Cell T GridPlan E O). s ≡ settings_for (plan_of cell)) xs
  cells_mean s is xs are k d less = let plan = are k (get_or xs k d) (slice_get-get_or xs k d less) in
      is ∙ (ap (λ (fs : List Form). settings_in fs capacity) (sym plan.forms_are) ∙ ap (settings_in (plan_of (get_or xs k d)).forms.items) (sym plan.capacity_is))
