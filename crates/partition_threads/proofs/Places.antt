-- A cell of the place, found at a partition.
use Rattle.std.proofs.Common.{◌≡◌, ℕ, zero, suc, List, [], ◌∷◌, map, refl, sym, ap, ◌∙◌, subst, Option, Some, None, slice_get, get_or}
use Rattle.atomic_table.specs.Seated.{TableId}
use Rattle.hand_cell.specs.declared.cell.Cell.{Cell}
use Rattle.hand_cell.specs.Calls.{plan_of}
use Rattle.job_queues.specs.Roster.{roster_of, StandsAt}

no_some : {A : Type 0} (a : A) → ◌≡◌ {A = Option A} None (Some a) → ⊥
no_some a p = cc

same_some : {A : Type 0} (a b : A) → ◌≡◌ {A = Option A} (Some a) (Some b) → a ≡ b
same_some a b p = cc

at_map : {A B : Type 0} (v : A → B) (xs : List A) (k : ℕ) (x : B) (a : A) → slice_get (map v xs) k ≡ Some x → a ≡ get_or xs k a → v a ≡ x
at_map v [] k x a e is = absurd (no_some x e)
at_map v (y ∷ ys) zero x a e is = ap v is ∙ same_some (v y) x e
at_map v (y ∷ ys) (suc k) x a e is = at_map v ys k x a e is

-- the cell at a partition was made for the plan that stands there
pub plan_at : {T P E O : Type 0} (cells : List (Cell T P E O)) (p i : ℕ) (x : P) (cell : Cell T P E O) → slice_get (roster_of cells).plans p ≡ Some x → i ≡ p → cell ≡ get_or cells i cell → plan_of cell ≡ x
plan_at {T} {P} {E} {O} cells p i x cell e same is = at_map (λ (c : Cell T P E O). plan_of c) cells p x cell e (subst (λ (z : ℕ). cell ≡ get_or cells z cell) same is)

at_place : {A B C : Type 0} (v : A → B) (w : A → C) (xs : List A) (k : ℕ) (x : B) (a : A) → slice_get (map v xs) k ≡ Some x → a ≡ get_or xs k a → slice_get (map w xs) k ≡ Some (w a)
at_place v w [] k x a e is = absurd (no_some x e)
at_place v w (y ∷ ys) zero x a e is = ap (λ z. Some (w z)) (sym is)
at_place v w (y ∷ ys) (suc k) x a e is = at_place v w ys k x a e is

-- a cell that was found at a partition stands there in the roster
pub stands_at : {T P E O : Type 0} (cells : List (Cell T P E O)) (p i : ℕ) (t : TableId) (cell : Cell T P E O) → slice_get (roster_of cells).tables p ≡ Some t → i ≡ p → cell ≡ get_or cells i cell → StandsAt (roster_of cells) p cell
stands_at {T} {P} {E} {O} cells p i t cell e same is = let here = subst (λ (z : ℕ). cell ≡ get_or cells z cell) same is in record {
  table = at_place (λ (c : Cell T P E O). c.table.shared.table_id) (λ (c : Cell T P E O). c.table.shared.table_id) cells p t cell e here;
  plan = at_place (λ (c : Cell T P E O). c.table.shared.table_id) (λ (c : Cell T P E O). plan_of c) cells p t cell e here;
}

-- where a cell is there is its plan
pub planned : {T P E O : Type 0} (cells : List (Cell T P E O)) (p : ℕ) (t : TableId) → slice_get (roster_of cells).tables p ≡ Some t → (x : P) × (slice_get (roster_of cells).plans p ≡ Some x)
planned [] p t e = absurd (no_some t e)
planned (c ∷ cs) zero t e = (plan_of c, refl)
planned (c ∷ cs) (suc p) t e = planned cs p t e
