-- What is seen of a partition is its world.
use Rattle.std.proofs.Common.{◌≡◌, ◌<◌, ℕ, List, Option, Some, None, length, get_or, ap, ◌∙◌, arith}
use Rattle.std.specs.Prelude.{IfSome, IsSome}
use denote.Ref.{Bor}
use Rattle.call_engine.specs.Calls.{Settings}
use Rattle.replay_run.specs.declared.grid.Grid.{Grid}
use Rattle.replay_run.specs.Runs.{Run, partitions}
use Rattle.replay_run.specs.Grids.{FormOf, GridWorld, IsWorld, Holds}
use Rattle.replay_run.proofs.Asking.{world_within, world_is}

module _ {V : Type 0} {T : V → Type 0} {form : FormOf V T} {settings : Settings} (grid : Grid V T) (r : Run) (h : Holds form settings grid r) (p i : ℕ) (low : p < partitions) (same : i ≡ p)
    (items : List GridWorld) (all : items ≡ grid.worlds.items) where
  pub seen_is : (found : Option (Bor GridWorld)) → IfSome found (λ (lent : Bor GridWorld). lent.now ≡ get_or items i lent.now) → IfSome found (λ (lent : Bor GridWorld). IsWorld settings lent.now r p)
  seen_is None read = tt
  seen_is (Some lent) read = world_is grid r h p i low same lent.now (read ∙ ap (λ xs. get_or xs i lent.now) all)

  pub is_seen : (found : Option (Bor GridWorld)) → (i < length items → IsSome found) → IsSome found
  is_seen found some = let within = world_within grid r h p i low same in let as_many = ap length all in some (omega (arith, within, as_many))
