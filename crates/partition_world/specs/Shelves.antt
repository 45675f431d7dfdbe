-- The laws of a shelf in an environment, as one record: those that the trait of shelves gives.
use Rattle.std.specs.Prelude.{◌≡◌, ℕ, ◌+◌, ◌-◌, ◌≤◌, List, Option, Some, None, is_some}
use Rattle.grid_base.specs.Objects.{IsSmall}
use Rattle.partition_protocol.specs.History.{Executed}
use Rattle.partition_protocol.specs.World.{World as Machine}
use Rattle.partition_protocol.specs.NamedStates.{effect_call}
use Rattle.grid_base.specs.Shelves.{Meaning}
use Rattle.partition_world.specs.InFlight.{state_at, effect_bytes}

pub record IsShelf {S C State : Type 0} (k : Meaning S C State) (limits : C → Type 0) (within : ℕ → State → Type 0) (applied : List ℕ → State → Option State) : Type 0 where
  -- a call changes the state exactly where it has an effect
  pub changes_by_effect : (s : State) (call : C) (now : ℕ) → k.object.changes s call now ≡ is_some (k.effect_of s call now)
  pub same_without_effect : (s : State) (call : C) (now : ℕ) → k.effect_of s call now ≡ None → k.object.after s call now ≡ s
  pub made_by_effect : (s : State) (call : C) (now : ℕ) (effect : List ℕ) → IsSmall within s → limits call → k.effect_of s call now ≡ Some effect → applied effect s ≡ Some (k.object.after s call now)
  pub begins_within : within 0 k.object.empty
  -- each call adds one
  pub grows_within : (n : ℕ) (s : State) (call : C) (now : ℕ) → limits call → within n s → within (n + 1) (k.object.after s call now)
  pub widens : (m n : ℕ) (s : State) → m ≤ n → within m s → within n s
  -- no two small states have one snapshot
  pub one_spelling : (s t : State) → IsSmall within s → IsSmall within t → k.snapshot_of s ≡ k.snapshot_of t → s ≡ t

-- The i-th effect of a version has the bytes of its call, and they make the state after it of the one before it
pub record IsLeading {S C State : Type 0} (k : Meaning S C State) (applied : List ℕ → State → Option State) (w : Machine C) (v i : ℕ) : Type 0 where
  pub call : Executed C
  pub first : effect_call w v i ≡ Some call
  pub bytes : k.effect_of (state_at k w v (i - 1)) call.call call.now ≡ Some (effect_bytes k w v i)
  pub leads : applied (effect_bytes k w v i) (state_at k w v (i - 1)) ≡ Some (state_at k w v i)
