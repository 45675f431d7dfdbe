-- The rule of a queue of jobs: each job that waits may be done on the cells that the queue is made for.
use Rattle.std.specs.Prelude.{◌≡◌, ℕ, ◌⊎◌, List, [], All}
use Rattle.job_queues.specs.declared.roster.QueueSide.{QueueSide}
use Rattle.job_queues.specs.declared.roster.QueueSide.TheVariants.{Opening, Ready, Spent}
use Rattle.job_queues.specs.Roster.{Roster}
use Rattle.job_queues.specs.Lists.{At}

module _ {P : Type 0} where
  abbrev pub IsOpening : QueueSide P → Type 0
  IsOpening Opening = Unit {0}
  IsOpening _ = ⊥

  abbrev pub IsSpent : QueueSide P → Type 0
  IsSpent Spent = Unit {0}
  IsSpent _ = ⊥

  -- what a pass knows of the cells is so
  abbrev pub Agrees : Roster P → QueueSide P → Type 0
  Agrees roster (Ready known) = known ≡ roster
  Agrees roster _ = Unit {0}

  -- the cells that a pass knows
  abbrev pub roster_in : QueueSide P → Roster P
  roster_in (Ready roster) = roster
  roster_in _ = record { tables = []; plans = [] }

module _ {P J : Type 0} (may : Roster P → J → Type 0) where
  -- While a pass is opening, nothing waits and nobody else holds a pass
  pub record Queued (items : List J) (sides : List (QueueSide P)) : Type 0 where
    pub roster : Roster P
    pub waiting : All (may roster) items
    pub agree : (j : ℕ) (v : QueueSide P) → At sides j v → Agrees roster v
    pub opening : (j : ℕ) (v : QueueSide P) → At sides j v → IsOpening v → (items ≡ []) × ((i : ℕ) (u : QueueSide P) → At sides i u → (i ≡ j) ⊎ IsSpent u)

  -- the pass knows what it knew, and that the job may be done
  abbrev pub knows : QueueSide P → J → QueueSide P → Type 0
  knows before job after = (after ≡ before) × may (roster_in before) job

  -- each of the jobs may be done on the cells that a pass knows
  abbrev pub were_for : QueueSide P → List J → Type 0
  were_for side items = All (may (roster_in side)) items
