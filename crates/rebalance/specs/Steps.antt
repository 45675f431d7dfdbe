-- The steps of a plan, and the rule that they follow.
use Rattle.std.specs.Prelude.{◌≡◌, ℕ, ◌+◌, ◌<◌, ◌≤◌, ◌↔◌, List, true, Option, Some, fold, take, length, slice_get, slice_set}
use Rattle.partition_table.specs.declared.row.Row.{Row}
use Rattle.partition_table.specs.Rows.{is_in}
use Rattle.rebalance.specs.declared.steps.Step.{Step}
use Rattle.rebalance.specs.declared.steps.StepKind.TheVariants.{Handover}
use Rattle.rebalance.specs.Rows.{primaries, primary_of}
use Rattle.rebalance.specs.Members.{load_of}

-- the primaries after one step
abbrev pub moved : List (Option ℕ) → Step → List (Option ℕ)
moved primaries step = slice_set primaries step.partition (Some step.to)

-- the primaries after steps
abbrev pub after : List Step → List (Option ℕ) → List (Option ℕ)
after steps primaries = fold moved primaries steps

-- the partition that comes after the last step's
abbrev pub next_of : List Step → ℕ
next_of steps = fold (λ next (step : Step). step.partition + 1) 0 steps

-- the lowest-numbered member whose load is below its target
pub record IsLowestBelow (load target : ℕ → ℕ) (members member : ℕ) : Type 0 where
  pub in_range : member < members
  pub below : load member < target member
  pub lowest : (m : ℕ) → m < member → target m ≤ load m

-- no primary of the partitions from one up to another has a load above its target
abbrev pub NoneAbove : List (Option ℕ) → (ℕ → ℕ) → (ℕ → ℕ) → ℕ → ℕ → Type 0
NoneAbove primaries load target from to = (p m : ℕ) → from ≤ p → p < to → slice_get primaries p ≡ Some (Some m) → load m ≤ target m

-- the step gives the row, whose primary has a load above its target, to the lowest-numbered member below its target
pub record TakesFrom (row : Row) (load target : ℕ → ℕ) (members : ℕ) (step : Step) : Type 0 where
  pub is_primary : primary_of row ≡ Some step.from
  pub above : target step.from < load step.from
  pub lowest : IsLowestBelow load target members step.to
  pub kind : (step.kind ≡ Handover) ↔ (is_in row step.to ≡ true)

-- a step by the rule, where these loads stand and the partitions below `next` were gone through
pub record IsStep (rows : List Row) (load target : ℕ → ℕ) (members next : ℕ) (step : Step) : Type 0 where
  pub rises : next ≤ step.partition
  pub none_between : NoneAbove (primaries rows) load target next step.partition
  pub row : Row
  pub at : slice_get rows step.partition ≡ Some row
  pub takes : TakesFrom row load target members step

-- each step is the rule's after the steps before it, and after the last the rule gives none
pub record FollowsRule (rows : List Row) (target : ℕ → ℕ) (members : ℕ) (steps : List Step) : Type 0 where
  pub each : (k : ℕ) (step : Step) → slice_get steps k ≡ Some step → IsStep rows (load_of (after (take k steps) (primaries rows))) target members (next_of (take k steps)) step
  pub ends : NoneAbove (primaries rows) (load_of (after steps (primaries rows))) target (next_of steps) (length rows)

-- a step's kind says whether its row has the member that is to lead
abbrev pub HasRightKinds : List Row → List Step → Type 0
HasRightKinds rows steps = (k : ℕ) (step : Step) (row : Row) → slice_get steps k ≡ Some step → slice_get rows step.partition ≡ Some row → (step.kind ≡ Handover) ↔ (is_in row step.to ≡ true)

-- the rule determines the steps
abbrev pub RuleIsExact : Type 0
RuleIsExact = (rows : List Row) (target : ℕ → ℕ) (members : ℕ) (steps others : List Step) → FollowsRule rows target members steps → FollowsRule rows target members others → steps ≡ others
