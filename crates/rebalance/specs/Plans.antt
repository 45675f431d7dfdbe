-- The plan as a function of what it reads: the rows in order of partition, the marks of the moves under way, and the detected members.
use Rattle.std.specs.Prelude.{◌≡◌, ℕ, zero, suc, ◌+◌, ◌==◌, nat_lt, Bool, if◌then◌else◌, List, [], ◌∷◌, map, Option, Some, None, option_map, slice_index, Result, Ok, Err, ⊤}
use Rattle.std.specs.List.{range_with_len}
use Rattle.partition_table.specs.declared.row.Row.{Row}
use Rattle.partition_table.specs.Rows.{is_in}
use Rattle.rebalance.specs.declared.steps.Plan.{Plan}
use Rattle.rebalance.specs.declared.steps.Step.{Step}
use Rattle.rebalance.specs.declared.steps.StepKind.{StepKind}
use Rattle.rebalance.specs.declared.steps.StepKind.TheVariants.{Move, Handover}
use Rattle.rebalance.specs.declared.refusal.PlanRefused.{PlanRefused}
use Rattle.rebalance.specs.declared.refusal.PlanRefused.TheVariants as refused
use Rattle.rebalance.specs.Rows.{primaries, primary_of, is_unsettled}
use Rattle.rebalance.specs.Members.{is_undetected, undetected_count, load_of}
use Rattle.rebalance.specs.Targets.{target_of, excess_of}
use Rattle.rebalance.specs.Steps.{moved}

-- what comes of planning, or why there is no plan
pub data Planned : Type 0 where
  NoMember : Planned
  Unsettled : (partition : ℕ) → Planned
  Balanced : Plan → Planned

-- the first partition that isn't settled
abbrev pub first_unsettled : List Row → List Bool → Option ℕ
first_unsettled [] marks = None
first_unsettled (row ∷ rows) [] = None
first_unsettled (row ∷ rows) (mark ∷ marks) = if is_unsettled row mark then Some 0 else option_map suc (first_unsettled rows marks)

-- the target of each member, by its number
abbrev pub targets_of : List ℕ → ℕ → List (Option ℕ) → List ℕ
targets_of detected members primaries = map (target_of (is_undetected detected) (load_of primaries) members) (range_with_len 0 members)

-- the lowest of the numbers below n whose load is below its target
abbrev pub lowest_below : (ℕ → ℕ) → (ℕ → ℕ) → ℕ → Option ℕ
lowest_below load target zero = None
lowest_below load target (suc n) = elim (lowest_below load target n) [ None ↦ if nat_lt (load n) (target n) then Some n else None | Some m ↦ Some m ]

-- a handover where the row has the member that is to lead
abbrev pub kind_for : Row → ℕ → StepKind
kind_for row to = if is_in row to then Handover else Move

abbrev pub step_to : ℕ → Row → ℕ → ℕ → Step
step_to partition row from to = record { partition = partition; from = from; to = to; kind = kind_for row to }

-- A primary with a load above its target gives the row up, to the lowest member with a load below its target.
abbrev pub step_from : (ℕ → ℕ) → (ℕ → ℕ) → ℕ → ℕ → Row → Option ℕ → Option Step
step_from load target members partition row None = None
step_from load target members partition row (Some from) =
    if nat_lt (target from) (load from) then option_map (step_to partition row from) (lowest_below load target members) else None

abbrev pub step_at : (ℕ → ℕ) → (ℕ → ℕ) → ℕ → ℕ → Row → Option Step
step_at load target members partition row = step_from load target members partition row (primary_of row)

-- The partitions from that one on, whose rows these are, are gone through where the primaries are by then these.
abbrev pub steps_from : (ℕ → ℕ) → ℕ → List (Option ℕ) → ℕ → List Row → List Step
steps_from target members primaries partition [] = []
steps_from target members primaries partition (row ∷ rows) =
    elim (step_at (load_of primaries) target members partition row) [
      | None ↦ steps_from target members primaries (partition + 1) rows
      | Some step ↦ step ∷ steps_from target members (moved primaries step) (partition + 1) rows
    ]

abbrev pub balanced : List Row → List ℕ → ℕ → Plan
balanced rows targets members = record {
  steps = steps_from (slice_index targets) members (primaries rows) 0 rows;
  targets = targets;
  excess = excess_of (load_of (primaries rows)) (slice_index targets) members;
}

abbrev pub plan_of : List Row → List Bool → List ℕ → ℕ → Planned
plan_of rows moving detected members =
    if undetected_count detected members == 0 then NoMember
    else elim (first_unsettled rows moving) [ None ↦ Balanced (balanced rows (targets_of detected members (primaries rows)) members) | Some partition ↦ Unsettled partition ]

-- It gives what is planned; want of memory says nothing of that.
abbrev pub Gives : Result Plan PlanRefused → Planned → Type 0
Gives (Ok plan) planned = planned ≡ Balanced plan
Gives (Err refused.NoMember) planned = planned ≡ NoMember
Gives (Err (refused.Unsettled partition)) planned = planned ≡ Unsettled partition
Gives (Err refused.Memory) planned = ⊤
