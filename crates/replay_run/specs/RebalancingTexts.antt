-- The text of the line `rebalance K`: the whole plan, and then what each of its first K steps appended, and how the step ended.
use Rattle.std.specs.Prelude.{ℕ, List, [], ◌∷◌, ◌++◌, length, codes, decimal}
use Rattle.std.specs.List.{flat_map}
use Rattle.grid_base.specs.Objects.{Object}
use Rattle.grid_base.specs.declared.calls.Request.{Request}
use Rattle.grid_base.specs.declared.names.CallId.{CallId}
use Rattle.object_store.specs.Partitions.{Partition}
use Rattle.rebalance.specs.declared.Step.{Step}
use Rattle.rebalance.specs.Plans.{Planned, NoMember, Unsettled, Balanced}
pub use Rattle.line_told.specs.Printing.{kind_word, step_text, end_word, end_text}
use Rattle.line_told.specs.Words.{number, line_end}
use Rattle.replay_run.specs.Appending.{appended_text, new_messages}
use Rattle.replay_run.specs.Runs.{Run}
use Rattle.replay_run.specs.Rebalancing.{is_moving_at, stepped}

-- the plan

-- `I plan N`, and its steps
abbrev pub steps_text : ℕ → List Step → List ℕ
steps_text line steps = number line ++ codes "plan " ++ decimal (length steps) ++ line_end ++ flat_map (step_text line) steps

-- `I refused nomember`, or `I refused unsettled P`
abbrev pub plan_text : ℕ → Planned → List ℕ
plan_text line NoMember = number line ++ codes "refused nomember" ++ line_end
plan_text line (Unsettled partition) = number line ++ codes "refused unsettled " ++ decimal partition ++ line_end
plan_text line (Balanced plan) = steps_text line plan.steps

-- the steps that are run

-- each step's messages stand before its end
abbrev pub ran_text : Object Request Partition → List CallId → Run → Step → List ℕ
ran_text o skips r step =
    let next = stepped o skips r step in
    flat_map appended_text (new_messages r next) ++ end_text r.lines step.partition (is_moving_at o next step.partition)

abbrev pub ran_texts : Object Request Partition → List CallId → Run → List Step → List ℕ
ran_texts o skips r [] = []
ran_texts o skips r (step ∷ steps) = ran_text o skips r step ++ ran_texts o skips (stepped o skips r step) steps
