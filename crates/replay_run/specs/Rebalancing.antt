-- The line `rebalance K`: the plan for the rows of a run, and the run after the first K of its steps, each of which is a list of events.
use Rattle.std.specs.Prelude.{ℕ, zero, suc, Bool, not, if◌then◌else◌, List, [], map, filter, fold, take, Some, None}
use Rattle.std.specs.List.{list_all}
use Rattle.grid_base.specs.Objects.{Object}
use Rattle.grid_base.specs.declared.calls.Request.{Request}
use Rattle.grid_base.specs.declared.names.CallId.{CallId}
use Rattle.object_store.specs.Partitions.{Partition}
use Rattle.partition_table.specs.declared.Row.{Row}
use Rattle.partition_table.specs.Rows.{first_of, is_among}
use Rattle.partition_protocol.specs.Service.{Service, is_idle, numbers_below}
use Rattle.partition_protocol.specs.Events.{Event, Resend, BeginMove, BeginJoin, BeginHandover, Advance}
use Rattle.rebalance.specs.declared.Step.{Step}
use Rattle.rebalance.specs.declared.StepKind.{StepKind}
use Rattle.rebalance.specs.declared.StepKind.TheVariants.{Move, Handover}
use Rattle.rebalance.specs.Plans.{Planned, NoMember, Unsettled, Balanced, plan_of}
use Rattle.replay_run.specs.Runs.{Run, partitions, world_at, takes, flowed}

-- the plan

abbrev pub service_at : {State : Type 0} → Object Request State → Run → ℕ → Service
service_at o r p = (world_at o r p).service

-- whether a move of the partition is under way
abbrev pub is_moving_at : {State : Type 0} → Object Request State → Run → ℕ → Bool
is_moving_at o r p = not (is_idle (service_at o r p).move)

-- the newest rows, in order of partition, and which of the partitions are moving
abbrev pub rows_in : {State : Type 0} → Object Request State → Run → List Row
rows_in o r = map (λ p. (service_at o r p).row) (numbers_below partitions)

abbrev pub marks_in : {State : Type 0} → Object Request State → Run → List Bool
marks_in o r = map (is_moving_at o r) (numbers_below partitions)

-- A detection is an event of every partition: a member counts as detected where it happened in all of them.
abbrev pub is_detected_in : {State : Type 0} → Object Request State → Run → ℕ → Bool
is_detected_in o r m = list_all (λ p. is_among (service_at o r p).detected m) (numbers_below partitions)

abbrev pub detected_in : {State : Type 0} → Object Request State → Run → List ℕ
detected_in o r = filter (is_detected_in o r) (numbers_below r.members)

abbrev pub plan_in : {State : Type 0} → Object Request State → Run → Planned
plan_in o r = plan_of (rows_in o r) (marks_in o r) (detected_in o r) r.members

-- a step

-- how many messages are delivered at once
abbrev pub most_deliveries : ℕ
most_deliveries = 1000

-- how many turns a step has
abbrev pub most_turns : ℕ
most_turns = 4

-- the event with which it begins
abbrev pub event_begun : StepKind → ℕ → ℕ → Event Request
event_begun Move from to = BeginMove from to
event_begun Handover from to = BeginHandover from to

-- the first member of the newest row sends again, if the row has one
abbrev pub first_resends : Object Request Partition → List CallId → Run → ℕ → Run
first_resends o skips r p = elim (first_of (service_at o r p).row.members) [ None ↦ r | Some first ↦ takes o skips r p (Resend first) ]

-- a turn: the table service sends again, and then the first member; messages are delivered, and the move takes its next step
abbrev pub turned : Object Request Partition → List CallId → Run → ℕ → Run
turned o skips r p = takes o skips (flowed o skips (first_resends o skips (takes o skips r p (Resend r.members)) p) p most_deliveries) p Advance

-- up to so many turns, while the move is under way
abbrev pub turned_on : Object Request Partition → List CallId → Run → ℕ → ℕ → Run
turned_on o skips r p zero = r
turned_on o skips r p (suc turns) = if is_moving_at o r p then turned_on o skips (turned o skips r p) p turns else r

-- a member joins the row, and messages are delivered
abbrev pub joined : Object Request Partition → List CallId → Run → ℕ → ℕ → Run
joined o skips r p member = flowed o skips (takes o skips r p (BeginJoin member)) p most_deliveries

-- After a handover that has ended the member that led joins the row again, from which it was taken.
abbrev pub rejoined : Object Request Partition → List CallId → Run → ℕ → ℕ → StepKind → Run
rejoined o skips r p from Move = r
rejoined o skips r p from Handover = if is_moving_at o r p then r else joined o skips r p from

abbrev pub stepped : Object Request Partition → List CallId → Run → Step → Run
stepped o skips r step =
    let p = step.partition in
    rejoined o skips (turned_on o skips (takes o skips r p (event_begun step.kind step.from step.to)) p most_turns) p step.from step.kind

abbrev pub stepped_all : Object Request Partition → List CallId → Run → List Step → Run
stepped_all o skips r steps = fold (stepped o skips) r steps

-- the line

-- A partition's events in one line: the one that begins its step, four turns of 1,003, and a join with 1,000 deliveries.
abbrev pub most_line_events : ℕ
most_line_events = 5014

-- the first steps of what is planned; where there is no plan there are none
abbrev pub first_steps : ℕ → Planned → List Step
first_steps most NoMember = []
first_steps most (Unsettled partition) = []
first_steps most (Balanced plan) = take most plan.steps

abbrev pub steps_in : {State : Type 0} → Object Request State → Run → ℕ → List Step
steps_in o r most = first_steps most (plan_in o r)

abbrev pub rebalanced : Object Request Partition → List CallId → Run → ℕ → Run
rebalanced o skips r most = stepped_all o skips r (steps_in o r most)
