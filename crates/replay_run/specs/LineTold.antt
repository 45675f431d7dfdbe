-- What a line tells, as data, and what it writes as it goes.
use Rattle.std.specs.Prelude.{ℕ, Bool, true, false, if◌then◌else◌, List, [], ◌∷◌, ◌++◌, length, map, Option, Some, None}
use Rattle.std.specs.List.{flat_map}
use Rattle.frame_codec.specs.declared.malformed.Malformed.{Malformed}
use Rattle.grid_base.specs.Objects.{Object}
use Rattle.grid_base.specs.declared.names.CallId.{CallId}
use Rattle.grid_base.specs.declared.calls.Request.{Request}
use Rattle.partition_protocol.specs.Events.{Event}
use Rattle.partition_protocol.specs.Events as event
use Rattle.partition_protocol.specs.World.{trail}
use Rattle.partition_world.specs.ContentsOf.{pair_at}
use Rattle.call_engine.specs.Calls.{Settings}
use Rattle.call_engine.specs.Objects.{partition_object}
use Rattle.object_store.specs.Partitions.{Partition}
use Rattle.rebalance.specs.declared.Step.{Step}
use Rattle.rebalance.specs.Plans.{Planned, NoMember, Unsettled, Balanced}
use Rattle.script_lang.specs.declared.line.Line.{Line}
use Rattle.script_lang.specs.declared.line.Line.TheVariants.{Arrive, Flow, FlowAll, Crash, Detect, Rebalance, Dump, Links, Trail, MasterFlow}
use Rattle.line_told.specs.Happenings.{event_told, fate_told}
use Rattle.line_told.specs.declared.told.Appended.{Appended}
use Rattle.line_told.specs.declared.told.LineOutcome.{LineOutcome}
use Rattle.line_told.specs.declared.told.LineOutcome.TheVariants as outcome
use Rattle.line_told.specs.declared.told.Told.{Told}
use Rattle.line_told.specs.declared.told.Told.TheVariants as told
use Rattle.replay_run.specs.Appending.{new_messages}
use Rattle.replay_run.specs.Printing.{outcome_at, deliveries, does_nothing, in_flight, line_dump, line_links, printed_by, entry_text}
use Rattle.replay_run.specs.Rebalancing.{plan_in, steps_in, is_moving_at, stepped}
use Rattle.replay_run.specs.Runs.{Run, Connection, At, connection_of, fault_on, next_line, event_by, world_at}

-- one thing told: what the line came to, and a message

abbrev pub came_to : LineOutcome → List Told
came_to outcome = told.Outcome outcome ∷ []

abbrev pub message_told : Appended → List Told
message_told m = told.Message m ∷ []

abbrev pub all_told : List Appended → List Told
all_told messages = map told.Message messages

-- outcomes

-- An advance that makes no row freezes the move's source.
abbrev pub is_advance : Event Request → Bool
is_advance event.Advance = true
is_advance event = false

-- A line that is an event tells what that came to, and any other that it ran.
abbrev pub event_outcome : Settings → Run → Option At → LineOutcome
event_outcome settings before None = outcome.Ran
event_outcome settings before (Some e) = event_told (is_advance e.event) (outcome_at (partition_object settings) before e.partition e.event)

-- A crash or a detection comes to the same in all partitions.
abbrev pub fate_outcome : Settings → Run → Event Request → LineOutcome
fate_outcome settings before event = fate_told (outcome_at (partition_object settings) before 0 event)

-- how many steps a plan has, and each of them
abbrev pub steps_told : List Step → List Told
steps_told steps = came_to (outcome.Planned (length steps)) ++ map told.Step steps

abbrev pub plan_told : Planned → List Told
plan_told NoMember = came_to outcome.NoMember
plan_told (Unsettled partition) = came_to (outcome.Unsettled partition)
plan_told (Balanced plan) = steps_told plan.steps

abbrev pub outcome_told : Settings → Run → Line → Run → List Told
outcome_told settings before (Dump p member) after = came_to (outcome.Dumped (pair_at (world_at (partition_object settings) after p) member))
outcome_told settings before (Trail p) after = came_to (outcome.Trail (length (trail (world_at (partition_object settings) after p))))
outcome_told settings before (Links p) after = came_to (outcome.InFlight (in_flight settings after p))
outcome_told settings before (Flow p most) after = came_to (outcome.Flowed (deliveries before after))
outcome_told settings before (FlowAll most) after = came_to (outcome.Flowed (deliveries before after))
outcome_told settings before (MasterFlow p most) after = came_to (outcome.Flowed 0)
outcome_told settings before (Crash member) after = came_to (fate_outcome settings before (event.Crash member))
outcome_told settings before (Detect member) after = came_to (fate_outcome settings before (event.Detect member))
outcome_told settings before (Rebalance most) after = plan_told (plan_in (partition_object settings) (next_line before))
outcome_told settings before line after = came_to (event_outcome settings before (event_by line))

-- what follows

-- how a step ended
abbrev pub end_told : ℕ → Bool → List Told
end_told partition moving = told.Ended partition moving ∷ []

-- Each step's messages stand before its end.
abbrev pub ran_told : Object Request Partition → List CallId → Run → Step → List Told
ran_told o skips r step =
    let next = stepped o skips r step in
    all_told (new_messages r next) ++ end_told step.partition (is_moving_at o next step.partition)

abbrev pub ran_all_told : Object Request Partition → List CallId → Run → List Step → List Told
ran_all_told o skips r [] = []
ran_all_told o skips r (step ∷ steps) = ran_told o skips r step ++ ran_all_told o skips (stepped o skips r step) steps

-- Each message that a line appended follows its outcome; where the line runs steps, each step ends with an end of its own.
abbrev pub messages_told : Settings → List CallId → Run → Line → Run → List Told
messages_told settings skips before (Rebalance most) after = ran_all_told (partition_object settings) skips (next_line before) (steps_in (partition_object settings) (next_line before) most)
messages_told settings skips before line after = all_told (new_messages before after)

-- the fault of a connection, which closes it

abbrev pub close_told : ℕ → Option Malformed → List Told
close_told c None = []
close_told c (Some fault) = told.Closed c fault ∷ []

abbrev pub closing_told : ℕ → Option Connection → List Told
closing_told c None = []
closing_told c (Some connection) = close_told c (fault_on connection)

-- Bytes that show their connection's fault close it.
abbrev pub line_closing : Run → Line → List Told
line_closing after (Arrive c bytes) = closing_told c (connection_of after c)
line_closing after line = []

-- What a line tells at which these calls found no memory: what it came to, its messages, and the connection that it closed.
abbrev pub line_told : Settings → List CallId → Run → Line → Run → List Told
line_told settings skips before line after =
    if does_nothing (partition_object settings) before line then came_to outcome.Idle
    else outcome_told settings before line after ++ messages_told settings skips before line after ++ line_closing after line

-- What it writes as it goes: the objects that it dumps, the messages in flight and the entries that it prints. A line that writes any changes nothing, and is counted.
abbrev pub line_printed : Settings → Run → Line → List ℕ
line_printed settings before line =
    let o = partition_object settings in
    let after = next_line before in
    line_dump o after line ++ line_links settings after line ++ flat_map (entry_text after.lines) (printed_by o after line)
