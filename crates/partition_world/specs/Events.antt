-- The events and outcomes of the code, as those of the protocol.
use Rattle.std.specs.Prelude.{if◌then◌else◌}
use Rattle.member_wire.specs.Said.{took_of}
use Rattle.partition_protocol.specs.Events as protocol
use Rattle.replica_node.specs.declared.calls.Execution.{Execution}
use Rattle.replica_node.specs.Calls.{refused_as}
use Rattle.table_service.specs.Refusals.{why_not_moved, why_not_reopened}
use Rattle.partition_world.specs.declared.event.Event.{Event}
use Rattle.partition_world.specs.declared.event.Event.TheVariants as event
use Rattle.partition_world.specs.declared.event.CallOutcome.{CallOutcome}
use Rattle.partition_world.specs.declared.event.CallOutcome.TheVariants as call
use Rattle.partition_world.specs.declared.event.Happened.{Happened}
use Rattle.partition_world.specs.declared.event.Happened.TheVariants as happened

abbrev pub event_of : {C : Type 0} → Event C → protocol.Event C
event_of (event.Call member id call now) = protocol.Call member id.conn id.number call now
event_of (event.Deliver from to place) = protocol.Deliver from to place
event_of (event.Lose from to place) = protocol.Lose from to place
event_of (event.Repeat from to place) = protocol.Repeat from to place
event_of (event.Resend end) = protocol.Resend end
event_of (event.Crash member) = protocol.Crash member
event_of (event.Detect member) = protocol.Detect member
event_of (event.BeginMove from to) = protocol.BeginMove from to
event_of (event.BeginJoin to) = protocol.BeginJoin to
event_of (event.BeginHandover from to) = protocol.BeginHandover from to
event_of event.Advance = protocol.Advance
event_of event.Reopen = protocol.Reopen

abbrev pub outcome_of : CallOutcome → protocol.Outcome
outcome_of (call.Held seen) = protocol.HeldAt seen
outcome_of (call.Released seen) = protocol.ReleasedAt seen
outcome_of (call.Refused why) = protocol.Refused (refused_as why)

-- what a call came to that was executed
abbrev pub came_to : Execution → CallOutcome
came_to execution = if execution.is_held then call.Held execution.seen else call.Released execution.seen

abbrev pub happened_of : Happened → protocol.Outcome
happened_of happened.Nothing = protocol.NothingDone
happened_of happened.Done = protocol.Done
happened_of (happened.Called outcome) = outcome_of outcome
happened_of (happened.Took took) = protocol.TookMessage (took_of took)
happened_of (happened.RowMade version) = protocol.RowMadeAt version
happened_of (happened.MoveRefused why) = protocol.MoveIsRefused (why_not_moved why)
happened_of (happened.ReopenRefused why) = protocol.ReopenIsRefused (why_not_reopened why)

-- the call that the protocol's event brings keeps to the limits, if it brings one
abbrev pub EventWithin : {C : Type 0} → (C → Type 0) → protocol.Event C → Type 0
EventWithin limits (protocol.Call member conn number call now) = limits call
EventWithin limits event = Unit {0}

-- and so does that of an event of the code
abbrev pub IsWithinLimits : {C : Type 0} → (C → Type 0) → Event C → Type 0
IsWithinLimits limits event = EventWithin limits (event_of event)
