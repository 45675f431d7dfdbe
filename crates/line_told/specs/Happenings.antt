-- An outcome of the protocol, as the code tells it, and what a line tells of it.
use Rattle.std.specs.Prelude.{Bool, true}
use Rattle.partition_protocol.specs.Took as protocol
use Rattle.partition_protocol.specs.Took.{Took as ProtocolTook}
use Rattle.partition_protocol.specs.Execution.{Reached}
use Rattle.partition_protocol.specs.Execution as reached
use Rattle.partition_protocol.specs.Service as service
use Rattle.partition_protocol.specs.Service.{MoveRefused as WhyNotMoved, ReopenRefused as WhyNotReopened}
use Rattle.partition_protocol.specs.Events as event
use Rattle.partition_protocol.specs.Events.{Outcome}
use Rattle.masters_protocol.specs.Members as masters
use Rattle.master_member.specs.declared.took.MasterTook.TheVariants as took_by
use Rattle.member_wire.specs.declared.took.Took.{Took}
use Rattle.member_wire.specs.declared.took.Took.TheVariants as took
use Rattle.grid_base.specs.declared.refusal.PartitionRefused.TheVariants as refused
use Rattle.table_service.specs.declared.refusals.MoveRefused.{MoveRefused}
use Rattle.table_service.specs.declared.refusals.MoveRefused.TheVariants as move
use Rattle.table_service.specs.declared.refusals.ReopenRefused.{ReopenRefused}
use Rattle.table_service.specs.declared.refusals.ReopenRefused.TheVariants as reopen
use Rattle.partition_world.specs.declared.event.CallOutcome.TheVariants as call
use Rattle.partition_world.specs.declared.event.Happened.{Happened}
use Rattle.partition_world.specs.declared.event.Happened.TheVariants as happened
use Rattle.line_told.specs.declared.told.LineOutcome.{LineOutcome}
use Rattle.line_told.specs.declared.told.LineOutcome.TheVariants.{Ran, Idle, Came, Froze, Proposed, Busy, Full, MasterTook}

abbrev pub told_took : ProtocolTook → Took
told_took protocol.Adopted = took.Adopted
told_took protocol.Synced = took.Synced
told_took protocol.Applied = took.Applied
told_took protocol.Bridged = took.Bridged
told_took protocol.Acked = took.Acked
told_took protocol.Frozen = took.Frozen
told_took protocol.Joined = took.Joined
told_took protocol.Drained = took.Drained
told_took protocol.Already = took.Already
told_took protocol.Gap = took.Gap
told_took protocol.Other = took.Other
told_took protocol.Stale = took.Stale
told_took protocol.Dropped = took.Dropped

abbrev pub told_move : WhyNotMoved → MoveRefused
told_move service.Lost = move.Lost
told_move service.NotIdle = move.NotIdle
told_move service.NotThere = move.NotThere
told_move service.AlreadyThere = move.AlreadyThere
told_move service.NotLive = move.NotLive
told_move service.NotEligible = move.NotEligible

abbrev pub told_reopening : WhyNotReopened → ReopenRefused
told_reopening service.NotLost = reopen.NotLost
told_reopening service.NoMember = reopen.NoMember

-- A call that its member executes isn't refused.
abbrev pub told_refusal : Reached → Happened
told_refusal reached.Executes = happened.Called (call.Held 0)
told_refusal (reached.PartitionLost version) = happened.Called (call.Refused (refused.PartitionLost version))
told_refusal (reached.WrongTarget version) = happened.Called (call.Refused (refused.WrongTarget version))
told_refusal (reached.Migrating version) = happened.Called (call.Refused (refused.Migrating version))

abbrev pub as_happened : Outcome → Happened
as_happened event.NothingDone = happened.Nothing
as_happened event.Done = happened.Done
as_happened (event.HeldAt seen) = happened.Called (call.Held seen)
as_happened (event.ReleasedAt seen) = happened.Called (call.Released seen)
as_happened (event.Refused why) = told_refusal why
as_happened (event.TookMessage how) = happened.Took (told_took how)
as_happened (event.RowMadeAt version) = happened.RowMade version
as_happened (event.MoveIsRefused why) = happened.MoveRefused (told_move why)
as_happened (event.ReopenIsRefused why) = happened.ReopenRefused (told_reopening why)

-- What a line tells of its event: an advance that is done and made no row froze the move's source.
abbrev pub event_told : (advances : Bool) → Outcome → LineOutcome
event_told true event.Done = Froze
event_told advances outcome = Came (as_happened outcome)

-- of a crash or a detection, which are done or not, whether or not a row is made
abbrev pub fate_told : Outcome → LineOutcome
fate_told event.Done = Ran
fate_told (event.RowMadeAt version) = Ran
fate_told outcome = Idle

-- what a line tells of what the masters answered
abbrev pub master_told : masters.Outcome → LineOutcome
master_told masters.NothingDone = Idle
master_told masters.Done = Ran
master_told (masters.Proposed number) = Proposed number
master_told (masters.RefusedBusy length) = Busy length
master_told masters.RefusedFull = Full
master_told masters.StoreTaken = MasterTook took_by.Stored
master_told masters.Counted = MasterTook took_by.Counted
master_told masters.Asked = MasterTook took_by.Asked
master_told masters.TellKept = MasterTook took_by.Told
master_told masters.Other = MasterTook took_by.Other
master_told masters.Stale = MasterTook took_by.Stale
master_told masters.Dropped = MasterTook took_by.Dropped
