-- What the code tells of an outcome is that outcome, and is printed as it.
use Rattle.std.proofs.Common.{◌≡◌, ℕ, List, refl}
use Rattle.partition_protocol.specs.Took as protocol
use Rattle.partition_protocol.specs.Took.{Took as ProtocolTook}
use Rattle.partition_protocol.specs.Execution.{Reached}
use Rattle.partition_protocol.specs.Execution as reached
use Rattle.partition_protocol.specs.Service as service
use Rattle.partition_protocol.specs.Service.{MoveRefused as WhyNotMoved, ReopenRefused as WhyNotReopened}
use Rattle.partition_protocol.specs.Events as event
use Rattle.partition_protocol.specs.Events.{Outcome}
use Rattle.member_wire.specs.Said.{took_of}
use Rattle.member_wire.specs.declared.took.Took.{Took}
use Rattle.member_wire.specs.declared.took.Took.TheVariants as took
use Rattle.grid_base.specs.declared.refusal.PartitionRefused.TheVariants as refused
use Rattle.table_service.specs.Refusals.{why_not_moved, why_not_reopened}
use Rattle.table_service.specs.declared.refusals.MoveRefused.{MoveRefused}
use Rattle.table_service.specs.declared.refusals.MoveRefused.TheVariants as move
use Rattle.table_service.specs.declared.refusals.ReopenRefused.{ReopenRefused}
use Rattle.table_service.specs.declared.refusals.ReopenRefused.TheVariants as reopen
use Rattle.partition_world.specs.declared.event.CallOutcome.TheVariants as call
use Rattle.partition_world.specs.declared.event.Happened.{Happened}
use Rattle.partition_world.specs.declared.event.Happened.TheVariants as happened
use Rattle.partition_world.specs.Events.{happened_of}
use Rattle.masters_protocol.specs.Members as masters
use Rattle.line_told.specs.Happenings.{told_took, told_move, told_reopening, as_happened, master_told}
use Rattle.line_told.specs.Outcomes.{words_of, master_words}
use Rattle.line_told.specs.Printing.{outcome_text}
use Rattle.line_told.specs.Words.{words_line}

same_took : (t : Took) → told_took (took_of t) ≡ t
same_took took.Adopted = refl
same_took took.Synced = refl
same_took took.Applied = refl
same_took took.Bridged = refl
same_took took.Acked = refl
same_took took.Frozen = refl
same_took took.Joined = refl
same_took took.Drained = refl
same_took took.Already = refl
same_took took.Gap = refl
same_took took.Other = refl
same_took took.Stale = refl
same_took took.Dropped = refl

same_move : (m : MoveRefused) → told_move (why_not_moved m) ≡ m
same_move move.Lost = refl
same_move move.NotIdle = refl
same_move move.NotThere = refl
same_move move.AlreadyThere = refl
same_move move.NotLive = refl
same_move move.NotEligible = refl

same_reopening : (m : ReopenRefused) → told_reopening (why_not_reopened m) ≡ m
same_reopening reopen.NotLost = refl
same_reopening reopen.NoMember = refl

-- what happened is told as it is
pub told_same : (h : Happened) → as_happened (happened_of h) ≡ h
told_same happened.Nothing = refl
told_same happened.Done = refl
told_same (happened.Called (call.Held seen)) = refl
told_same (happened.Called (call.Released seen)) = refl
told_same (happened.Called (call.Refused (refused.PartitionLost version))) = refl
told_same (happened.Called (call.Refused (refused.WrongTarget version))) = refl
told_same (happened.Called (call.Refused (refused.Migrating version))) = refl
told_same (happened.Took took) = λ i. happened.Took (same_took took i)
told_same (happened.RowMade version) = refl
told_same (happened.MoveRefused why) = λ i. happened.MoveRefused (same_move why i)
told_same (happened.ReopenRefused why) = λ i. happened.ReopenRefused (same_reopening why i)

as_took : (t : ProtocolTook) → took_of (told_took t) ≡ t
as_took protocol.Adopted = refl
as_took protocol.Synced = refl
as_took protocol.Applied = refl
as_took protocol.Bridged = refl
as_took protocol.Acked = refl
as_took protocol.Frozen = refl
as_took protocol.Joined = refl
as_took protocol.Drained = refl
as_took protocol.Already = refl
as_took protocol.Gap = refl
as_took protocol.Other = refl
as_took protocol.Stale = refl
as_took protocol.Dropped = refl

as_move : (m : WhyNotMoved) → why_not_moved (told_move m) ≡ m
as_move service.Lost = refl
as_move service.NotIdle = refl
as_move service.NotThere = refl
as_move service.AlreadyThere = refl
as_move service.NotLive = refl
as_move service.NotEligible = refl

as_reopening : (m : WhyNotReopened) → why_not_reopened (told_reopening m) ≡ m
as_reopening service.NotLost = refl
as_reopening service.NoMember = refl

-- and is printed in the same words
pub same_words : (done : List ℕ) (outcome : Outcome) → words_of done (happened_of (as_happened outcome)) ≡ words_of done outcome
same_words done event.NothingDone = refl
same_words done event.Done = refl
same_words done (event.HeldAt seen) = refl
same_words done (event.ReleasedAt seen) = refl
same_words done (event.Refused reached.Executes) = refl
same_words done (event.Refused (reached.PartitionLost version)) = refl
same_words done (event.Refused (reached.WrongTarget version)) = refl
same_words done (event.Refused (reached.Migrating version)) = refl
same_words done (event.TookMessage how) = λ i. words_of done (event.TookMessage (as_took how i))
same_words done (event.RowMadeAt version) = refl
same_words done (event.MoveIsRefused why) = λ i. words_of done (event.MoveIsRefused (as_move why i))
same_words done (event.ReopenIsRefused why) = λ i. words_of done (event.ReopenIsRefused (as_reopening why i))

-- What masters answered is printed in its words too.
pub same_master_words : (line : ℕ) (answer : masters.Outcome) → outcome_text line (master_told answer) ≡ words_line line (master_words answer)
same_master_words line masters.NothingDone = refl
same_master_words line masters.Done = refl
same_master_words line (masters.Proposed number) = refl
same_master_words line (masters.RefusedBusy length) = refl
same_master_words line masters.RefusedFull = refl
same_master_words line masters.StoreTaken = refl
same_master_words line masters.Counted = refl
same_master_words line masters.Asked = refl
same_master_words line masters.TellKept = refl
same_master_words line masters.Other = refl
same_master_words line masters.Stale = refl
same_master_words line masters.Dropped = refl
