-- What is written for each message of the protocol, and what a written message says in the protocol's words.
-- The protocol's messages carry no contents: they name them by a version and a number, and with both the bytes are known.
use Rattle.std.specs.Prelude.{ℕ, List}
use Rattle.partition_protocol.specs.Messages.{Message, NewRow, Sync as SyncMessage, Effect as EffectMessage, Bridge as BridgeMessage, Ack as AckMessage, Joined as JoinedMessage, Freeze as FreezeMessage, Frozen as FrozenMessage, Sent}
use Rattle.partition_protocol.specs.Took.{Took as ProtocolTook, Adopted as WasAdopted, Synced as WasSynced, Applied as WasApplied, Bridged as WasBridged, Acked as WasAcked, Frozen as WasFrozen, Joined as WasJoined, Drained as WasDrained, Already as WasAlready, Gap as WasGap, Other as WasOther, Stale as WasStale, Dropped as WasDropped}
use Rattle.member_wire.specs.declared.message.MemberMessage.{MemberMessage}
use Rattle.member_wire.specs.declared.message.MemberMessage.TheVariants as said
use Rattle.member_wire.specs.declared.took.Took.{Took}
use Rattle.member_wire.specs.declared.took.Took.TheVariants.{Adopted, Synced, Applied, Bridged, Acked, Frozen, Joined, Drained, Already, Gap, Other, Stale, Dropped}
use Rattle.member_wire.specs.Spelling.{spelling}

-- contents by the version and the count, or number, that name them
pub record Contents : Type 0 where
  pub snapshot : ℕ → ℕ → List ℕ
  pub effect : ℕ → ℕ → List ℕ

-- the message with its contents
abbrev pub said_with : Contents → Message → MemberMessage
said_with k (NewRow row) = said.NewRow row
said_with k (SyncMessage row count) = said.Sync row count (k.snapshot row.version count)
said_with k (EffectMessage version number) = said.Effect version number (k.effect version number)
said_with k (BridgeMessage row base count) = said.Bridge row base count
said_with k (AckMessage version count) = said.Ack version count
said_with k (JoinedMessage version member) = said.Joined version member
said_with k (FreezeMessage version) = said.Freeze version
said_with k (FrozenMessage version) = said.Frozen version

-- what is put into an outbox for a message: to whom, and its bytes
abbrev pub written : Contents → Sent → ℕ × List ℕ
written k sent = (sent.to, spelling (said_with k sent.message))

-- the message without its contents
abbrev pub message_of : MemberMessage → Message
message_of (said.NewRow row) = NewRow row
message_of (said.Sync row count snapshot) = SyncMessage row count
message_of (said.Effect version number effect) = EffectMessage version number
message_of (said.Ack version count) = AckMessage version count
message_of (said.Joined version member) = JoinedMessage version member
message_of (said.Freeze version) = FreezeMessage version
message_of (said.Frozen version) = FrozenMessage version
message_of (said.Bridge row base count) = BridgeMessage row base count

abbrev pub took_of : Took → ProtocolTook
took_of Adopted = WasAdopted
took_of Synced = WasSynced
took_of Applied = WasApplied
took_of Bridged = WasBridged
took_of Acked = WasAcked
took_of Frozen = WasFrozen
took_of Joined = WasJoined
took_of Drained = WasDrained
took_of Already = WasAlready
took_of Gap = WasGap
took_of Other = WasOther
took_of Stale = WasStale
took_of Dropped = WasDropped
