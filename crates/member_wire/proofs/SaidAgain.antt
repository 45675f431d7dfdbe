-- What is written for a message says that message.
use Rattle.std.proofs.Common.{◌≡◌, refl}
use Rattle.partition_protocol.specs.Messages.{Message, NewRow, Sync, Effect, Bridge, Ack, Joined, Freeze, Frozen}
use Rattle.member_wire.specs.Said.{Contents, message_of, said_with}

pub message_of-said_with : (k : Contents) (m : Message) → message_of (said_with k m) ≡ m
message_of-said_with k (NewRow row) = refl
message_of-said_with k (Sync row count) = refl
message_of-said_with k (Effect version number) = refl
message_of-said_with k (Bridge row base count) = refl
message_of-said_with k (Ack version count) = refl
message_of-said_with k (Joined version member) = refl
message_of-said_with k (Freeze version) = refl
message_of-said_with k (Frozen version) = refl
