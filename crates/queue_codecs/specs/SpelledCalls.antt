-- Which calls are read, and the messages that spell each of them.
use Rattle.std.specs.Prelude.{◌≡◌, ℕ, ◌<◌, ℤ, pos, List, [], ◌∷◌, ◌++◌, length, drop, Some}
use Rattle.std.specs.Str.{IsUtf8}
use Rattle.std.specs.Int.{w32, to_le_bytes}
use Rattle.grid_base.specs.Names.{queue_of}
use Rattle.grid_base.specs.declared.TheConstants.{PARTITIONS}
use Rattle.grid_base.specs.declared.calls.QueueCall.{QueueCall}
use Rattle.grid_base.specs.declared.calls.QueueCall.TheVariants.{Offer, Poll, Peek, Size, RemainingCapacity, Clear}
use Rattle.frame_codec.specs.declared.frames.Frame.{Frame}
use Rattle.fixed_fields.specs.Fields.{int32_at, int32_bytes}
use Rattle.fixed_fields.specs.Responses.{unfragmented}
use Rattle.fixed_fields.specs.Spelled.{request_head, HoldParts, with_parts}
use Rattle.message_frames.specs.Assembly.{first_payload}
use Rattle.message_frames.specs.declared.message.Message.{Message}
use Rattle.queue_codecs.specs.Calls.{offer_kind, size_kind, poll_kind, peek_kind, clear_kind, remaining_capacity_kind}

-- ---- what a call says

abbrev pub kind_of_call : QueueCall → ℕ
kind_of_call (Offer name value) = offer_kind
kind_of_call (Poll name) = poll_kind
kind_of_call (Peek name) = peek_kind
kind_of_call (Size name) = size_kind
kind_of_call (RemainingCapacity name) = remaining_capacity_kind
kind_of_call (Clear name) = clear_kind

-- what the frames behind the first hold
abbrev pub parts_of : QueueCall → List (List ℕ)
parts_of (Offer name value) = name ∷ value ∷ []
parts_of (Poll name) = name ∷ []
parts_of (Peek name) = name ∷ []
parts_of (Size name) = name ∷ []
parts_of (RemainingCapacity name) = name ∷ []
parts_of (Clear name) = name ∷ []

-- The calls that are read: a name is a text.
abbrev pub IsCall : QueueCall → Type 0
IsCall call = IsUtf8 (queue_of call)

-- ---- the messages that spell a call

-- The message states a partition, one from 0 to 270.
pub record IsPlaced (message : Message) : Type 0 where
  pub partition : ℕ
  pub within : partition < PARTITIONS
  pub stated : int32_at (first_payload message.frames) 12 ≡ Some (pos partition)

-- The first payload begins with the type, eight bytes for the correlation, and the partition, and the frames behind it with the parts.
-- What follows either doesn't count.
pub record Spells (message : Message) (call : QueueCall) : Type 0 where
  pub correlation : List ℕ
  pub eight : length correlation ≡ 8
  pub partition : ℕ
  pub within : partition < PARTITIONS
  pub more : List ℕ
  pub fields : first_payload message.frames ≡ (to_le_bytes w32 (kind_of_call call) ++ correlation ++ int32_bytes (pos partition)) ++ more
  pub parts : HoldParts (drop 1 message.frames) (parts_of call)

-- The message that a client sends, with any more bytes in its first frame, and any frames behind its parts.
abbrev pub call_message : ℤ → ℕ → QueueCall → List ℕ → List Frame → Message
call_message correlation partition call more behind =
    let payload = request_head (kind_of_call call) correlation (pos partition) ++ more in
    record { frames = record { flags = unfragmented; payload = payload } ∷ with_parts (parts_of call) behind }
