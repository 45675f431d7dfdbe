-- Which waiting calls are read, and the messages that spell each of them.
use Rattle.std.specs.Prelude.{◌≡◌, ℕ, ◌<◌, ℤ, pos, List, ◌∷◌, ◌++◌, length, drop, Option, Some, None}
use Rattle.std.specs.Int.{w32, w64, to_le_bytes}
use Rattle.std.specs.Int.RustNames.{FitsSigned}
use Rattle.grid_base.specs.declared.TheConstants.{PARTITIONS}
use Rattle.grid_base.specs.declared.calls.QueueCall.{QueueCall}
use Rattle.grid_base.specs.declared.calls.QueueCall.TheVariants.{Offer, Poll}
use Rattle.frame_codec.specs.declared.frames.Frame.{Frame}
use Rattle.fixed_fields.specs.Fields.{int32_bytes, int64_bytes}
use Rattle.fixed_fields.specs.Responses.{unfragmented}
use Rattle.fixed_fields.specs.Spelled.{request_head, HoldParts, with_parts}
use Rattle.message_frames.specs.Assembly.{first_payload}
use Rattle.message_frames.specs.declared.message.Message.{Message}
use Rattle.queue_codecs.specs.SpelledCalls.{parts_of, IsCall}
use Rattle.queue_codecs.specs.Waits.{offer_wait_kind, poll_wait_kind, Wait}

-- the type under which a call may wait, where it may
abbrev pub kind_of_wait : QueueCall → Option ℕ
kind_of_wait (Offer name value) = Some offer_wait_kind
kind_of_wait (Poll name) = Some poll_wait_kind
kind_of_wait _ = None

-- a call that is read, and a timeout of its size
pub record IsWait (wait : Wait) : Type 0 where
  pub call : IsCall wait.0
  pub timeout : FitsSigned w64 wait.1

-- The first payload begins with the type, eight bytes for the correlation, the partition and the timeout, and the frames behind it with the parts.
-- What follows either doesn't count.
pub record SpellsWait (message : Message) (wait : Wait) : Type 0 where
  pub kind : ℕ
  pub may : kind_of_wait wait.0 ≡ Some kind
  pub correlation : List ℕ
  pub eight : length correlation ≡ 8
  pub partition : ℕ
  pub within : partition < PARTITIONS
  pub more : List ℕ
  pub fields : first_payload message.frames ≡ (to_le_bytes w32 kind ++ correlation ++ int32_bytes (pos partition) ++ int64_bytes wait.1) ++ more
  pub parts : HoldParts (drop 1 message.frames) (parts_of wait.0)

-- The message of that type that a client sends, with any more bytes in its first frame, and any frames behind its parts.
abbrev pub wait_message : ℤ → ℕ → ℕ → Wait → List ℕ → List Frame → Message
wait_message correlation partition kind wait more behind =
    let payload = (request_head kind correlation (pos partition) ++ int64_bytes wait.1) ++ more in
    record { frames = record { flags = unfragmented; payload = payload } ∷ with_parts (parts_of wait.0) behind }
