-- Which waiting calls are read, and the messages that spell each of them.
use Rattle.std.specs.Prelude.{◌≡◌, ℕ, ℤ, List, [], ◌∷◌, ◌++◌, length, drop, Option, Some, None}
use Rattle.std.specs.List.{flat_map}
use Rattle.std.specs.Int.{w32, w64, to_le_bytes}
use Rattle.std.specs.Int.RustNames.{FitsSigned}
use Rattle.grid_base.specs.declared.names.ClientKey.{ClientKey}
use Rattle.grid_base.specs.declared.calls.MapCall.{MapCall}
use Rattle.grid_base.specs.declared.calls.MapCall.TheVariants.{Put, TryLock}
use Rattle.frame_codec.specs.declared.frames.Frame.{Frame}
use Rattle.fixed_fields.specs.Fields.{int64_bytes}
use Rattle.fixed_fields.specs.Responses.{unfragmented}
use Rattle.fixed_fields.specs.Spelled.{request_head, HoldParts, with_parts}
use Rattle.message_frames.specs.Assembly.{first_payload}
use Rattle.message_frames.specs.declared.message.Message.{Message}
use Rattle.map_codecs.specs.SpelledCalls.{numbers_of, parts_of, IsCallOf}
use Rattle.map_codecs.specs.Waits.{lock_wait_kind, put_wait_kind, Wait}

-- the type under which a call may wait, where it may
abbrev pub kind_of_wait : MapCall → Option ℕ
kind_of_wait (TryLock name key owner lease) = Some lock_wait_kind
kind_of_wait (Put name key owner value ttl) = Some put_wait_kind
kind_of_wait _ = None

-- the plain call's fields, and the timeout
abbrev pub wait_fields : Wait → List ℕ
wait_fields wait = flat_map int64_bytes (numbers_of wait.0 ++ wait.1 ∷ [])

-- It is a call of the client, and the timeout is a number of its size.
pub record IsWaitOf (client : ClientKey) (wait : Wait) : Type 0 where
  pub call : IsCallOf client wait.0
  pub timeout : FitsSigned w64 wait.1

-- The first payload begins with the type, twelve bytes for the correlation and the partition, and the fields, and the frames behind it with the parts.
-- What follows either doesn't count.
pub record SpellsWait (message : Message) (wait : Wait) : Type 0 where
  pub kind : ℕ
  pub may : kind_of_wait wait.0 ≡ Some kind
  pub between : List ℕ
  pub twelve : length between ≡ 12
  pub more : List ℕ
  pub fields : first_payload message.frames ≡ (to_le_bytes w32 kind ++ between ++ wait_fields wait) ++ more
  pub parts : HoldParts (drop 1 message.frames) (parts_of wait.0)

-- The message of that type that a client sends, with any more bytes in its first frame, and any frames behind its parts.
abbrev pub wait_message : ℤ → ℤ → ℕ → Wait → List ℕ → List Frame → Message
wait_message correlation partition kind wait more behind =
    let payload = (request_head kind correlation partition ++ wait_fields wait) ++ more in
    record { frames = record { flags = unfragmented; payload = payload } ∷ with_parts (parts_of wait.0) behind }
