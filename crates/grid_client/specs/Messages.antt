-- What the messages that a client hears say.
use Rattle.std.specs.Prelude.{ℕ, ◌==◌, ℤ, if◌then◌else◌, List, drop, Option, Some, None}
use Rattle.std.specs.Result.{result_ok}
use Rattle.frame_codec.specs.Laws.{spelled}
use Rattle.fixed_fields.specs.Fields.{byte_at, int32_at, int64_at, uuid_at}
use Rattle.fixed_fields.specs.Frames.{next_nullable}
use Rattle.fixed_fields.specs.Requests.{◌>>=◌, kind_of}
use Rattle.message_frames.specs.Assembly.{first_payload}
use Rattle.message_frames.specs.declared.message.Message.{Message}
use Rattle.grid_client.specs.declared.messages.Head.{Head}

abbrev pub payload_of : Message → List ℕ
payload_of message = first_payload message.frames

-- its type and its correlation
abbrev pub head_of : Message → Option Head
head_of message = do
  kind ← kind_of (payload_of message)
  correlation ← int64_at (payload_of message) 4
  Some (record { kind = kind; correlation = correlation })

-- An error has type 0 and a code.
abbrev pub code_of : ℕ → Message → Option ℤ
code_of kind message = if kind == 0 then int32_at (payload_of message) 13 else None

-- the value that the answer to a get brings, which may be null
abbrev pub value_of : Message → Option (Option (List ℕ))
value_of message = result_ok (next_nullable (drop 1 message.frames))

-- its frames as they came, one after the other
abbrev pub bytes_of : Message → List ℕ
bytes_of message = spelled message.frames

-- Where an authentication was accepted, the answer has the status 0 and tells the member's UUID, which may be none.
abbrev pub accepted_of : Message → Option (Option ℕ)
accepted_of message = do
  status ← byte_at (payload_of message) 13
  if status == 0 then uuid_at (payload_of message) 14 else None
