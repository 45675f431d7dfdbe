-- How a message is read as an authentication: a client says who it is, and which cluster it wants.
use Rattle.std.specs.Prelude.{ℕ, List, drop, Option, Some, Result}
use Rattle.std.specs.Option.{ok_or}
use Rattle.grid_base.specs.declared.refusal.CallRefused.{CallRefused}
use Rattle.grid_base.specs.declared.refusal.CallRefused.TheVariants.{BadCall}
use Rattle.frame_codec.specs.declared.frames.Frame.{Frame}
use Rattle.fixed_fields.specs.Fields.{uuid_at, byte_at}
use Rattle.fixed_fields.specs.Requests.{◌>>=◌, text_in}
use Rattle.message_frames.specs.Assembly.{first_payload}
use Rattle.message_frames.specs.declared.message.Message.{Message}
use Rattle.client_codecs.specs.declared.authentications.Authentication.{Authentication}

-- A message type is service × 65,536 + method × 256 + kind: service 0 is that of the client itself, and kind 0 a request.
abbrev pub authentication_kind : ℕ
authentication_kind = 0x000100

abbrev pub ping_kind : ℕ
ping_kind = 0x000b00

-- The first payload has the client's UUID, or that it has none, and the serialization's version, which only has to be there.
-- The frame behind it holds the cluster's name. Bytes and frames behind these are ignored.
abbrev pub authentication_in : List ℕ → List Frame → Option Authentication
authentication_in payload frames = do
  client ← uuid_at payload 16
  version ← byte_at payload 33
  name ← text_in frames
  Some (record { client = client; name = name })

-- the authentication that a message of this type is; one of which a part can't be read is a bad call
unfoldable pub authentication_of : Message → Result Authentication CallRefused
authentication_of message = ok_or (authentication_in (first_payload message.frames) (drop 1 message.frames)) BadCall
