-- Which authentications are read, and the messages that spell each of them.
use Rattle.std.specs.Prelude.{◌≡◌, ℕ, ◌^◌, ◌<◌, ℤ, List, [], ◌∷◌, ◌++◌, length, drop, IfSome}
use Rattle.std.specs.Str.{IsUtf8}
use Rattle.frame_codec.specs.declared.frames.Frame.{Frame}
use Rattle.fixed_fields.specs.Fields.{uuid_bytes}
use Rattle.fixed_fields.specs.Responses.{unfragmented}
use Rattle.fixed_fields.specs.Spelled.{request_head, SpellsUuid, HoldParts, with_parts}
use Rattle.message_frames.specs.Assembly.{first_payload}
use Rattle.message_frames.specs.declared.message.Message.{Message}
use Rattle.client_codecs.specs.Authentications.{authentication_kind}
use Rattle.client_codecs.specs.declared.authentications.Authentication.{Authentication}

-- a UUID has 128 bits, and a name is a text
pub record IsAuthentication (a : Authentication) : Type 0 where
  pub fits : IfSome a.client (λ uuid. uuid < 2 ^ 128)
  pub text : IsUtf8 a.name

-- The first payload begins with sixteen bytes for the type, the correlation and the partition, then the client's UUID, and a byte for the serialization's version.
-- The frame behind it holds the name. What follows either doesn't count.
pub record Spells (message : Message) (a : Authentication) : Type 0 where
  pub before : List ℕ
  pub sixteen : length before ≡ 16
  pub client : List ℕ
  pub uuid : SpellsUuid a.client client
  pub version : ℕ
  pub more : List ℕ
  pub fields : first_payload message.frames ≡ before ++ client ++ version ∷ more
  pub parts : HoldParts (drop 1 message.frames) (a.name ∷ [])

-- The message that a client sends, with any more bytes in its first frame, and any frames behind the name.
abbrev pub authentication_message : ℤ → ℤ → ℕ → Authentication → List ℕ → List Frame → Message
authentication_message correlation partition version a more behind =
    let payload = request_head authentication_kind correlation partition ++ uuid_bytes a.client ++ version ∷ more in
    record { frames = record { flags = unfragmented; payload = payload } ∷ with_parts (a.name ∷ []) behind }
