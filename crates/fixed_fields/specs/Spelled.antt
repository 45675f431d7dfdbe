-- What spells the parts of a request: the fields of its first payload, and the frames behind it.
use Rattle.std.specs.Prelude.{◌≡◌, ◌≢◌, ℕ, ℤ, List, [], ◌∷◌, ◌++◌, length, Option, Some, None, IsTrue, ⊤}
use Rattle.std.specs.Int.{w32, to_le_bytes}
use Rattle.frame_codec.specs.declared.frames.Frame.{Frame}
use Rattle.fixed_fields.specs.Fields.{int32_bytes, int64_bytes, uuid_bytes}
use Rattle.fixed_fields.specs.Frames.{content_of}
use Rattle.fixed_fields.specs.Responses.{final}
use Rattle.fixed_fields.specs.Structures.{is_plain}

-- the fields with which each request begins: its type, its correlation, and its partition
abbrev pub request_head : ℕ → ℤ → ℤ → List ℕ
request_head kind correlation partition = to_le_bytes w32 kind ++ int64_bytes correlation ++ int32_bytes partition

-- A UUID has one spelling. That there is none is spelled by any first byte but 0, and any 16 behind it.
abbrev pub SpellsUuid : Option ℕ → List ℕ → Type 0
SpellsUuid (Some uuid) field = field ≡ uuid_bytes (Some uuid)
SpellsUuid None [] = ⊥
SpellsUuid None (mark ∷ halves) = (mark ≢ 0) × (length halves ≡ 16)

-- a frame that begins and ends no structure, and isn't null, holds its payload
abbrev pub Holds : Frame → List ℕ → Type 0
Holds frame part = IsTrue (is_plain frame) × (content_of frame ≡ Some part)

-- The first of these frames hold the parts, one each.
abbrev pub HoldParts : List Frame → List (List ℕ) → Type 0
HoldParts frames [] = ⊤
HoldParts [] (part ∷ parts) = ⊥
HoldParts (frame ∷ frames) (part ∷ parts) = Holds frame part × HoldParts frames parts

-- Frames as a client sends them: one for each part, and any others behind. The last part is the message's last frame where none is behind it.
abbrev pub with_parts : List (List ℕ) → List Frame → List Frame
with_parts [] behind = behind
with_parts (part ∷ []) [] = record { flags = final; payload = part } ∷ []
with_parts (part ∷ parts) behind = record { flags = 0; payload = part } ∷ with_parts parts behind
