-- How a member's answers begin, as bytes, and the answers of one frame.
use Rattle.std.specs.Prelude.{ℕ, ◌+◌, ℤ, List, [], ◌∷◌, ◌++◌, Option, Some, None}
use Rattle.std.specs.Int.{w32, to_le_bytes}
use Rattle.frame_codec.specs.Frames.{frame_bytes}
use Rattle.fixed_fields.specs.Fields.{int32_bytes, int64_bytes}

-- the flags of an unfragmented message's first frame, of a last frame, of a last frame that stands for null, and of a message of one frame
abbrev pub unfragmented : ℕ
unfragmented = 0xC000

abbrev pub final : ℕ
final = 0x2000

abbrev pub last_null : ℕ
last_null = 0x2400

abbrev pub single : ℕ
single = 0xE000

abbrev pub framed : ℕ → List ℕ → List ℕ
framed flags payload = frame_bytes (record { flags = flags; payload = payload })

-- A response's first payload has its type, the correlation of its request, and the count of backups that acknowledged, which is always 0.
abbrev pub head_bytes : ℕ → ℤ → List ℕ
head_bytes kind correlation = to_le_bytes w32 kind ++ int64_bytes correlation ++ 0 ∷ []

-- The response to a request has the request's type and 1. Its fixed fields follow the head.
abbrev pub response_head : ℕ → ℤ → List ℕ
response_head kind correlation = head_bytes (kind + 1) correlation

-- a response of one frame, with these bytes behind the head
abbrev pub response_of : ℕ → ℤ → List ℕ → List ℕ
response_of kind correlation fields = framed single (response_head kind correlation ++ fields)

-- a response that says no more than that it was done
abbrev pub void_bytes : ℕ → ℤ → List ℕ
void_bytes kind correlation = response_of kind correlation []

-- A value, or null, is a last frame of its own.
abbrev pub nullable_frame : Option (List ℕ) → List ℕ
nullable_frame None = framed last_null []
nullable_frame (Some value) = framed final value

-- An error has type 0, its number, and two numbers that say more of it.
abbrev pub error_bytes : ℤ → ℤ → ℤ → ℤ → List ℕ
error_bytes correlation code first second = framed single (head_bytes 0 correlation ++ int32_bytes code ++ int32_bytes first ++ int32_bytes second)
