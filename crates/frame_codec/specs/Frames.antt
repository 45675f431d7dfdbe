-- Frames as bytes.
use Rattle.std.specs.Prelude.{ℕ, ◌+◌, List, ◌++◌, length}
use Rattle.std.specs.Int.{w16, w32, to_le_bytes}
use Rattle.frame_codec.specs.declared.frames.Frame.{Frame}
use Rattle.frame_codec.specs.declared.frames.TheConstants.{HEADER_LENGTH}

-- The length of a frame counts its header too.
abbrev pub frame_length : Frame → ℕ
frame_length frame = HEADER_LENGTH + length frame.payload

-- A frame is spelled as its length, its flags and its payload; both numbers have their low byte first.
abbrev pub frame_bytes : Frame → List ℕ
frame_bytes frame = to_le_bytes w32 (frame_length frame) ++ to_le_bytes w16 frame.flags ++ frame.payload
