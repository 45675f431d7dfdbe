-- Frames as they are read from a stream of bytes: a function of all its bytes so far, however they were cut.
use Rattle.std.specs.Prelude.{ℕ, zero, suc, ◌+◌, if◌then◌else◌, List, [], ◌∷◌, length, take, drop, Option, Some, None, nat_lt}
use Rattle.std.specs.Int.{w16, w32, from_le_bytes}
use Rattle.frame_codec.specs.Frames.{frame_length}
use Rattle.frame_codec.specs.declared.frames.Frame.{Frame}
use Rattle.frame_codec.specs.declared.frames.PlacedFrame.{PlacedFrame}
use Rattle.frame_codec.specs.declared.frames.TheConstants.{HEADER_LENGTH, MAX_FRAME_LENGTH}
use Rattle.frame_codec.specs.declared.malformed.Malformed.{Malformed}
use Rattle.frame_codec.specs.declared.malformed.Why.{Why}
use Rattle.frame_codec.specs.declared.malformed.Why.TheVariants.{TooShort, TooLong}

-- what a text begins with: a part of a frame, a whole frame, or a length that no frame has
pub data Front : Type 0 where
  Partial : Front
  Whole : (frame : Frame) → Front
  Wrong : (why : Why) → Front

-- the length that the first four bytes state
abbrev pub stated_length : List ℕ → ℕ
stated_length text = from_le_bytes w32 (take 4 text)

-- the frame that the first bytes spell, as many as its length says
abbrev pub frame_of : List ℕ → Frame
frame_of text = record { flags = from_le_bytes w16 (take 2 (drop 4 text)); payload = drop HEADER_LENGTH (take (stated_length text) text) }

-- A length out of its limits shows at its fourth byte, whatever follows.
abbrev pub front : List ℕ → Front
front text =
    if nat_lt (length text) 4 then Partial
    else if nat_lt (stated_length text) HEADER_LENGTH then Wrong TooShort
    else if nat_lt MAX_FRAME_LENGTH (stated_length text) then Wrong TooLong
    else if nat_lt (length text) (stated_length text) then Partial
    else Whole (frame_of text)

-- what is read of a text: its whole frames with their places, the first fault, and the bytes after the last whole frame
pub record Reading : Type 0 where
  pub frames : List PlacedFrame
  pub fault : Option Malformed
  pub rest : List ℕ

abbrev pub with_frame : ℕ → Frame → Reading → Reading
with_frame at frame r = record r { frames = record { at = at; frame = frame } ∷ r.frames }

-- The first number bounds how many frames are looked for. A text has no more than bytes.
abbrev pub reading_within : ℕ → ℕ → List ℕ → Reading
reading_within zero at text = record { frames = []; fault = None; rest = text }
reading_within (suc bound) at text =
    elim (front text) [
      | Partial ↦ record { frames = []; fault = None; rest = text }
      | Wrong why ↦ record { frames = []; fault = Some (record { at = at; why = why }); rest = text }
      | Whole frame ↦ with_frame at frame (reading_within bound (at + frame_length frame) (drop (frame_length frame) text))
    ]

-- the reading of a text whose first byte has a place in its stream
unfoldable pub reading : ℕ → List ℕ → Reading
reading at text = reading_within (length text) at text
