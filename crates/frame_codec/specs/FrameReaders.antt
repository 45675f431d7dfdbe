-- What a reader of frames stands for: all bytes of its stream so far, however they were cut.
use Rattle.std.specs.Prelude.{◌≡◌, ℕ, ◌+◌, ◌-◌, ◌<◌, ◌≤◌, List, length, take, Option, Some, None}
use Rattle.frame_codec.specs.Reading.{Front, Partial, Whole, Wrong, front, reading, stated_length}
use Rattle.frame_codec.specs.declared.frames.PlacedFrame.{PlacedFrame}
use Rattle.frame_codec.specs.declared.frames.TheConstants.{HEADER_LENGTH, MAX_FRAME_LENGTH}
use Rattle.frame_codec.specs.declared.malformed.Malformed.{Malformed}

-- The frame in progress: the place of its first byte, and its bytes so far. After the stream's first fault they are the four that show it.
pub record InProgress : Type 0 where
  pub at : ℕ
  pub bytes : List ℕ
  pub fault : Option Malformed

-- the place of the next byte, unless a fault has shown
abbrev pub next_place : InProgress → ℕ
next_place reader = reader.at + length reader.bytes

-- the fault that a frame's first bytes show, the frame being at that place
abbrev pub shown : ℕ → Front → Option Malformed
shown at Partial = None
shown at (Whole frame) = None
shown at (Wrong why) = Some (record { at = at; why = why })

abbrev pub in_progress : ℕ → List ℕ → InProgress
in_progress at bytes = record { at = at; bytes = bytes; fault = shown at (front bytes) }

-- A frame isn't whole with so many bytes: its length, once it is there and more follows, is within the limits and isn't reached.
abbrev pub HasRoom : ℕ → ℕ → Type 0
HasRoom stated n = 4 < n → (HEADER_LENGTH ≤ stated) × (stated ≤ MAX_FRAME_LENGTH) × (n < stated)

-- No whole frame: the length, once it is there and more follows, is within the limits and isn't reached.
abbrev pub IsUnfinished : List ℕ → Type 0
IsUnfinished bytes = HasRoom (stated_length bytes) (length bytes)

-- what is read of all bytes

abbrev pub frames_of : ℕ → List ℕ → List PlacedFrame
frames_of at text = (reading at text).frames

abbrev pub fault_of : ℕ → List ℕ → Option Malformed
fault_of at text = (reading at text).fault

-- Of the bytes after the last whole frame a reader keeps all, or after a fault those that show it.
abbrev pub kept : Option Malformed → List ℕ → List ℕ
kept None rest = rest
kept (Some fault) rest = take 4 rest

-- a reader after a text whose first byte has a place in its stream
unfoldable pub standing : ℕ → List ℕ → InProgress
standing at text =
    let r = reading at text in
    record { at = at + (length text - length r.rest); bytes = kept r.fault r.rest; fault = r.fault }

abbrev pub StandsFor : InProgress → ℕ → List ℕ → Type 0
StandsFor reader at text = reader ≡ standing at text
