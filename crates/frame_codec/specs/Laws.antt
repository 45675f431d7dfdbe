-- What holds of frames as they are written and read.
use Rattle.std.specs.Prelude.{◌≡◌, ◌≢◌, ℕ, ◌+◌, ◌-◌, ◌^◌, ◌<◌, ◌≤◌, List, [], ◌∷◌, ◌++◌, length, map, All, Some, None}
use Rattle.std.specs.List.{flat_map}
use Rattle.frame_codec.specs.Frames.{frame_bytes, frame_length}
use Rattle.frame_codec.specs.Reading.{Reading, Whole, front, reading}
use Rattle.frame_codec.specs.FrameReaders.{shown, fault_of, next_place, standing}
use Rattle.frame_codec.specs.declared.frames.Frame.{Frame}
use Rattle.frame_codec.specs.declared.frames.PlacedFrame.{PlacedFrame}
use Rattle.frame_codec.specs.declared.frames.TheConstants.{MAX_PAYLOAD}
use Rattle.frame_codec.specs.declared.malformed.Malformed.{Malformed}

abbrev pub IsBytes : List ℕ → Type 0
IsBytes text = All (λ byte. byte < 256) text

abbrev pub IsWithinLimits : Frame → Type 0
IsWithinLimits frame = (frame.flags < 2 ^ 16) × (length frame.payload ≤ MAX_PAYLOAD)

-- frames one after the other, as bytes and with their places

abbrev pub spelled : List Frame → List ℕ
spelled frames = flat_map frame_bytes frames

abbrev pub placed : ℕ → List Frame → List PlacedFrame
placed at [] = []
placed at (frame ∷ frames) = record { at = at; frame = frame } ∷ placed (at + frame_length frame) frames

abbrev pub unplaced : List PlacedFrame → List Frame
unplaced frames = map (λ placed. placed.frame) frames

-- A text that begins with no whole frame: a part of one, or a length that none has.
abbrev pub BeginsWithNoFrame : List ℕ → Type 0
BeginsWithNoFrame text = (frame : Frame) → front text ≢ Whole frame

-- Of frames within the limits, one after the other, and a rest that begins with no frame, exactly the frames are read.
abbrev pub written_frames_are_read : Type 0
written_frames_are_read =
    (at : ℕ) (frames : List Frame) (rest : List ℕ) → All IsWithinLimits frames → BeginsWithNoFrame rest →
    reading at (spelled frames ++ rest)
    ≡ record { frames = placed at frames; fault = shown (at + length (spelled frames)) (front rest); rest = rest }

-- A text is the spellings of the frames that are read of it, and a rest.
pub record IsSpelledBy (at : ℕ) (text : List ℕ) (r : Reading) : Type 0 where
  pub whole : text ≡ spelled (unplaced r.frames) ++ r.rest
  pub places : r.frames ≡ placed at (unplaced r.frames)
  pub limits : All IsWithinLimits (unplaced r.frames)
  pub rest_is_none : BeginsWithNoFrame r.rest

abbrev pub read_frames_are_spelled : Type 0
read_frames_are_spelled = (at : ℕ) (text : List ℕ) → IsBytes text → IsSpelledBy at text (reading at text)

-- No spelling of a frame begins another's, but its own.
abbrev pub no_frame_begins_another : Type 0
no_frame_begins_another =
    (a b : Frame) (more : List ℕ) → IsWithinLimits a → IsWithinLimits b → frame_bytes a ++ more ≡ frame_bytes b → (a ≡ b) × (more ≡ [])

-- a text read on: what more bytes add to the reading of the bytes before them
abbrev pub read_on : Reading → Reading → Reading
read_on before after = record after { frames = before.frames ++ after.frames }

-- Without a fault the bytes after the last whole frame are read on with those that follow.
abbrev pub reading_goes_on : Type 0
reading_goes_on =
    (at : ℕ) (text more : List ℕ) → fault_of at text ≡ None →
    let r = reading at text in reading at (text ++ more) ≡ read_on r (reading (at + (length text - length r.rest)) (r.rest ++ more))

-- After a fault no more is read.
abbrev pub a_fault_ends_reading : Type 0
a_fault_ends_reading =
    (at : ℕ) (text more : List ℕ) (fault : Malformed) → fault_of at text ≡ Some fault →
    reading at (text ++ more) ≡ record (reading at text) { rest = (reading at text).rest ++ more }

-- The next byte of a reader is no later than the next of its stream.
abbrev pub a_reader_is_within_its_stream : Type 0
a_reader_is_within_its_stream = (at : ℕ) (text : List ℕ) → next_place (standing at text) ≤ at + length text
