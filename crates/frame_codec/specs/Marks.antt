-- A way back over one feed.
use Rattle.std.specs.Prelude.{◌≡◌, ℕ, ◌+◌, List, [], ◌∷◌, ◌++◌, length, take, drop, Option, Some, None}
use Rattle.frame_codec.specs.FrameReaders.{InProgress, StandsFor, standing, in_progress, frames_of}
use Rattle.frame_codec.specs.declared.frames.Frame.{Frame}
use Rattle.frame_codec.specs.declared.frames.PlacedFrame.{PlacedFrame}
use Rattle.frame_codec.specs.declared.frames.TheConstants.{HEADER_LENGTH}
use Rattle.frame_codec.specs.declared.marks.PartialMark.{PartialMark}
use Rattle.frame_codec.specs.declared.marks.FrameMark.{FrameMark}

-- A mark of a frame's first bytes has their header, and the length of their payload.
pub record IsPartialMarkOf (mark : PartialMark) (bytes : List ℕ) : Type 0 where
  pub header : take mark.count mark.header ≡ take HEADER_LENGTH bytes
  pub length : mark.count + mark.payload ≡ length bytes

-- the bytes at a mark, whose payload is the front of these
abbrev pub bytes_at : PartialMark → List ℕ → List ℕ
bytes_at mark payload = take mark.count mark.header ++ take mark.payload payload

-- the payload in progress at a mark and what came after it: in the first frame that was taken since then, or still in progress
abbrev pub payload_since : Option Frame → List ℕ → List ℕ
payload_since None bytes = drop HEADER_LENGTH bytes
payload_since (Some frame) bytes = frame.payload

abbrev pub first_frame : List PlacedFrame → Option Frame
first_frame [] = None
first_frame (first ∷ frames) = Some first.frame

-- A mark of a reader has the place and the mark of the frame in progress.
abbrev pub IsMarkOf : FrameMark → InProgress → Type 0
IsMarkOf mark reader = (mark.at ≡ reader.at) × IsPartialMarkOf mark.partial reader.bytes

-- A reader that goes back to a mark, where that frame was taken first since then.
abbrev pub back_at : FrameMark → Option Frame → InProgress → InProgress
back_at mark first reader = in_progress mark.at (bytes_at mark.partial (payload_since first reader.bytes))

-- When the mark was taken the reader stood for a text. Since then it was fed a piece, and gave these frames.
pub record IsFedSince (mark : FrameMark) (reader : InProgress) (frames : List PlacedFrame) (at : ℕ) (text piece : List ℕ) : Type 0 where
  pub marked : IsMarkOf mark (standing at text)
  pub fed : StandsFor reader at (text ++ piece)
  pub given : frames_of at text ++ frames ≡ frames_of at (text ++ piece)
