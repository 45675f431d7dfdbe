-- A text has no more messages than bytes.
use Rattle.std.proofs.Common.{ℕ, zero, suc, ◌+◌, ◌≤◌, Bool, List, [], ◌∷◌, length, drop, Option, Some, None, arith, length-drop}
use Rattle.frame_codec.specs.Frames.{frame_length}
use Rattle.frame_codec.specs.Reading.{Front, Partial, Whole, Wrong, Reading, front, with_frame, reading_within, reading}
use Rattle.frame_codec.specs.declared.frames.Frame.{Frame}
use Rattle.frame_codec.specs.declared.frames.PlacedFrame.{PlacedFrame}
use Rattle.frame_codec.specs.declared.malformed.Why.TheVariants.{Prefix}
use Rattle.message_frames.specs.Assembly.{Assembly, Assembled, Step, Faulty, Goes, Gives, giving, assembled, step, nothing_yet}
use Rattle.message_frames.specs.Messages.{prefix_of, shortest_start, differing, Heard, heard_after_prefix, heard, messages_of}

-- frames

abbrev read_on : ℕ → ℕ → List ℕ → Front → Reading
read_on bound at text f = elim f [
  | Partial ↦ record { frames = []; fault = None; rest = text }
  | Wrong why ↦ record { frames = []; fault = Some (record { at = at; why = why }); rest = text }
  | Whole frame ↦ with_frame at frame (reading_within bound (at + frame_length frame) (drop (frame_length frame) text))
]

-- no more than are looked for
frames_within : (bound at : ℕ) (text : List ℕ) → length (reading_within bound at text).frames ≤ bound
frames_within zero at text = omega arith
frames_within (suc bound) at text = go (front text) (λ frame. frames_within bound (at + frame_length frame) (drop (frame_length frame) text))
  where
    go : (f : Front) → ((frame : Frame) → length (reading_within bound (at + frame_length frame) (drop (frame_length frame) text)).frames ≤ bound)
        → length (read_on bound at text f).frames ≤ suc bound
    go Partial h = omega arith
    go (Wrong why) h = omega arith
    go (Whole frame) h = let fewer = h frame in omega (arith, fewer)

pub frames_count : (at : ℕ) (text : List ℕ) → length (reading at text).frames ≤ length text
unfolding reading
frames_count at text = frames_within (length text) at text

-- messages

abbrev assembled_on : ℕ → List PlacedFrame → Assembly → Step → Assembled
assembled_on shortest frames s t = elim t [
  | Faulty fault ↦ record { messages = []; fault = Some fault; after = s }
  | Goes next ↦ assembled shortest frames next
  | Gives message next ↦ giving message (assembled shortest frames next)
]

-- A frame completes one message at most.
pub messages_assembled : (shortest : ℕ) (frames : List PlacedFrame) (s : Assembly) → length (assembled shortest frames s).messages ≤ length frames
messages_assembled shortest [] s = omega arith
messages_assembled shortest (frame ∷ frames) s = go (step shortest frame s) (λ next. messages_assembled shortest frames next)
  where
    go : (t : Step) → ((next : Assembly) → length (assembled shortest frames next).messages ≤ length frames)
        → length (assembled_on shortest frames s t).messages ≤ suc (length frames)
    go (Faulty fault) h = omega arith
    go (Goes next) h = let fewer = h next in omega (arith, fewer)
    go (Gives message next) h = let fewer = h next in omega (arith, fewer)

after_prefix : (prefix : Bool) (text : List ℕ) → length (heard_after_prefix prefix text).messages ≤ length text
after_prefix prefix text =
    let n = length (prefix_of prefix) in
    let frames = frames_count n (drop n text) in
    let messages = messages_assembled (shortest_start prefix) (reading n (drop n text)).frames nothing_yet in
    let rest = length-drop n text in
    omega (arith, frames, messages, rest)

abbrev heard_on : Bool → List ℕ → Option ℕ → Heard
heard_on prefix text found = elim found [
  | Some at ↦ record { messages = []; fault = Some (record { at = at; why = Prefix }) }
  | None ↦ heard_after_prefix prefix text
]

-- A text completes no more messages than it has bytes.
pub messages_count : (prefix : Bool) (text : List ℕ) → length (messages_of prefix text) ≤ length text
unfolding heard
messages_count prefix text = go (differing 0 (prefix_of prefix) text)
  where
    go : (found : Option ℕ) → length (heard_on prefix text found).messages ≤ length text
    go (Some at) = omega arith
    go None = after_prefix prefix text
