-- What is heard on a connection as more bytes come.
use Rattle.std.proofs.Common.{ℕ, zero, suc, ◌+◌, ◌*◌, ◌≤◌, true, List, [], ◌++◌, length, drop, Option, Some, None, sym, ap, subst, arith, length-append, length-drop}
use Rattle.frame_codec.specs.Frames.{frame_length}
use Rattle.frame_codec.specs.Reading.{front, frame_of, reading_within, reading}
use Rattle.frame_codec.specs.declared.frames.Frame.{Frame}
use Rattle.frame_codec.specs.declared.malformed.Why.TheVariants.{Prefix}
use Rattle.frame_codec.proofs.Fronts.{FrontCase, early, too_short, too_long, begun, whole, front_cases}
use Rattle.frame_codec.proofs.Readings.{read_by, frame_length-frame_of, stated_within}
use Rattle.partition_protocol.specs.Sequences.{IsFrontOf}
use Rattle.message_frames.specs.Assembly.{nothing_yet}
use Rattle.message_frames.specs.Messages.{prefix_of, shortest_start, differing, Heard, heard_after_prefix, heard, messages_of}
use Rattle.message_frames.proofs.Counting.{messages_assembled}
use Rattle.message_frames.proofs.Staying.{heard_messages_stay}

-- The messages of a front are a front.
pub messages_front : (text more : List ℕ) → IsFrontOf (messages_of true text) (messages_of true (text ++ more))
messages_front text more = let grown = heard_messages_stay true text more in (grown.0, sym grown.1)

pub no_fewer : (text more : List ℕ) → length (messages_of true text) ≤ length (messages_of true (text ++ more))
no_fewer text more =
    let front = messages_front text more in
    let whole = ap length (sym front.1) in
    let parts = length-append (messages_of true text) front.0 in
    omega (arith, whole, parts)

-- how many bytes a frame's header has
abbrev pub header : ℕ
header = 6

frames_sized : (bound at : ℕ) (text : List ℕ) → header * length (reading_within bound at text).frames ≤ length text
frames_sized zero at text = omega arith
frames_sized (suc bound) at text = go (front_cases text) (λ frame. frames_sized bound (at + frame_length frame) (drop (frame_length frame) text))
  where
    go : FrontCase text
        → ((frame : Frame) → header * length (reading_within bound (at + frame_length frame) (drop (frame_length frame) text)).frames ≤ length (drop (frame_length frame) text))
        → header * length (read_by (front text) at text (reading_within bound)).frames ≤ length text
    go (early few is) later = subst (λ f. header * length (read_by f at text (reading_within bound)).frames ≤ length text) (sym is) (omega arith)
    go (too_short there under is) later = subst (λ f. header * length (read_by f at text (reading_within bound)).frames ≤ length text) (sym is) (omega arith)
    go (too_long there over is) later = subst (λ f. header * length (read_by f at text (reading_within bound)).frames ≤ length text) (sym is) (omega arith)
    go (begun there least most short is) later = subst (λ f. header * length (read_by f at text (reading_within bound)).frames ≤ length text) (sym is) (omega arith)
    go (whole there least most full is) later =
        let rest = later (frame_of text) in
        let its = frame_length-frame_of text least full in
        let within = stated_within text least full in
        let dropped = length-drop (frame_length (frame_of text)) text in
        subst (λ f. header * length (read_by f at text (reading_within bound)).frames ≤ length text) (sym is) (omega (arith, rest, its, within, dropped, least))

reading_sized : (at : ℕ) (text : List ℕ) → header * length (reading at text).frames ≤ length text
unfolding reading
reading_sized at text = frames_sized (length text) at text

abbrev heard_on : List ℕ → Option ℕ → Heard
heard_on text found = elim found [
  | Some at ↦ record { messages = []; fault = Some (record { at = at; why = Prefix }) }
  | None ↦ heard_after_prefix true text
]

-- Each message has a frame, and each frame has the bytes of its header.
pub messages_sized : (text : List ℕ) → header * length (messages_of true text) ≤ length text
unfolding heard
messages_sized text = go (differing 0 (prefix_of true) text)
  where
    go : (found : Option ℕ) → header * length (heard_on text found).messages ≤ length text
    go (Some at) = omega arith
    go None =
        let n = length (prefix_of true) in
        let frames = reading_sized n (drop n text) in
        let messages = messages_assembled (shortest_start true) (reading n (drop n text)).frames nothing_yet in
        let rest = length-drop n text in
        omega (arith, frames, messages, rest)
