-- One step of a reader: a part of a frame, or the rest of one.
use Rattle.std.proofs.Common.{◌≡◌, ℕ, ◌+◌, ◌<◌, ◌≤◌, List, [], ◌∷◌, ◌++◌, length, take, None, sym, ◌∙◌, ap, subst, arith, length-append}
use Rattle.std.proofs.lemmas.List.{append-nil}
use Rattle.frame_codec.specs.Reading.{front, stated_length, frame_of}
use Rattle.frame_codec.specs.FrameReaders.{InProgress, in_progress, shown, IsUnfinished, frames_of, standing}
use Rattle.frame_codec.specs.Feeding.{Takes}
use Rattle.frame_codec.specs.declared.frames.PlacedFrame.{PlacedFrame}
use Rattle.frame_codec.proofs.Fronts.{FrontCase, early, too_short, too_long, begun, whole, front_cases, stated_length-append}
use Rattle.frame_codec.proofs.Standing.{read_unfinished, read_whole}
use Rattle.frame_codec.proofs.Feeds.{takes}

-- An unfinished frame without a fault that has its length: within the limits, and not all there.
pub open_frame : (at : ℕ) (bytes : List ℕ) → IsUnfinished bytes → shown at (front bytes) ≡ None → 4 ≤ length bytes →
    (6 ≤ stated_length bytes) × (stated_length bytes ≤ 1048576) × (length bytes < stated_length bytes)
open_frame at bytes room sound there = by_case (front_cases bytes)
  where
    by_case : FrontCase bytes → (6 ≤ stated_length bytes) × (stated_length bytes ≤ 1048576) × (length bytes < stated_length bytes)
    by_case (early few is) = absurd (omega arith)
    by_case (too_short there' under is) = absurd (cc (sound, ap (shown at) is))
    by_case (too_long there' over is) = absurd (cc (sound, ap (shown at) is))
    by_case (begun there' least most open_ is) = (least, most, open_)
    by_case (whole there' least most full is) = absurd (omega (arith, (room (omega arith)).2))

-- It took a part of a frame.
pub took_part : (old : InProgress) (given : List PlacedFrame) (at : ℕ) (bytes piece new : List ℕ) (n : ℕ) → in_progress at bytes ≡ old → old.fault ≡ None →
    new ≡ bytes ++ take n piece → IsUnfinished new → Takes old given (in_progress at new) given piece n
took_part old given at bytes piece new n is sound grown room =
    let was : old.bytes ++ take n piece ≡ new = ap (λ (s : InProgress). s.bytes ++ take n piece) (sym is) ∙ sym grown in
    let place : old.at ≡ at = ap (λ (s : InProgress). s.at) (sym is) in
    let read = read_unfinished at new room in
    subst (λ (fs : List PlacedFrame). Takes old given (in_progress at new) fs piece n) (append-nil given)
    (takes old given (in_progress at new) [] piece n sound
    (ap (λ (p : ℕ). standing p (old.bytes ++ take n piece)) place ∙ ap (standing at) was ∙ read.0)
    (ap (λ (p : ℕ). frames_of p (old.bytes ++ take n piece)) place ∙ ap (frames_of at) was ∙ read.1))

-- It took the rest of a frame, and gave it.
pub took_whole : (old : InProgress) (given : List PlacedFrame) (at : ℕ) (bytes piece new : List ℕ) (n : ℕ) → in_progress at bytes ≡ old → old.fault ≡ None →
    new ≡ bytes ++ take n piece → 6 ≤ stated_length new → stated_length new ≤ 1048576 → length new ≡ stated_length new →
    Takes old given (in_progress (at + length new) []) (given ++ record { at = at; frame = frame_of new } ∷ []) piece n
took_whole old given at bytes piece new n is sound grown least most exact =
    let was : old.bytes ++ take n piece ≡ new = ap (λ (s : InProgress). s.bytes ++ take n piece) (sym is) ∙ sym grown in
    let place : old.at ≡ at = ap (λ (s : InProgress). s.at) (sym is) in
    let read = read_whole at new least most exact in
    takes old given (in_progress (at + length new) []) (record { at = at; frame = frame_of new } ∷ []) piece n sound
    (ap (λ (p : ℕ). standing p (old.bytes ++ take n piece)) place ∙ ap (standing at) was ∙ read.0)
    (ap (λ (p : ℕ). frames_of p (old.bytes ++ take n piece)) place ∙ ap (frames_of at) was ∙ read.1)

-- with more bytes, that aren't all

pub still_unfinished : (bytes more new : List ℕ) → new ≡ bytes ++ more → 4 ≤ length bytes → 6 ≤ stated_length bytes → stated_length bytes ≤ 1048576 →
    length bytes + length more < stated_length bytes → IsUnfinished new
still_unfinished bytes more new grown there least most few =
    subst IsUnfinished (sym grown)
    (λ long.
    let same = stated_length-append bytes more there in
    (omega (arith, same), omega (arith, same), omega (arith, same, length-append bytes more)))

-- with all bytes
pub now_whole : (bytes more new : List ℕ) → new ≡ bytes ++ more → 4 ≤ length bytes → 6 ≤ stated_length bytes → stated_length bytes ≤ 1048576 →
    length bytes + length more ≡ stated_length bytes → (6 ≤ stated_length new) × (stated_length new ≤ 1048576) × (length new ≡ stated_length new)
now_whole bytes more new grown there least most all =
    subst (λ (xs : List ℕ). (6 ≤ stated_length xs) × (stated_length xs ≤ 1048576) × (length xs ≡ stated_length xs)) (sym grown)
    (let same = stated_length-append bytes more there in
    (omega (arith, same), omega (arith, same), omega (arith, same, length-append bytes more)))
