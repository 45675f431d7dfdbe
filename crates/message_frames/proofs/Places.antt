-- The bytes of a text are those of its frames and of the rest, and the rest is short unless it shows a fault.
use Rattle.std.proofs.Common.{◌≡◌, ℕ, zero, suc, ◌+◌, ◌≤◌, List, [], length, take, drop, nat_lt, if◌then◌else◌, Some, None, arith, length-take, length-drop}
use Rattle.std.proofs.lemmas.Bool.{cond_both, ltb-true, ltb-false}
use Rattle.std.specs.Int.{w16, from_le_bytes}
use Rattle.std.proofs.lemmas.List.Sums.{sum_by-cons}
use Rattle.frame_codec.specs.Frames.{frame_length}
use Rattle.frame_codec.specs.Reading.{Front, Partial, Whole, Wrong, front, stated_length, Reading, with_frame, reading_within, reading}
use Rattle.frame_codec.specs.declared.frames.PlacedFrame.{PlacedFrame}
use Rattle.frame_codec.specs.declared.frames.TheConstants.{HEADER_LENGTH, MAX_FRAME_LENGTH}
use Rattle.frame_codec.specs.declared.malformed.Why.TheVariants.{TooShort, TooLong}
use Rattle.message_frames.proofs.Bounds.{lengths}

-- what a text's front says of its length
abbrev pub FrontFits : List ℕ → Front → Type 0
FrontFits text Partial = length text ≤ MAX_FRAME_LENGTH
FrontFits text (Whole frame) = (frame_length frame ≤ length text) × (HEADER_LENGTH ≤ frame_length frame)
FrontFits text (Wrong why) = Unit {0}

-- the front of a text that states that length
abbrev front_stating : List ℕ → ℕ → Front
front_stating text stated =
    if nat_lt (length text) 4 then Partial
    else if nat_lt stated HEADER_LENGTH then Wrong TooShort
    else if nat_lt MAX_FRAME_LENGTH stated then Wrong TooLong
    else if nat_lt (length text) stated then Partial
    else Whole (record { flags = from_le_bytes w16 (take 2 (drop 4 text)); payload = drop HEADER_LENGTH (take stated text) })

front_fits_stated : (text : List ℕ) (stated : ℕ) → FrontFits text (front_stating text stated)
front_fits_stated text stated =
    cond_both (nat_lt (length text) 4) _ _ (FrontFits text) (λ few. let n = ltb-true (length text) 4 few in omega (arith, n))
    (λ enough. cond_both (nat_lt stated HEADER_LENGTH) _ _ (FrontFits text) (λ short. tt)
    (λ header. cond_both (nat_lt MAX_FRAME_LENGTH stated) _ _ (FrontFits text) (λ long. tt)
    (λ limit. cond_both (nat_lt (length text) stated) _ _ (FrontFits text)
    (λ part. let n = ltb-true (length text) stated part in let m = ltb-false MAX_FRAME_LENGTH stated limit in omega (arith, n, m))
    (λ whole. sized (ltb-false stated HEADER_LENGTH header) (ltb-false (length text) stated whole)))))
  where
    sized : HEADER_LENGTH ≤ stated → stated ≤ length text → (HEADER_LENGTH + length (drop HEADER_LENGTH (take stated text)) ≤ length text) × (HEADER_LENGTH ≤ HEADER_LENGTH + length (drop HEADER_LENGTH (take stated text)))
    sized h w = (omega (arith, length-drop HEADER_LENGTH (take stated text), length-take stated text), omega arith)

pub front_fits_text : (text : List ℕ) → FrontFits text (front text)
front_fits_text text = front_fits_stated text (stated_length text)

-- The frames that are read of a text and the rest are all its bytes. Without a fault the rest is shorter than a frame may be.
pub record Measured (text : List ℕ) (r : Reading) : Type 0 where
  pub bytes : lengths r.frames + length r.rest ≡ length text
  pub short : r.fault ≡ None → length r.rest ≤ MAX_FRAME_LENGTH

abbrev pub after_front : ℕ → ℕ → List ℕ → Front → Reading
after_front bound at text f =
    elim f [
      | Partial ↦ record { frames = []; fault = None; rest = text }
      | Wrong why ↦ record { frames = []; fault = Some (record { at = at; why = why }); rest = text }
      | Whole frame ↦ with_frame at frame (reading_within bound (at + frame_length frame) (drop (frame_length frame) text))
    ]

by_front : (bound at : ℕ) (text : List ℕ) → length text ≤ suc bound → (f : Front) → FrontFits text f →
    ((later : List ℕ) (at_later : ℕ) → length later ≤ bound → Measured later (reading_within bound at_later later)) →
    Measured text (after_front bound at text f)
by_front bound at text fits Partial front_fits later = record { bytes = omega arith; short = λ none. front_fits }
by_front bound at text fits (Wrong why) front_fits later = record { bytes = omega arith; short = λ none. absurd (cc) }
by_front bound at text fits (Whole frame) front_fits later =
    let rest = drop (frame_length frame) text in
    let r = reading_within bound (at + frame_length frame) rest in
    let m = later rest (at + frame_length frame) (omega (arith, fits, front_fits.0, front_fits.1, length-drop (frame_length frame) text)) in
    record {
      bytes = omega (arith, front_fits.0, m.bytes, length-drop (frame_length frame) text, sum_by-cons (λ (x : PlacedFrame). frame_length x.frame) (record { at = at; frame = frame }) r.frames);
      short = m.short;
    }

within_measured : (bound at : ℕ) (text : List ℕ) → length text ≤ bound → Measured text (reading_within bound at text)
within_measured zero at text fits = record { bytes = omega arith; short = λ none. omega (arith, fits) }
within_measured (suc bound) at text fits = by_front bound at text fits (front text) (front_fits_text text) (λ later at_later less. within_measured bound at_later later less)

pub reading_measured : (at : ℕ) (text : List ℕ) → Measured text (reading at text)
unfolding reading
reading_measured at text = within_measured (length text) at text (omega arith)
