-- Frames as they are spelled, and read again.
use Rattle.std.proofs.Common.{◌≡◌, ℕ, zero, suc, ◌+◌, ◌^◌, ◌<◌, ◌≤◌, List, [], ◌∷◌, ◌++◌, length, take, drop, get_or, refl, sym, ◌∙◌, ap, arith, lit<, length-append, ⊎_elim}
use Rattle.std.proofs.lemmas.List.{take_at, drop_at, take-take, take-append-drop, append_assoc, length-drop, length-take-le, get_or_past}
use Rattle.std.proofs.lemmas.List.Elements.{All-get_or, All-take, All-drop, All-cons, All-nil, All-head, All-tail}
use Rattle.std.proofs.lemmas.Bool.{cases_lt}
use Rattle.std.proofs.lemmas.Nat.{from_le_bytes-to_le_bytes_2, from_le_bytes-to_le_bytes_4, le_bytes_2, le_bytes_4}
use Rattle.std.proofs.Math.Seq.{take-add}
use Rattle.std.specs.Prelude.{All}
use Rattle.std.specs.Int.{w16, w32, from_le_bytes, to_le_bytes}
use Rattle.frame_codec.specs.Frames.{frame_bytes, frame_length}
use Rattle.frame_codec.specs.Reading.{Front, Whole, front, stated_length, frame_of, Reading, with_frame, reading}
use Rattle.frame_codec.specs.FrameReaders.{shown}
use Rattle.frame_codec.specs.Laws.{IsBytes, IsWithinLimits, spelled, placed, unplaced, BeginsWithNoFrame, IsSpelledBy}
use Rattle.frame_codec.specs.declared.frames.Frame.{Frame}
use Rattle.frame_codec.specs.declared.frames.PlacedFrame.{PlacedFrame}
use Rattle.frame_codec.proofs.Fronts.{FrontCase, early, too_short, too_long, begun, whole, front_cases, front_whole}
use Rattle.frame_codec.proofs.Readings.{ReadingCase, nothing, ended, begins, reading_cases, read_by, reading-step, frame_length-frame_of}

-- written and read

pub length-frame_bytes : (frame : Frame) → length (frame_bytes frame) ≡ frame_length frame
length-frame_bytes frame = omega (arith, length-append (to_le_bytes w32 (frame_length frame) ++ to_le_bytes w16 frame.flags) frame.payload)

stated_length-frame_bytes : (frame : Frame) (more : List ℕ) → IsWithinLimits frame → stated_length (frame_bytes frame ++ more) ≡ frame_length frame
stated_length-frame_bytes frame more limits = from_le_bytes-to_le_bytes_4 (frame_length frame) (omega (arith, limits.1))

frame_of-frame_bytes : (frame : Frame) (more : List ℕ) → IsWithinLimits frame → frame_of (frame_bytes frame ++ more) ≡ frame
frame_of-frame_bytes frame more limits =
    let text = frame_bytes frame ++ more in
    let flags : from_le_bytes w16 (take 2 (drop 4 text)) ≡ frame.flags = from_le_bytes-to_le_bytes_2 frame.flags limits.0 in
    let payload : drop 6 (take (stated_length text) text) ≡ frame.payload =
    ap (λ (n : ℕ). drop 6 (take n text)) (stated_length-frame_bytes frame more limits)
    ∙ ap (drop 6) (take_at (frame_bytes frame) more (frame_length frame) (length-frame_bytes frame)) in
    ap (λ (n : ℕ). let x : Frame = record { flags = n; payload = drop 6 (take (stated_length text) text) } in x) flags
    ∙ ap (λ (xs : List ℕ). let x : Frame = record { flags = frame.flags; payload = xs } in x) payload

-- The bytes of a frame are read as the frame, whatever follows.
pub front-frame_bytes : (frame : Frame) (more : List ℕ) → IsWithinLimits frame → front (frame_bytes frame ++ more) ≡ Whole frame
front-frame_bytes frame more limits =
    let stated = stated_length-frame_bytes frame more limits in
    let long : length (frame_bytes frame ++ more) ≡ frame_length frame + length more = length-append (frame_bytes frame) more ∙ ap (λ (n : ℕ). n + length more) (length-frame_bytes frame) in
    front_whole (frame_bytes frame ++ more) (omega (arith, long)) (omega (arith, stated)) (omega (arith, stated, limits.1)) (omega (arith, stated, long))
    ∙ ap Whole (frame_of-frame_bytes frame more limits)

frame_read : (at : ℕ) (frame : Frame) (more : List ℕ) → IsWithinLimits frame →
    reading at (frame_bytes frame ++ more) ≡ with_frame at frame (reading (at + frame_length frame) more)
frame_read at frame more limits =
    reading-step at (frame_bytes frame ++ more)
    ∙ ap (λ (f : Front). read_by f at (frame_bytes frame ++ more) reading) (front-frame_bytes frame more limits)
    ∙ ap (λ (xs : List ℕ). with_frame at frame (reading (at + frame_length frame) xs)) (drop_at (frame_bytes frame) more (frame_length frame) (length-frame_bytes frame))

rest_read : (at : ℕ) (rest : List ℕ) → BeginsWithNoFrame rest → reading at rest ≡ record { frames = []; fault = shown at (front rest); rest = rest }
rest_read at rest none = by_case (reading_cases at rest)
  where
    by_case : ReadingCase at rest → reading at rest ≡ record { frames = []; fault = shown at (front rest); rest = rest }
    by_case (nothing partial is) = is ∙ ap (λ (f : Front). let x : Reading = record { frames = []; fault = shown at f; rest = rest } in x) (sym partial)
    by_case (ended why wrong is) = is ∙ ap (λ (f : Front). let x : Reading = record { frames = []; fault = shown at f; rest = rest } in x) (sym wrong)
    by_case (begins least full one is) = absurd (none (frame_of rest) one)

pub written_read : (at : ℕ) (frames : List Frame) (rest : List ℕ) → All IsWithinLimits frames → BeginsWithNoFrame rest →
    reading at (spelled frames ++ rest) ≡ record { frames = placed at frames; fault = shown (at + length (spelled frames)) (front rest); rest = rest }
written_read at [] rest limits none =
    let place : at ≡ at + 0 = omega arith in
    rest_read at rest none ∙ ap (λ (p : ℕ). let x : Reading = record { frames = []; fault = shown p (front rest); rest = rest } in x) place
written_read at (frame ∷ frames) rest limits none =
    let place : at + frame_length frame + length (spelled frames) ≡ at + length (frame_bytes frame ++ spelled frames) =
    omega (arith, length-append (frame_bytes frame) (spelled frames), length-frame_bytes frame) in
    let one : Frame = frame in
    ap (reading at) (append_assoc (frame_bytes frame) (spelled frames) rest)
    ∙ frame_read at frame (spelled frames ++ rest) (All-head IsWithinLimits frame frames limits)
    ∙ ap (with_frame at frame) (written_read (at + frame_length frame) frames rest (All-tail IsWithinLimits frame frames limits) none)
    ∙ ap (λ (p : ℕ). let x : Reading = record { frames = placed at (one ∷ frames); fault = shown p (front rest); rest = rest } in x) place

-- read and written

byte_at : (text : List ℕ) → IsBytes text → (i : ℕ) → get_or text i 0 < 256
byte_at text bytes i = ⊎_elim (λ h. All-get_or (λ byte. byte < 256) text i 0 h bytes) (λ h. rw (get_or_past text i 0 h) (lit< tt)) (cases_lt i (length text))

-- The header of a frame that is read spells it.
header_spelled : (text : List ℕ) → IsBytes text → 6 ≤ stated_length text → stated_length text ≤ length text →
    frame_bytes (frame_of text) ≡ take (stated_length text) text
header_spelled text bytes least full =
    let header : length (take 4 text) ≡ 4 = length-take-le 4 text (omega arith) in
    let flags : length (take 2 (drop 4 text)) ≡ 2 = length-take-le 2 (drop 4 text) (omega (arith, length-drop 4 text)) in
    let payload = drop 6 (take (stated_length text) text) in
    let a : to_le_bytes w32 (frame_length (frame_of text)) ≡ take 4 text =
    le_bytes_4 (take 4 text) (frame_length (frame_of text)) header (byte_at (take 4 text) (All-take (λ byte. byte < 256) 4 text bytes)) (frame_length-frame_of text least full) in
    let b : to_le_bytes w16 (frame_of text).flags ≡ take 2 (drop 4 text) =
    le_bytes_2 (take 2 (drop 4 text)) (frame_of text).flags flags
    (byte_at (take 2 (drop 4 text)) (All-take (λ byte. byte < 256) 2 (drop 4 text) (All-drop (λ byte. byte < 256) 4 text bytes))) refl in
    ap (λ (xs : List ℕ). (xs ++ to_le_bytes w16 (frame_of text).flags) ++ payload) a
    ∙ ap (λ (xs : List ℕ). (take 4 text ++ xs) ++ payload) b
    ∙ ap (λ (xs : List ℕ). xs ++ payload) (sym (take-add 4 2 text))
    ∙ ap (λ (xs : List ℕ). xs ++ payload) (sym (take-take 6 (stated_length text) text least))
    ∙ take-append-drop 6 (take (stated_length text) text)

flags_fit : (text : List ℕ) → IsBytes text → (frame_of text).flags < 2 ^ 16
flags_fit text bytes =
    let two = take 2 (drop 4 text) in
    let each = byte_at two (All-take (λ byte. byte < 256) 2 (drop 4 text) (All-drop (λ byte. byte < 256) 4 text bytes)) in
    omega (arith, each 0, each 1)

whole_limits : (text : List ℕ) → front text ≡ Whole (frame_of text) → (6 ≤ stated_length text) × (stated_length text ≤ 1048576) × (stated_length text ≤ length text)
whole_limits text one = by_case (front_cases text)
  where
    by_case : FrontCase text → (6 ≤ stated_length text) × (stated_length text ≤ 1048576) × (stated_length text ≤ length text)
    by_case (early few is) = absurd (cc (one, is))
    by_case (too_short there under is) = absurd (cc (one, is))
    by_case (too_long there over is) = absurd (cc (one, is))
    by_case (begun there least most open_ is) = absurd (cc (one, is))
    by_case (whole there least most full is) = (least, most, full)

spelled_with_frame : (at : ℕ) (text : List ℕ) (r : Reading) → IsBytes text → front text ≡ Whole (frame_of text) →
    IsSpelledBy (at + frame_length (frame_of text)) (drop (frame_length (frame_of text)) text) r → IsSpelledBy at text (with_frame at (frame_of text) r)
spelled_with_frame at text r bytes one s =
    let f = frame_of text in
    let n = frame_length f in
    let limits = whole_limits text one in
    let same : n ≡ stated_length text = frame_length-frame_of text limits.0 limits.2 in
    let front_is : frame_bytes f ≡ take n text = header_spelled text bytes limits.0 limits.2 ∙ ap (λ (m : ℕ). take m text) (sym same) in
    record {
      whole =
          sym (take-append-drop n text)
          ∙ ap (λ (xs : List ℕ). xs ++ drop n text) (sym front_is)
          ∙ ap (λ (xs : List ℕ). frame_bytes f ++ xs) s.whole
          ∙ sym (append_assoc (frame_bytes f) (spelled (unplaced r.frames)) r.rest);
      places = ap (λ (fs : List PlacedFrame). record { at = at; frame = f } ∷ fs) s.places;
      limits = All-cons IsWithinLimits f (unplaced r.frames) (flags_fit text bytes, omega (arith, same, limits.1)) s.limits;
      rest_is_none = s.rest_is_none;
    }

spelled_by : (at : ℕ) (text : List ℕ) → IsBytes text → ((to : ℕ) (later : List ℕ) → length later < length text → IsBytes later → IsSpelledBy to later (reading to later)) →
    IsSpelledBy at text (reading at text)
spelled_by at text bytes shorter = by_case (reading_cases at text)
  where
    by_case : ReadingCase at text → IsSpelledBy at text (reading at text)
    by_case (nothing partial is) = rw is (record { whole = refl; places = refl; limits = All-nil IsWithinLimits; rest_is_none = λ frame same. cc (partial, same) })
    by_case (ended why wrong is) = rw is (record { whole = refl; places = refl; limits = All-nil IsWithinLimits; rest_is_none = λ frame same. cc (wrong, same) })
    by_case (begins least full one is) =
        let n = frame_length (frame_of text) in
        let less : length (drop n text) < length text = omega (arith, length-drop n text) in
        rw is
        (spelled_with_frame at text (reading (at + n) (drop n text)) bytes one
        (shorter (at + n) (drop n text) less (All-drop (λ byte. byte < 256) n text bytes)))

spelled_within : (bound at : ℕ) (text : List ℕ) → length text ≤ bound → IsBytes text → IsSpelledBy at text (reading at text)
spelled_within zero at text few bytes = spelled_by at text bytes (λ to later less all. absurd (omega arith))
spelled_within (suc bound) at text few bytes = spelled_by at text bytes (λ to later less all. spelled_within bound to later (omega arith) all)

pub read_spelled : (at : ℕ) (text : List ℕ) → IsBytes text → IsSpelledBy at text (reading at text)
read_spelled at text bytes = spelled_within (length text) at text (omega arith) bytes
