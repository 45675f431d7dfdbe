-- What is left of a text after its whole frames.
use Rattle.std.proofs.Common.{◌≡◌, ◌≢◌, ℕ, zero, suc, ◌+◌, ◌-◌, ◌<◌, ◌≤◌, Option, List, length, take, drop, None, Some, refl, sym, ◌∙◌, ap, arith}
use Rattle.std.proofs.lemmas.List.{length-drop, length-take, length-take-le, take-take}
use Rattle.std.specs.Int.{w32, from_le_bytes}
use Rattle.frame_codec.specs.Frames.{frame_length}
use Rattle.frame_codec.specs.Reading.{Front, Partial, Whole, Wrong, front, stated_length, frame_of, Reading, with_frame, reading}
use Rattle.frame_codec.specs.FrameReaders.{InProgress, in_progress, shown, kept, next_place, standing}
use Rattle.frame_codec.specs.declared.frames.Frame.{Frame}
use Rattle.frame_codec.specs.declared.malformed.Malformed.{Malformed}
use Rattle.frame_codec.specs.declared.malformed.Why.{Why}
use Rattle.frame_codec.proofs.Fronts.{FrontCase, early, too_short, too_long, begun, whole, front_cases, front_too_short, front_too_long}
use Rattle.frame_codec.proofs.Readings.{ReadingCase, nothing, ended, begins, reading_cases}
use Rattle.frame_codec.proofs.GoingOn.{rest_within}
use Rattle.frame_codec.proofs.Standing.{standing_of, standing-is}

-- the fault is what the rest shows, and it has no whole frame
pub record EndsAt (at n : ℕ) (r : Reading) : Type 0 where
  pub fault : r.fault ≡ shown (at + (n - length r.rest)) (front r.rest)
  pub no_frame : (frame : Frame) → front r.rest ≢ Whole frame

ends_with_frame : (at n m : ℕ) (frame : Frame) (r : Reading) → length r.rest ≤ m → n ≡ frame_length frame + m → EndsAt (at + frame_length frame) m r → EndsAt at n (with_frame at frame r)
ends_with_frame at n m frame r within sum e =
    let place : at + frame_length frame + (m - length r.rest) ≡ at + (n - length r.rest) = omega arith in
    record { fault = e.fault ∙ ap (λ (p : ℕ). shown p (front r.rest)) place; no_frame = e.no_frame }

ends_by : (at : ℕ) (text : List ℕ) → ((to : ℕ) (later : List ℕ) → length later < length text → EndsAt to (length later) (reading to later)) → EndsAt at (length text) (reading at text)
ends_by at text shorter = by_case (reading_cases at text)
  where
    by_case : ReadingCase at text → EndsAt at (length text) (reading at text)
    by_case (nothing partial is) = rw is (record { fault = ap (shown (at + (length text - length text))) (sym partial); no_frame = λ frame same. cc (partial, same) })
    by_case (ended why wrong is) =
        let place : at ≡ at + (length text - length text) = omega arith in
        rw is
        (record {
          fault = ap (λ (p : ℕ). shown p (Wrong why)) place ∙ ap (shown (at + (length text - length text))) (sym wrong);
          no_frame = λ frame same. cc (wrong, same);
        })
    by_case (begins least full one is) =
        let f = frame_of text in
        let n = frame_length f in
        let later = drop n text in
        let less : length later < length text = omega (arith, length-drop n text) in
        rw is (ends_with_frame at (length text) (length later) f (reading (at + n) later) (rest_within (at + n) later) (omega (arith, length-drop n text)) (shorter (at + n) later less))

ends_within : (bound at : ℕ) (text : List ℕ) → length text ≤ bound → EndsAt at (length text) (reading at text)
ends_within zero at text few = ends_by at text (λ to later less. absurd (omega arith))
ends_within (suc bound) at text few = ends_by at text (λ to later less. ends_within bound to later (omega arith))

pub reading_ends : (at : ℕ) (text : List ℕ) → EndsAt at (length text) (reading at text)
reading_ends at text = ends_within (length text) at text (omega arith)

-- The first four bytes show a wrong length.
pub front-take : (text : List ℕ) (why : Why) → front text ≡ Wrong why → (front (take 4 text) ≡ Wrong why) × (4 ≤ length text)
front-take text why wrong = by_case (front_cases text)
  where
    stated : stated_length (take 4 text) ≡ stated_length text
    stated = ap (from_le_bytes w32) (take-take 4 4 text (omega arith))

    by_case : FrontCase text → (front (take 4 text) ≡ Wrong why) × (4 ≤ length text)
    by_case (early few is) = absurd (cc)
    by_case (too_short there under is) =
        (front_too_short (take 4 text) (omega (arith, length-take-le 4 text there)) (omega (arith, stated)) ∙ sym is ∙ wrong, there)
    by_case (too_long there over is) =
        (front_too_long (take 4 text) (omega (arith, length-take-le 4 text there)) (omega (arith, stated)) ∙ sym is ∙ wrong, there)
    by_case (begun there least most open_ is) = absurd (cc)
    by_case (whole there least most full is) = absurd (cc)

-- what a reader keeps shows the same
kept_shows : (at : ℕ) (rest : List ℕ) (fault : Option Malformed) → fault ≡ shown at (front rest) → ((frame : Frame) → front rest ≢ Whole frame) →
    (shown at (front rest) ≡ shown at (front (kept fault rest)))
kept_shows at rest fault is none = by_case (front rest) refl
  where
    by_case : (f : Front) → front rest ≡ f → shown at (front rest) ≡ shown at (front (kept fault rest))
    by_case Partial e =
        let clear : fault ≡ None = is ∙ ap (shown at) e in
        ap (λ (f : Option Malformed). shown at (front (kept f rest))) (sym clear)
    by_case (Wrong why) e =
        let faulty : fault ≡ Some (record { at = at; why = why }) = is ∙ ap (shown at) e in
        ap (shown at) (e ∙ sym (front-take rest why e).0) ∙ ap (λ (f : Option Malformed). shown at (front (kept f rest))) (sym faulty)
    by_case (Whole frame) e = absurd (none frame e)

-- A reader after a text has the fault that the bytes in progress show.
pub standing_shown : (at : ℕ) (text : List ℕ) → standing at text ≡ in_progress (standing at text).at (standing at text).bytes
standing_shown at text =
    let r = reading at text in
    let e = reading_ends at text in
    let s = standing_of at (length text) r in
    let fault : r.fault ≡ shown s.at (front s.bytes) = e.fault ∙ kept_shows s.at r.rest r.fault e.fault e.no_frame in
    rw standing-is (ap (λ (f : Option Malformed). let x : InProgress = record { at = s.at; bytes = s.bytes; fault = f } in x) fault)

-- After a fault four bytes are left at least.
pub fault_has_four : (at : ℕ) (text : List ℕ) (fault : Malformed) → (reading at text).fault ≡ Some fault → 4 ≤ length (reading at text).rest
fault_has_four at text fault faulty = by_case (front (reading at text).rest) refl
  where
    by_case : (f : Front) → front (reading at text).rest ≡ f → 4 ≤ length (reading at text).rest
    by_case Partial e =
        let clear : (reading at text).fault ≡ None = (reading_ends at text).fault ∙ ap (shown (at + (length text - length (reading at text).rest))) e in
        absurd (cc (clear, faulty))
    by_case (Wrong why) e = (front-take (reading at text).rest why e).1
    by_case (Whole frame) e = absurd ((reading_ends at text).no_frame frame e)

-- Without a fault the bytes in progress are a part of a frame.
pub partial_without_fault : (at : ℕ) (text : List ℕ) → (standing at text).fault ≡ None → front (standing at text).bytes ≡ Partial
partial_without_fault at text sound = rest_is ∙ by_case (front (reading at text).rest) refl
  where
    clear : (reading at text).fault ≡ None
    clear = ap (λ (s : InProgress). s.fault) (sym (standing-is at text)) ∙ sound

    rest_is : front (standing at text).bytes ≡ front (reading at text).rest
    rest_is =
        ap (λ (s : InProgress). front s.bytes) (standing-is at text)
        ∙ ap (λ (f : Option Malformed). front (kept f (reading at text).rest)) clear

    by_case : (f : Front) → front (reading at text).rest ≡ f → front (reading at text).rest ≡ Partial
    by_case Partial e = e
    by_case (Wrong why) e =
        let faulty : (reading at text).fault ≡ Some (record { at = at + (length text - length (reading at text).rest); why = why }) =
        (reading_ends at text).fault ∙ ap (shown (at + (length text - length (reading at text).rest))) e in
        absurd (cc (clear, faulty))
    by_case (Whole frame) e = absurd ((reading_ends at text).no_frame frame e)

kept_within : (fault : Option Malformed) (rest : List ℕ) → length (kept fault rest) ≤ length rest
kept_within None rest = omega arith
kept_within (Some fault) rest = omega (arith, length-take 4 rest)

-- A reader has no more bytes than its stream.
pub next_place_within : (at : ℕ) (text : List ℕ) → next_place (standing at text) ≤ at + length text
next_place_within at text =
    let r = reading at text in
    rw standing-is (omega (arith, kept_within r.fault r.rest, rest_within at text))
