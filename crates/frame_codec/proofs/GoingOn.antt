-- A text read on with more bytes.
use Rattle.std.proofs.Common.{◌≡◌, ℕ, zero, suc, ◌+◌, ◌-◌, ◌<◌, ◌≤◌, Option, List, ◌++◌, length, drop, None, Some, refl, sym, ◌∙◌, ap, arith}
use Rattle.std.proofs.lemmas.List.{drop-append-le, length-drop}
use Rattle.frame_codec.specs.Frames.{frame_length}
use Rattle.frame_codec.specs.Reading.{Front, Whole, Wrong, front, frame_of, Reading, with_frame, reading}
use Rattle.frame_codec.specs.Laws.{read_on}
use Rattle.frame_codec.specs.declared.frames.Frame.{Frame}
use Rattle.frame_codec.specs.declared.malformed.Malformed.{Malformed}
use Rattle.frame_codec.proofs.Fronts.{front-append_wrong, front-append_same_whole}
use Rattle.frame_codec.proofs.Readings.{ReadingCase, nothing, ended, begins, reading_cases, read_by, reading-step}

-- what a reading becomes with more bytes, by its fault; the text had so many bytes
abbrev pub goes_on_by : Option Malformed → Reading → ℕ → ℕ → List ℕ → Reading
goes_on_by fault r at n more =
    elim fault [
      | None ↦ read_on r (reading (at + (n - length r.rest)) (r.rest ++ more))
      | Some f ↦ record r { rest = r.rest ++ more }
    ]

-- The rest is a part of the text.

rest_by : (at : ℕ) (text : List ℕ) → ((to : ℕ) (later : List ℕ) → length later < length text → length (reading to later).rest ≤ length later) →
    length (reading at text).rest ≤ length text
rest_by at text shorter = by_case (reading_cases at text)
  where
    by_case : ReadingCase at text → length (reading at text).rest ≤ length text
    by_case (nothing partial is) = rw is (omega arith)
    by_case (ended why wrong is) = rw is (omega arith)
    by_case (begins least full whole is) =
        let n = frame_length (frame_of text) in
        let less : length (drop n text) < length text = omega (arith, length-drop n text) in
        rw is (omega (arith, shorter (at + n) (drop n text) less))

rest_within_bound : (bound at : ℕ) (text : List ℕ) → length text ≤ bound → length (reading at text).rest ≤ length text
rest_within_bound zero at text few = rest_by at text (λ to later less. absurd (omega arith))
rest_within_bound (suc bound) at text few = rest_by at text (λ to later less. rest_within_bound bound to later (omega arith))

pub rest_within : (at : ℕ) (text : List ℕ) → length (reading at text).rest ≤ length text
rest_within at text = rest_within_bound (length text) at text (omega arith)

-- A reading goes on alike with a frame before it.
goes_on-with_frame : (at n m : ℕ) (frame : Frame) (r : Reading) (more : List ℕ) (fault : Option Malformed) → length r.rest ≤ m → n ≡ frame_length frame + m →
    goes_on_by fault (with_frame at frame r) at n more ≡ with_frame at frame (goes_on_by fault r (at + frame_length frame) m more)
goes_on-with_frame at n m frame r more None within sum =
    let place : at + (n - length r.rest) ≡ at + frame_length frame + (m - length r.rest) = omega arith in
    ap (λ (p : ℕ). read_on (with_frame at frame r) (reading p (r.rest ++ more))) place
goes_on-with_frame at n m frame r more (Some fault) within sum = refl

append_by : (at : ℕ) (text more : List ℕ) →
    ((to : ℕ) (later : List ℕ) → length later < length text → reading to (later ++ more) ≡ goes_on_by (reading to later).fault (reading to later) to (length later) more) →
    reading at (text ++ more) ≡ goes_on_by (reading at text).fault (reading at text) at (length text) more
append_by at text more shorter = by_case (reading_cases at text)
  where
    read : (f : Front) → front (text ++ more) ≡ f → reading at (text ++ more) ≡ read_by f at (text ++ more) reading
    read f is = reading-step at (text ++ more) ∙ ap (λ (f : Front). read_by f at (text ++ more) reading) is

    by_case : ReadingCase at text → reading at (text ++ more) ≡ goes_on_by (reading at text).fault (reading at text) at (length text) more
    by_case (nothing partial is) =
        let place : at ≡ at + (length text - length text) = omega arith in
        rw is (ap (λ (p : ℕ). reading p (text ++ more)) place)
    by_case (ended why wrong is) = rw is (read (Wrong why) (front-append_wrong text more why wrong))
    by_case (begins least full whole is) =
        let f = frame_of text in
        let n = frame_length f in
        let later = drop n text in
        let less : length later < length text = omega (arith, length-drop n text) in
        rw is
        (read (Whole f) (front-append_same_whole text more f whole)
        ∙ ap (λ (xs : List ℕ). with_frame at f (reading (at + n) xs)) (drop-append-le n text more full)
        ∙ ap (with_frame at f) (shorter (at + n) later less)
        ∙ sym (goes_on-with_frame at (length text) (length later) f (reading (at + n) later) more (reading (at + n) later).fault (rest_within (at + n) later) (omega (arith, length-drop n text))))

append_within : (bound at : ℕ) (text more : List ℕ) → length text ≤ bound →
    reading at (text ++ more) ≡ goes_on_by (reading at text).fault (reading at text) at (length text) more
append_within zero at text more few = append_by at text more (λ to later less. absurd (omega arith))
append_within (suc bound) at text more few = append_by at text more (λ to later less. append_within bound to later more (omega arith))

pub reading-append : (at : ℕ) (text more : List ℕ) → reading at (text ++ more) ≡ goes_on_by (reading at text).fault (reading at text) at (length text) more
reading-append at text more = append_within (length text) at text more (omega arith)
