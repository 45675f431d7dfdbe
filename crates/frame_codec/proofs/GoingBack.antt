-- The way back over a feed.
use Rattle.std.proofs.Common.{◌≡◌, ℕ, ◌+◌, ◌-◌, ◌<◌, ◌≤◌, Option, List, [], ◌++◌, length, take, drop, None, Some, refl, sym, ◌∙◌, ap, arith, length-append, ⊎_elim}
use Rattle.std.proofs.lemmas.List.{take_all, take_at, take-take, take-append-le, drop-take, drop_all, length-take, length-take-le, length-drop, append_cancel_left, take-append-drop}
use Rattle.std.proofs.lemmas.Bool.{cases_lt}
use Rattle.std.specs.Int.{w32, from_le_bytes}
use Rattle.frame_codec.specs.Reading.{Partial, Wrong, front, stated_length, Reading, reading}
use Rattle.frame_codec.specs.FrameReaders.{InProgress, in_progress, HasRoom, IsUnfinished, frames_of, kept, standing, StandsFor}
use Rattle.frame_codec.specs.Marks.{IsPartialMarkOf, bytes_at, payload_since, first_frame, IsFedSince}
use Rattle.frame_codec.specs.declared.frames.PlacedFrame.{PlacedFrame}
use Rattle.frame_codec.specs.declared.malformed.Malformed.{Malformed}
use Rattle.frame_codec.specs.declared.malformed.Why.{Why}
use Rattle.frame_codec.specs.declared.marks.PartialMark.{PartialMark}
use Rattle.frame_codec.specs.declared.marks.FrameMark.{FrameMark}
use Rattle.frame_codec.proofs.Fronts.{FrontCase, early, too_short, too_long, begun, whole, front_cases, stated_length-append}
use Rattle.frame_codec.proofs.Readings.{ReadingCase, nothing, ended, begins, reading_cases}
use Rattle.frame_codec.proofs.Standing.{standing-is}
use Rattle.frame_codec.proofs.Rests.{standing_shown, partial_without_fault}
use Rattle.frame_codec.proofs.Feeds.{goes_on, goes_nowhere}

-- where the payload begins it has the header's whole length before it
mark_payload : (mark : PartialMark) (bytes : List ℕ) → IsPartialMarkOf mark bytes → mark.payload ≡ length bytes - 6
mark_payload mark bytes h = ⊎_elim early_ late (cases_lt mark.count 6)
  where
    early_ : mark.count < 6 → mark.payload ≡ length bytes - 6
    early_ lt = omega (arith, h.length, mark.header_first lt)

    late : 6 ≤ mark.count → mark.payload ≡ length bytes - 6
    late le = omega (arith, h.length, mark.within)

-- once a byte after the length is there, the whole length is in the header
counted : (mark : PartialMark) → 4 < mark.count + mark.payload → 4 ≤ mark.count
counted mark more = ⊎_elim early_ late (cases_lt mark.count 6)
  where
    early_ : mark.count < 6 → 4 ≤ mark.count
    early_ lt = omega (arith, mark.header_first lt)

    late : 6 ≤ mark.count → 4 ≤ mark.count
    late le = omega arith

-- A mark of a reader leaves room as the reader does.
pub mark_has_room : (mark : PartialMark) (bytes : List ℕ) → IsPartialMarkOf mark bytes → IsUnfinished bytes → HasRoom (stated_length mark.header) (mark.count + mark.payload)
mark_has_room mark bytes h room = λ more.
    let there = counted mark more in
    let same : stated_length mark.header ≡ stated_length bytes =
    ap (from_le_bytes w32) (sym (take-take 4 mark.count mark.header there) ∙ ap (take 4) h.header ∙ take-take 4 6 bytes (omega arith)) in
    let long : 4 < length bytes = omega (arith, h.length) in
    let limits = room long in
    (omega (arith, same, limits.0), omega (arith, same, limits.1), omega (arith, same, limits.2, h.length))

-- And so do the bytes at a mark, whatever payload they take.
pub bytes_at_have_room : (mark : PartialMark) (payload : List ℕ) → HasRoom (stated_length mark.header) (mark.count + mark.payload) → IsUnfinished (bytes_at mark payload)
bytes_at_have_room mark payload room = λ more.
    let header = take mark.count mark.header in
    let n : length (bytes_at mark payload) ≡ mark.count + length (take mark.payload payload) =
    omega (arith, length-append header (take mark.payload payload), length-take-le mark.count mark.header (omega (arith, mark.room, mark.within))) in
    let m : length (take mark.payload payload) ≤ mark.payload = omega (arith, length-take mark.payload payload) in
    let long : 4 < mark.count + mark.payload = omega arith in
    let there = counted mark long in
    let same : stated_length (bytes_at mark payload) ≡ stated_length mark.header =
    ap (from_le_bytes w32)
    (take-append-le 4 header (take mark.payload payload) (omega (arith, length-take-le mark.count mark.header (omega (arith, mark.room, mark.within))))
    ∙ take-take 4 mark.count mark.header there) in
    let limits = room long in
    (omega (arith, same, limits.0), omega (arith, same, limits.1), omega (arith, same, limits.2))

-- The front of a text that goes on is the payload so far.
front_payload : (bytes later : List ℕ) (n : ℕ) → n ≡ length bytes - 6 → (6 ≤ length bytes → take (length bytes) later ≡ bytes) → take n (drop 6 later) ≡ drop 6 bytes
front_payload bytes later n is front = ⊎_elim short long (cases_lt (length bytes) 6)
  where
    short : length bytes < 6 → take n (drop 6 later) ≡ drop 6 bytes
    short lt =
        let z : n ≡ 0 = omega arith in
        rw z (sym (drop_all 6 bytes (omega arith)))

    long : 6 ≤ length bytes → take n (drop 6 later) ≡ drop 6 bytes
    long le =
        let sum : 6 + n ≡ length bytes = omega arith in
        sym (drop-take 6 n later) ∙ ap (λ (m : ℕ). drop 6 (take m later)) sum ∙ ap (drop 6) (front le)

-- a part of a frame with its length
room_left : (bytes : List ℕ) → front bytes ≡ Partial → 4 ≤ length bytes → (6 ≤ stated_length bytes) × (stated_length bytes ≤ 1048576) × (length bytes < stated_length bytes)
room_left bytes partial there = by_case (front_cases bytes)
  where
    by_case : FrontCase bytes → (6 ≤ stated_length bytes) × (stated_length bytes ≤ 1048576) × (length bytes < stated_length bytes)
    by_case (early few is) = absurd (omega arith)
    by_case (too_short there' under is) = absurd (cc (partial, is))
    by_case (too_long there' over is) = absurd (cc (partial, is))
    by_case (begun there' least most open_ is) = (least, most, open_)
    by_case (whole there' least most full is) = absurd (cc (partial, is))

-- A length that is wrong later isn't there yet.
wrong_later : (bytes more : List ℕ) (why : Why) → front bytes ≡ Partial → front (bytes ++ more) ≡ Wrong why → length bytes < 4
wrong_later bytes more why partial wrong = ⊎_elim (λ (few : length bytes < 4). few) there (cases_lt (length bytes) 4)
  where
    there : 4 ≤ length bytes → length bytes < 4
    there le = by_case (front_cases (bytes ++ more))
      where
        by_case : FrontCase (bytes ++ more) → length bytes < 4
        by_case (early few is) = omega (arith, length-append bytes more)
        by_case (too_short there' under is) = absurd (omega (arith, stated_length-append bytes more le, (room_left bytes partial le).0))
        by_case (too_long there' over is) = absurd (omega (arith, stated_length-append bytes more le, (room_left bytes partial le).1))
        by_case (begun there' least most open_ is) = absurd (cc (wrong, is))
        by_case (whole there' least most full is) = absurd (cc (wrong, is))

-- a text in progress and the same with more bytes: the payload so far is still where the mark looks for it
payload_stays : (at : ℕ) (bytes more : List ℕ) (n : ℕ) → n ≡ length bytes - 6 → front bytes ≡ Partial →
    take n (payload_since (first_frame (frames_of at (bytes ++ more))) (standing at (bytes ++ more)).bytes) ≡ drop 6 bytes
payload_stays at bytes more n is partial = by_case (reading_cases at (bytes ++ more))
  where
    kept_as : (fault : Option Malformed) → reading at (bytes ++ more) ≡ record { frames = []; fault = fault; rest = bytes ++ more } →
        payload_since (first_frame (frames_of at (bytes ++ more))) (standing at (bytes ++ more)).bytes ≡ drop 6 (kept fault (bytes ++ more))
    kept_as fault read =
        ap (λ (r : Reading). payload_since (first_frame r.frames) (standing at (bytes ++ more)).bytes) read
        ∙ ap (λ (s : InProgress). drop 6 s.bytes) (standing-is at (bytes ++ more))
        ∙ ap (λ (r : Reading). drop 6 (kept r.fault r.rest)) read

    by_case : ReadingCase at (bytes ++ more) →
        take n (payload_since (first_frame (frames_of at (bytes ++ more))) (standing at (bytes ++ more)).bytes) ≡ drop 6 bytes
    by_case (nothing partial' read) = ap (take n) (kept_as None read) ∙ front_payload bytes (bytes ++ more) n is (λ le. take_at bytes more (length bytes) refl)
    by_case (ended why wrong read) =
        let few : length bytes < 4 = wrong_later bytes more why partial wrong in
        let none : drop 6 (take 4 (bytes ++ more)) ≡ [] = drop_all 6 (take 4 (bytes ++ more)) (omega (arith, length-take 4 (bytes ++ more))) in
        ap (take n) (kept_as (Some (record { at = at; why = why })) read ∙ none) ∙ front_payload bytes [] n is (λ le. absurd (omega arith))
    by_case (begins least full one read) =
        ap (λ (r : Reading). take n (payload_since (first_frame r.frames) (standing at (bytes ++ more)).bytes)) read
        ∙ front_payload bytes (take (stated_length (bytes ++ more)) (bytes ++ more)) n is
        (λ le.
        let there : 4 ≤ length bytes = omega arith in
        take-take (length bytes) (stated_length (bytes ++ more)) (bytes ++ more) (omega (arith, stated_length-append bytes more there, (room_left bytes partial there).2))
        ∙ take_at bytes more (length bytes) refl)

-- Whatever was fed since the mark, the payload then is where the mark looks for it.
payload_at : (mark : FrameMark) (reader : InProgress) (frames : List PlacedFrame) (at : ℕ) (text piece : List ℕ) → IsFedSince mark reader frames at text piece →
    take mark.partial.payload (payload_since (first_frame frames) reader.bytes) ≡ drop 6 (standing at text).bytes
payload_at mark reader frames at text piece h = by_case (standing at text).fault refl
  where
    n : mark.partial.payload ≡ length (standing at text).bytes - 6
    n = mark_payload mark.partial (standing at text).bytes h.marked.1

    by_case : (fault : Option Malformed) → (standing at text).fault ≡ fault →
        take mark.partial.payload (payload_since (first_frame frames) reader.bytes) ≡ drop 6 (standing at text).bytes
    by_case None sound =
        let s = standing at text in
        let on = goes_on at text piece sound in
        let same : reader ≡ standing s.at (s.bytes ++ piece) = h.fed ∙ on.stands in
        let new : frames ≡ frames_of s.at (s.bytes ++ piece) = append_cancel_left (frames_of at text) frames (frames_of s.at (s.bytes ++ piece)) (h.given ∙ on.frames_are) in
        ap (λ (fs : List PlacedFrame). take mark.partial.payload (payload_since (first_frame fs) reader.bytes)) new
        ∙ ap (λ (x : InProgress). take mark.partial.payload (payload_since (first_frame (frames_of s.at (s.bytes ++ piece))) x.bytes)) same
        ∙ payload_stays s.at s.bytes piece mark.partial.payload n (partial_without_fault at text sound)
    by_case (Some fault) faulty =
        let s = standing at text in
        let on = goes_nowhere at text piece fault faulty in
        let same : reader ≡ s = h.fed ∙ on.stands in
        let none : frames ≡ [] = append_cancel_left (frames_of at text) frames [] (h.given ∙ on.frames_are) in
        ap (λ (fs : List PlacedFrame). take mark.partial.payload (payload_since (first_frame fs) reader.bytes)) none
        ∙ ap (λ (x : InProgress). take mark.partial.payload (drop 6 x.bytes)) same
        ∙ take_all mark.partial.payload (drop 6 s.bytes) (omega (arith, length-drop 6 s.bytes, n))

-- The bytes at the mark are the reader's then.
pub back : (mark : FrameMark) (reader : InProgress) (frames : List PlacedFrame) (at : ℕ) (text piece : List ℕ) → IsFedSince mark reader frames at text piece →
    StandsFor (in_progress mark.at (bytes_at mark.partial (payload_since (first_frame frames) reader.bytes))) at text
back mark reader frames at text piece h =
    let s = standing at text in
    let bytes : bytes_at mark.partial (payload_since (first_frame frames) reader.bytes) ≡ s.bytes =
    ap (λ (xs : List ℕ). xs ++ take mark.partial.payload (payload_since (first_frame frames) reader.bytes)) h.marked.1.header
    ∙ ap (λ (xs : List ℕ). take 6 s.bytes ++ xs) (payload_at mark reader frames at text piece h)
    ∙ take-append-drop 6 s.bytes in
    ap (λ (p : ℕ). in_progress p (bytes_at mark.partial (payload_since (first_frame frames) reader.bytes))) h.marked.0
    ∙ ap (in_progress s.at) bytes
    ∙ sym (standing_shown at text)
