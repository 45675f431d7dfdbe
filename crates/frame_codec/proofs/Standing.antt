-- What a reader stands for.
use Rattle.std.proofs.Common.{◌≡◌, ℕ, ◌+◌, ◌-◌, ◌<◌, ◌≤◌, Option, List, [], ◌∷◌, length, take, drop, None, Some, refl, sym, ◌∙◌, ap, arith, ⊎_elim}
use Rattle.std.proofs.lemmas.Bool.{cases_lt}
use Rattle.std.proofs.lemmas.List.{take_all, drop_all}
use Rattle.frame_codec.specs.Frames.{frame_length}
use Rattle.frame_codec.specs.Reading.{Front, Partial, Wrong, front, stated_length, frame_of, Reading, with_frame, reading}
use Rattle.frame_codec.specs.FrameReaders.{InProgress, in_progress, shown, IsUnfinished, frames_of, kept, standing}
use Rattle.frame_codec.specs.declared.malformed.Malformed.{Malformed}
use Rattle.frame_codec.specs.declared.malformed.Why.{Why}
use Rattle.frame_codec.specs.declared.malformed.Why.TheVariants.{TooShort, TooLong}
use Rattle.frame_codec.proofs.Fronts.{FrontCase, early, too_short, too_long, begun, whole, front_cases, front_whole}
use Rattle.frame_codec.proofs.Readings.{read_by, reading-step, frame_length-frame_of}

-- what a reader is after a reading of so many bytes
abbrev pub standing_of : ℕ → ℕ → Reading → InProgress
standing_of at n r = record { at = at + (n - length r.rest); bytes = kept r.fault r.rest; fault = r.fault }

pub standing-is : (at : ℕ) (text : List ℕ) → standing at text ≡ standing_of at (length text) (reading at text)
unfolding standing
standing-is at text = refl

-- without a whole frame

-- nothing read, and all is left
pub read_nothing : (at : ℕ) (bytes : List ℕ) → front bytes ≡ Partial → (standing at bytes ≡ in_progress at bytes) × (frames_of at bytes ≡ [])
read_nothing at bytes partial =
    let is : reading at bytes ≡ record { frames = []; fault = None; rest = bytes } = reading-step at bytes ∙ ap (λ (f : Front). read_by f at bytes reading) partial in
    let place : at + (length bytes - length bytes) ≡ at = omega arith in (
      standing-is at bytes
          ∙ ap (standing_of at (length bytes)) is
          ∙ ap (λ (p : ℕ). let x : InProgress = record { at = p; bytes = bytes; fault = None } in x) place
          ∙ ap (λ (f : Front). let x : InProgress = record { at = at; bytes = bytes; fault = shown at f } in x) (sym partial),
      ap (λ (r : Reading). r.frames) is,
    )

-- a fault at the fourth byte
pub read_wrong : (at : ℕ) (bytes : List ℕ) (why : Why) → front bytes ≡ Wrong why → length bytes ≡ 4 → (standing at bytes ≡ in_progress at bytes) × (frames_of at bytes ≡ [])
read_wrong at bytes why wrong four =
    let fault : Option Malformed = Some (record { at = at; why = why }) in
    let is : reading at bytes ≡ record { frames = []; fault = fault; rest = bytes } = reading-step at bytes ∙ ap (λ (f : Front). read_by f at bytes reading) wrong in
    let place : at + (length bytes - length bytes) ≡ at = omega arith in (
      standing-is at bytes
          ∙ ap (standing_of at (length bytes)) is
          ∙ ap (λ (p : ℕ). let x : InProgress = record { at = p; bytes = take 4 bytes; fault = fault } in x) place
          ∙ ap (λ (xs : List ℕ). let x : InProgress = record { at = at; bytes = xs; fault = fault } in x) (take_all 4 bytes (omega arith))
          ∙ ap (λ (f : Front). let x : InProgress = record { at = at; bytes = bytes; fault = shown at f } in x) (sym wrong),
      ap (λ (r : Reading). r.frames) is,
    )

exactly_four : (n : ℕ) → 4 ≤ n → (4 < n → ⊥) → n ≡ 4
exactly_four n least none = ⊎_elim (λ (more : 4 < n). absurd (none more)) (λ most. omega arith) (cases_lt 4 n)

pub read_unfinished : (at : ℕ) (bytes : List ℕ) → IsUnfinished bytes → (standing at bytes ≡ in_progress at bytes) × (frames_of at bytes ≡ [])
read_unfinished at bytes room = by_case (front_cases bytes)
  where
    by_case : FrontCase bytes → (standing at bytes ≡ in_progress at bytes) × (frames_of at bytes ≡ [])
    by_case (early few is) = read_nothing at bytes is
    by_case (too_short there under is) = read_wrong at bytes TooShort is (exactly_four (length bytes) there (λ more. omega (arith, room more)))
    by_case (too_long there over is) = read_wrong at bytes TooLong is (exactly_four (length bytes) there (λ more. omega (arith, room more)))
    by_case (begun there least most open_ is) = read_nothing at bytes is
    by_case (whole there least most full is) = (let more : 4 < length bytes = omega arith in absurd (omega (arith, room more)))

-- one frame, and nothing left
pub read_whole : (at : ℕ) (bytes : List ℕ) → 6 ≤ stated_length bytes → stated_length bytes ≤ 1048576 → length bytes ≡ stated_length bytes →
    (standing at bytes ≡ in_progress (at + length bytes) []) × (frames_of at bytes ≡ record { at = at; frame = frame_of bytes } ∷ [])
read_whole at bytes least most exact =
    let n = frame_length (frame_of bytes) in
    let same : n ≡ length bytes = frame_length-frame_of bytes least (omega arith) ∙ sym exact in
    let is : reading at bytes ≡ with_frame at (frame_of bytes) (reading (at + n) (drop n bytes)) =
    reading-step at bytes ∙ ap (λ (f : Front). read_by f at bytes reading) (front_whole bytes (omega arith) least most (omega arith)) in
    let none : reading (at + n) (drop n bytes) ≡ record { frames = []; fault = None; rest = [] } =
    ap (reading (at + n)) (drop_all n bytes (omega arith)) ∙ reading-step (at + n) [] in
    let all : reading at bytes ≡ record { frames = record { at = at; frame = frame_of bytes } ∷ []; fault = None; rest = [] } =
    is ∙ ap (with_frame at (frame_of bytes)) none in (
      standing-is at bytes ∙ ap (standing_of at (length bytes)) all ∙ ap (λ (p : ℕ). in_progress (at + p) []) (let z : length bytes - 0 ≡ length bytes = omega arith in z),
      ap (λ (r : Reading). r.frames) all,
    )
