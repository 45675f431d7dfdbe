-- How a reading goes on, frame by frame.
use Rattle.std.proofs.Common.{◌≡◌, ℕ, zero, suc, ◌+◌, ◌≤◌, List, [], ◌∷◌, length, take, drop, None, Some, refl, sym, ◌∙◌, ap, arith}
use Rattle.std.proofs.lemmas.List.{length-take-le, length-drop}
use Rattle.frame_codec.specs.Frames.{frame_length}
use Rattle.frame_codec.specs.Reading.{Front, Partial, Whole, Wrong, front, stated_length, frame_of, Reading, with_frame, reading_within, reading}
use Rattle.frame_codec.specs.declared.malformed.Why.{Why}
use Rattle.frame_codec.specs.declared.malformed.Why.TheVariants.{TooShort, TooLong}
use Rattle.frame_codec.proofs.Fronts.{FrontCase, early, too_short, too_long, begun, whole, front_cases}

-- one step of a reading, by what the text begins with
abbrev pub read_by : Front → ℕ → List ℕ → (ℕ → List ℕ → Reading) → Reading
read_by begins at text next =
    elim begins [
      | Partial ↦ record { frames = []; fault = None; rest = text }
      | Wrong why ↦ record { frames = []; fault = Some (record { at = at; why = why }); rest = text }
      | Whole frame ↦ with_frame at frame (next (at + frame_length frame) (drop (frame_length frame) text))
    ]

pub reading_within-suc : (bound at : ℕ) (text : List ℕ) → reading_within (suc bound) at text ≡ read_by (front text) at text (reading_within bound)
reading_within-suc bound at text = refl

-- the length of a frame that is read is the one that was stated
pub frame_length-frame_of : (text : List ℕ) → 6 ≤ stated_length text → stated_length text ≤ length text → frame_length (frame_of text) ≡ stated_length text
frame_length-frame_of text least full = omega (arith, length-drop 6 (take (stated_length text) text), length-take-le (stated_length text) text full)

pub stated_within : (text : List ℕ) → 6 ≤ stated_length text → stated_length text ≤ length text → frame_length (frame_of text) ≤ length text
stated_within text least full = omega (arith, frame_length-frame_of text least full)

-- what is read alike with two ways to go on
alike : (begins : Front) (at : ℕ) (text : List ℕ) (next other : ℕ → List ℕ → Reading) → front text ≡ begins →
    read_by begins at text next ≡ read_by begins at text other → read_by (front text) at text next ≡ read_by (front text) at text other
alike begins at text next other is e =
    ap (λ (f : Front). read_by f at text next) is ∙ e ∙ ap (λ (f : Front). read_by f at text other) (sym is)

-- It's enough that they agree after the first frame.
alike_after : (at : ℕ) (text : List ℕ) (next other : ℕ → List ℕ → Reading) →
    (6 ≤ frame_length (frame_of text) → frame_length (frame_of text) ≤ length text →
    next (at + frame_length (frame_of text)) (drop (frame_length (frame_of text)) text) ≡ other (at + frame_length (frame_of text)) (drop (frame_length (frame_of text)) text)) →
    read_by (front text) at text next ≡ read_by (front text) at text other
alike_after at text next other after = by_case (front_cases text)
  where
    by_case : FrontCase text → read_by (front text) at text next ≡ read_by (front text) at text other
    by_case (early few is) = alike Partial at text next other is refl
    by_case (too_short there under is) = alike (Wrong TooShort) at text next other is refl
    by_case (too_long there over is) = alike (Wrong TooLong) at text next other is refl
    by_case (begun there least most open_ is) = alike Partial at text next other is refl
    by_case (whole there least most full is) =
        alike (Whole (frame_of text)) at text next other is
        (ap (with_frame at (frame_of text)) (after (omega (arith, frame_length-frame_of text least full)) (stated_within text least full)))

-- A bound that is no less than the text is as good as any other.
enough : (m n at : ℕ) (text : List ℕ) → length text ≤ m → length text ≤ n → reading_within m at text ≡ reading_within n at text
enough zero zero at text h k = refl
enough zero (suc n) at [] h k = refl
enough zero (suc n) at (b ∷ text) h k = absurd (omega arith)
enough (suc m) zero at [] h k = refl
enough (suc m) zero at (b ∷ text) h k = absurd (omega arith)
enough (suc m) (suc n) at text h k =
    alike_after at text (reading_within m) (reading_within n)
    (λ least full.
    enough m n (at + frame_length (frame_of text)) (drop (frame_length (frame_of text)) text)
    (omega (arith, length-drop (frame_length (frame_of text)) text)) (omega (arith, length-drop (frame_length (frame_of text)) text)))

-- A reading is a step and the reading of what is left.
pub reading-step : (at : ℕ) (text : List ℕ) → reading at text ≡ read_by (front text) at text reading
unfolding reading
reading-step at [] = refl
reading-step at (b ∷ text) =
    alike_after at (b ∷ text) (reading_within (length text)) reading
    (λ least full.
    enough (length text) _ (at + frame_length (frame_of (b ∷ text))) (drop (frame_length (frame_of (b ∷ text))) (b ∷ text))
    (omega (arith, length-drop (frame_length (frame_of (b ∷ text))) (b ∷ text))) (omega arith))

-- what a text is read as, case by case
pub data ReadingCase (at : ℕ) (text : List ℕ) : Type 0 where
  nothing : (partial : front text ≡ Partial) (is : reading at text ≡ record { frames = []; fault = None; rest = text }) → ReadingCase at text
  ended : (why : Why) (wrong : front text ≡ Wrong why) (is : reading at text ≡ record { frames = []; fault = Some (record { at = at; why = why }); rest = text }) → ReadingCase at text
  begins : (least : 6 ≤ frame_length (frame_of text)) (full : frame_length (frame_of text) ≤ length text) (whole : front text ≡ Whole (frame_of text))
      (is : reading at text ≡ with_frame at (frame_of text) (reading (at + frame_length (frame_of text)) (drop (frame_length (frame_of text)) text))) → ReadingCase at text

pub reading_cases : (at : ℕ) (text : List ℕ) → ReadingCase at text
reading_cases at text = by_case (front_cases text)
  where
    read : (f : Front) → front text ≡ f → reading at text ≡ read_by f at text reading
    read f is = reading-step at text ∙ ap (λ (f : Front). read_by f at text reading) is

    by_case : FrontCase text → ReadingCase at text
    by_case (early few is) = nothing is (read Partial is)
    by_case (too_short there under is) = ended TooShort is (read (Wrong TooShort) is)
    by_case (too_long there over is) = ended TooLong is (read (Wrong TooLong) is)
    by_case (begun there least most open_ is) = nothing is (read Partial is)
    by_case (whole there least most full is) =
        begins (omega (arith, frame_length-frame_of text least full)) (stated_within text least full) is (read (Whole (frame_of text)) is)
