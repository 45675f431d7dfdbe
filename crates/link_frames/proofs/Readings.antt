-- How a reading goes on, part by part, and with more bytes.
use Rattle.std.proofs.Common.{◌≡◌, ℕ, zero, suc, ◌+◌, ◌<◌, ◌≤◌, Option, None, Some, List, [], ◌∷◌, ◌++◌, length, drop, refl, sym, ◌∙◌, ap, arith}
use Rattle.std.proofs.lemmas.List.{drop-append-le, length-drop}
use Rattle.link_frames.specs.Reading.{front, next_stage, Reading, ended, with_part, read_by, reading_within, reading}
use Rattle.link_frames.specs.Feeding.{with_parts}
use Rattle.link_frames.specs.declared.fault.LinkFault.{LinkFault}
use Rattle.link_frames.specs.declared.fronts.Front.{Front}
use Rattle.link_frames.specs.declared.fronts.Front.TheVariants.{Partial, Whole, Wrong}
use Rattle.link_frames.specs.declared.parts.LinkPart.{LinkPart}
use Rattle.link_frames.specs.declared.parts.Stage.{Stage}
use Rattle.link_frames.proofs.Beginnings.{FrontCase, begun, fails, gives, front_cases}

-- It's enough that two ways to go on agree after the first part.
alike_after : (at : Stage) (text : List ℕ) (next other : Stage → List ℕ → Reading)
    → ((n : ℕ) → 0 < n → n ≤ length text → next (next_stage at) (drop n text) ≡ other (next_stage at) (drop n text))
    → read_by (front at text) at text next ≡ read_by (front at text) at text other
alike_after at text next other after = by_case (front_cases at text)
  where
    by_case : FrontCase at text → read_by (front at text) at text next ≡ read_by (front at text) at text other
    by_case (begun is) = rw is refl
    by_case (fails why some is stays) = rw is refl
    by_case (gives part n some within is stays) = rw is (ap (with_part part) (after n some within))

-- A text of no bytes begins with no part.
pub nothing_begins : (at : Stage) (text : List ℕ) → length text ≤ 0 → front at text ≡ Partial
nothing_begins at text none = by_case (front_cases at text)
  where
    by_case : FrontCase at text → front at text ≡ Partial
    by_case (begun is) = is
    by_case (fails why some is stays) = absurd (omega arith)
    by_case (gives part n some within is stays) = absurd (omega arith)

-- A bound that is no less than the text is as good as any other.
enough : (m n : ℕ) (at : Stage) (text : List ℕ) → length text ≤ m → length text ≤ n → reading_within m at text ≡ reading_within n at text
enough zero zero at text h k = refl
enough zero (suc n) at text h k = sym (ap (λ f. read_by f at text (reading_within n)) (nothing_begins at text h))
enough (suc m) zero at text h k = ap (λ f. read_by f at text (reading_within m)) (nothing_begins at text k)
enough (suc m) (suc n) at text h k =
    alike_after at text (reading_within m) (reading_within n)
    (λ size some within. enough m n (next_stage at) (drop size text) (omega (arith, length-drop size text)) (omega (arith, length-drop size text)))

-- A reading is a step and the reading of what is left.
pub reading-step : (at : Stage) (text : List ℕ) → reading at text ≡ read_by (front at text) at text reading
unfolding reading
reading-step at [] = sym (ap (λ f. read_by f at [] reading) (nothing_begins at [] (omega arith)))
reading-step at (b ∷ text) =
    alike_after at (b ∷ text) (reading_within (length text)) reading
    (λ size some within.
    enough (length text) _ (next_stage at) (drop size (b ∷ text)) (omega (arith, length-drop size (b ∷ text))) (omega arith))

-- what a text is read as, case by case
pub data ReadingCase (at : Stage) (text : List ℕ) : Type 0 where
  nothing : (partial : front at text ≡ Partial) (is : reading at text ≡ ended None at text) → ReadingCase at text
  stops : (why : LinkFault) (wrong : front at text ≡ Wrong why) (stays : (more : List ℕ) → front at (text ++ more) ≡ Wrong why)
      (is : reading at text ≡ ended (Some why) at text) → ReadingCase at text
  begins : (part : LinkPart) (n : ℕ) (some : 0 < n) (within : n ≤ length text) (whole : front at text ≡ Whole part n)
      (stays : (more : List ℕ) → front at (text ++ more) ≡ Whole part n)
      (is : reading at text ≡ with_part part (reading (next_stage at) (drop n text))) → ReadingCase at text

-- the step, where it is known what the text begins with
pub read_as : (at : Stage) (text : List ℕ) (f : Front) → front at text ≡ f → reading at text ≡ read_by f at text reading
read_as at text f is = reading-step at text ∙ ap (λ g. read_by g at text reading) is

pub reading_cases : (at : Stage) (text : List ℕ) → ReadingCase at text
reading_cases at text = by_case (front_cases at text)
  where
    by_case : FrontCase at text → ReadingCase at text
    by_case (begun is) = nothing is (read_as at text Partial is)
    by_case (fails why some is stays) = stops why is stays (read_as at text (Wrong why) is)
    by_case (gives part n some within is stays) = begins part n some within is stays (read_as at text (Whole part n) is)

-- more bytes

-- what a reading becomes with more bytes, by its fault
abbrev pub goes_on_by : Option LinkFault → Reading → List ℕ → Reading
goes_on_by None r more = with_parts r.parts (reading r.stage (r.rest ++ more))
goes_on_by (Some fault) r more = record r { rest = r.rest ++ more }

-- A reading goes on alike with a part before it.
goes_on-with_part : (fault : Option LinkFault) (part : LinkPart) (r : Reading) (more : List ℕ)
    → goes_on_by fault (with_part part r) more ≡ with_part part (goes_on_by fault r more)
goes_on-with_part None part r more = refl
goes_on-with_part (Some fault) part r more = refl

append_by : (at : Stage) (text more : List ℕ)
    → ((to : Stage) (later : List ℕ) → length later < length text → reading to (later ++ more) ≡ goes_on_by (reading to later).fault (reading to later) more)
    → reading at (text ++ more) ≡ goes_on_by (reading at text).fault (reading at text) more
append_by at text more shorter = by_case (reading_cases at text)
  where
    by_case : ReadingCase at text → reading at (text ++ more) ≡ goes_on_by (reading at text).fault (reading at text) more
    by_case (nothing partial is) = rw is refl
    by_case (stops why wrong stays is) = rw is (read_as at (text ++ more) (Wrong why) (stays more))
    by_case (begins part n some within whole stays is) =
        let later = drop n text in
        let less : length later < length text = omega (arith, length-drop n text) in
        rw is
        (read_as at (text ++ more) (Whole part n) (stays more)
        ∙ ap (λ (xs : List ℕ). with_part part (reading (next_stage at) xs)) (drop-append-le n text more within)
        ∙ ap (with_part part) (shorter (next_stage at) later less)
        ∙ sym (goes_on-with_part (reading (next_stage at) later).fault part (reading (next_stage at) later) more))

append_within : (bound : ℕ) (at : Stage) (text more : List ℕ) → length text ≤ bound
    → reading at (text ++ more) ≡ goes_on_by (reading at text).fault (reading at text) more
append_within zero at text more few = append_by at text more (λ to later less. absurd (omega arith))
append_within (suc bound) at text more few = append_by at text more (λ to later less. append_within bound to later more (omega arith))

pub reading-append : (at : Stage) (text more : List ℕ) → reading at (text ++ more) ≡ goes_on_by (reading at text).fault (reading at text) more
reading-append at text more = append_within (length text) at text more (omega arith)
