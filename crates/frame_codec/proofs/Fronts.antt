-- What a text begins with, case by case.
use Rattle.std.proofs.Common.{◌≡◌, ℕ, ◌<◌, ◌≤◌, nat_lt, true, false, List, ◌++◌, length, drop, refl, sym, ◌∙◌, ap, arith, ⊎_elim, length-append}
use Rattle.std.proofs.lemmas.List.{take-append-le, drop-append-le, length-drop}
use Rattle.std.proofs.lemmas.Bool.{cases_lt}
use Rattle.std.proofs.lemmas.Bool.Decides.{nat_tests}
use Rattle.std.specs.Int.{w32, from_le_bytes}
use Rattle.frame_codec.specs.Reading.{Partial, Whole, Wrong, front, stated_length, frame_of}
use Rattle.frame_codec.specs.declared.frames.Frame.{Frame}
use Rattle.frame_codec.specs.declared.malformed.Why.{Why}
use Rattle.frame_codec.specs.declared.malformed.Why.TheVariants.{TooShort, TooLong}

less : (a b : ℕ) → a < b → nat_lt a b ≡ true
less a b h = grind (arith, nat_tests)

not_less : (a b : ℕ) → b ≤ a → nat_lt a b ≡ false
not_less a b h = grind (arith, nat_tests)

pub data FrontCase (text : List ℕ) : Type 0 where
  -- the length isn't there
  early : (few : length text < 4) (is : front text ≡ Partial) → FrontCase text
  too_short : (there : 4 ≤ length text) (under : stated_length text < 6) (is : front text ≡ Wrong TooShort) → FrontCase text
  too_long : (there : 4 ≤ length text) (over : 1048576 < stated_length text) (is : front text ≡ Wrong TooLong) → FrontCase text
  begun : (there : 4 ≤ length text) (least : 6 ≤ stated_length text) (most : stated_length text ≤ 1048576) (open_ : length text < stated_length text) (is : front text ≡ Partial) → FrontCase text
  whole : (there : 4 ≤ length text) (least : 6 ≤ stated_length text) (most : stated_length text ≤ 1048576) (full : stated_length text ≤ length text) (is : front text ≡ Whole (frame_of text)) → FrontCase text

pub front_early : (text : List ℕ) → length text < 4 → front text ≡ Partial
front_early text h = rw (less (length text) 4 h) refl

pub front_too_short : (text : List ℕ) → 4 ≤ length text → stated_length text < 6 → front text ≡ Wrong TooShort
front_too_short text h s = rw (not_less (length text) 4 h, less (stated_length text) 6 s) refl

pub front_too_long : (text : List ℕ) → 4 ≤ length text → 1048576 < stated_length text → front text ≡ Wrong TooLong
front_too_long text h s = rw (not_less (length text) 4 h, not_less (stated_length text) 6 (omega arith), less 1048576 (stated_length text) s) refl

pub front_begun : (text : List ℕ) → 4 ≤ length text → 6 ≤ stated_length text → stated_length text ≤ 1048576 → length text < stated_length text → front text ≡ Partial
front_begun text h a b o =
    rw (not_less (length text) 4 h, not_less (stated_length text) 6 a, not_less 1048576 (stated_length text) b, less (length text) (stated_length text) o) refl

pub front_whole : (text : List ℕ) → 4 ≤ length text → 6 ≤ stated_length text → stated_length text ≤ 1048576 → stated_length text ≤ length text → front text ≡ Whole (frame_of text)
front_whole text h a b f =
    rw (not_less (length text) 4 h, not_less (stated_length text) 6 a, not_less 1048576 (stated_length text) b, not_less (length text) (stated_length text) f) refl

pub front_cases : (text : List ℕ) → FrontCase text
front_cases text = ⊎_elim (λ h. early h (front_early text h)) there (cases_lt (length text) 4)
  where
    full : 4 ≤ length text → 6 ≤ stated_length text → stated_length text ≤ 1048576 → FrontCase text
    full h a b =
        ⊎_elim (λ o. begun h a b o (front_begun text h a b o)) (λ f. whole h a b f (front_whole text h a b f)) (cases_lt (length text) (stated_length text))

    limited : 4 ≤ length text → 6 ≤ stated_length text → FrontCase text
    limited h a = ⊎_elim (λ s. too_long h s (front_too_long text h s)) (λ b. full h a b) (cases_lt 1048576 (stated_length text))

    there : 4 ≤ length text → FrontCase text
    there h = ⊎_elim (λ s. too_short h s (front_too_short text h s)) (λ a. limited h a) (cases_lt (stated_length text) 6)

-- more bytes after a text

pub stated_length-append : (text more : List ℕ) → 4 ≤ length text → stated_length (text ++ more) ≡ stated_length text
stated_length-append text more there = ap (from_le_bytes w32) (take-append-le 4 text more there)

pub frame_of-append : (text more : List ℕ) → 6 ≤ length text → stated_length text ≤ length text → frame_of (text ++ more) ≡ frame_of text
frame_of-append text more header full =
    rw (
      stated_length-append text more (omega arith),
      take-append-le (stated_length text) text more full,
      drop-append-le 4 text more (omega arith),
      take-append-le 2 (drop 4 text) more (omega (arith, length-drop 4 text)),
    ) refl

-- A whole frame stays what it is.
pub front-append_whole : (text more : List ℕ) → 6 ≤ stated_length text → stated_length text ≤ 1048576 → stated_length text ≤ length text →
    front (text ++ more) ≡ Whole (frame_of text)
front-append_whole text more least most full =
    let stated = stated_length-append text more (omega arith) in
    let long = length-append text more in
    front_whole (text ++ more) (omega (arith, long)) (omega (arith, stated)) (omega (arith, stated)) (omega (arith, stated, long))
    ∙ ap Whole (frame_of-append text more (omega arith) full)

-- Nor does a wrong length change.
pub front-append_wrong : (text more : List ℕ) (why : Why) → front text ≡ Wrong why → front (text ++ more) ≡ Wrong why
front-append_wrong text more why wrong = by_case (front_cases text)
  where
    by_case : FrontCase text → front (text ++ more) ≡ Wrong why
    by_case (early few is) = absurd (cc)
    by_case (too_short there under is) =
        front_too_short (text ++ more) (omega (arith, length-append text more)) (omega (arith, stated_length-append text more there)) ∙ sym is ∙ wrong
    by_case (too_long there over is) =
        front_too_long (text ++ more) (omega (arith, length-append text more)) (omega (arith, stated_length-append text more there)) ∙ sym is ∙ wrong
    by_case (begun there least most open_ is) = absurd (cc)
    by_case (whole there least most full is) = absurd (cc)

pub front-append_same_whole : (text more : List ℕ) (frame : Frame) → front text ≡ Whole frame → front (text ++ more) ≡ Whole frame
front-append_same_whole text more frame same = by_case (front_cases text)
  where
    by_case : FrontCase text → front (text ++ more) ≡ Whole frame
    by_case (early few is) = absurd (cc)
    by_case (too_short there under is) = absurd (cc)
    by_case (too_long there over is) = absurd (cc)
    by_case (begun there least most open_ is) = absurd (cc)
    by_case (whole there least most full is) = front-append_whole text more least most full ∙ sym is ∙ same
