-- The limits of a message: a front of frames that fit fits too, and frames show a fault of size where they don't fit.
use Rattle.std.proofs.Common.{◌≡◌, ◌≤◌, true, false, List, ◌++◌, length, sum_by, Some, None, refl, ◌⊎◌, inl, inr, arith, length-append, nat_lt}
use Rattle.std.proofs.lemmas.Bool.{cases_Bool, and_parts, and_from, leb-true, le-leb, le-ltb}
use Rattle.std.proofs.lemmas.Bool.Decides.{nat_tests}
use Rattle.std.proofs.lemmas.List.Sums.{sum_by-append}
use Rattle.frame_codec.specs.Frames.{frame_length}
use Rattle.frame_codec.specs.declared.frames.Frame.{Frame}
use Rattle.frame_codec.specs.declared.malformed.Why.{Why}
use Rattle.frame_codec.specs.declared.malformed.Why.TheVariants.{ManyFrames, LongMessage}
use Rattle.message_frames.specs.Assembly.{most_frames, most_length, size_fault}
use Rattle.message_frames.specs.Merging.{fits}

pub record Fits (frames : List Frame) : Type 0 where
  pub count : length frames ≤ most_frames
  pub size : sum_by frame_length frames ≤ most_length

pub fits_is : (frames : List Frame) → fits frames ≡ true → Fits frames
fits_is frames e =
    let parts = and_parts _ _ e in
    record { count = leb-true (length frames) most_frames parts.0; size = leb-true (sum_by frame_length frames) most_length parts.1 }

pub is_fits : (frames : List Frame) → Fits frames → fits frames ≡ true
is_fits frames f = and_from _ _ (le-leb _ _ f.count) (le-leb _ _ f.size)

pub front_fits : (xs ys : List Frame) → fits (xs ++ ys) ≡ true → fits xs ≡ true
front_fits xs ys e =
    let f = fits_is (xs ++ ys) e in
    is_fits xs (record { count = omega (arith, f.count, length-append xs ys); size = omega (arith, f.size, sum_by-append frame_length xs ys) })

pub no_size_fault : (frames : List Frame) → fits frames ≡ true → size_fault frames ≡ None
no_size_fault frames e =
    let f = fits_is frames e in
    let few : nat_lt most_frames (length frames) ≡ false = le-ltb _ _ f.count in
    let small : nat_lt most_length (sum_by frame_length frames) ≡ false = le-ltb _ _ f.size in
    rw (few, small) refl

a_size_fault : (frames : List Frame) → fits frames ≡ false → (why : Why) × (size_fault frames ≡ Some why)
a_size_fault frames e = go (cases_Bool (nat_lt most_frames (length frames)))
  where
    go : (nat_lt most_frames (length frames) ≡ true) ⊎ (nat_lt most_frames (length frames) ≡ false) → (why : Why) × (size_fault frames ≡ Some why)
    go (inl many) = (ManyFrames, rw many refl)
    go (inr few) = (LongMessage, let long : nat_lt most_length (sum_by frame_length frames) ≡ true = grind (arith, nat_tests, few, e) in rw (few, long) refl)

-- whether frames fit, and what fault of size they show
pub size_cases : (frames : List Frame) →
    ((fits frames ≡ true) × (size_fault frames ≡ None)) ⊎ ((fits frames ≡ false) × ((why : Why) × (size_fault frames ≡ Some why)))
size_cases frames = go (cases_Bool (fits frames))
  where
    go : (fits frames ≡ true) ⊎ (fits frames ≡ false) → ((fits frames ≡ true) × (size_fault frames ≡ None)) ⊎ ((fits frames ≡ false) × ((why : Why) × (size_fault frames ≡ Some why)))
    go (inl e) = inl (e, no_size_fault frames e)
    go (inr e) = inr (e, a_size_fault frames e)
