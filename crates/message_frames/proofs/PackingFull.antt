-- Packing keeps the frames in order, gives no empty fragment, and fills each one.
use Rattle.std.proofs.Common.{◌≡◌, ℕ, ◌+◌, ◌-◌, ◌<◌, ◌≤◌, true, false, List, [], ◌∷◌, ◌++◌, length, sum_by, nat_le, refl, sym, ◌∙◌, ap, subst, ◌⊎◌, inl, inr, arith, append-nil}
use Rattle.std.proofs.lemmas.Bool.{cases_Bool, cases_lt}
use Rattle.std.proofs.lemmas.List.Sums.{sum_by_push}
use Rattle.frame_codec.specs.Frames.{frame_length}
use Rattle.frame_codec.specs.declared.frames.Frame.{Frame}
use Rattle.message_frames.specs.Writing.{with_first, packed_behind, packed, IsWithin, IsFull, ArePacked, packing_is_full}
use Rattle.message_frames.proofs.Fragments.{joined_groups, EachSome}
use Rattle.message_frames.proofs.Packing.{glued, glued_twice, packed_first, packed_fits, packed_full}

-- the frames in order

joined_with_first : (frame : Frame) (groups : List (List Frame)) → joined_groups (with_first frame groups) ≡ frame ∷ joined_groups groups
joined_with_first frame [] = refl
joined_with_first frame (group ∷ groups) = refl

joined_behind : (size room : ℕ) (frames : List Frame) → joined_groups (packed_behind size room frames) ≡ frames
joined_behind size room [] = refl
joined_behind size room (frame ∷ frames) = go (cases_Bool (nat_le (frame_length frame) room)) (joined_behind size (room - frame_length frame) frames) (joined_behind size (size - frame_length frame) frames)
  where
    go : (nat_le (frame_length frame) room ≡ true) ⊎ (nat_le (frame_length frame) room ≡ false) →
        joined_groups (packed_behind size (room - frame_length frame) frames) ≡ frames → joined_groups (packed_behind size (size - frame_length frame) frames) ≡ frames →
        joined_groups (packed_behind size room (frame ∷ frames)) ≡ frame ∷ frames
    go (inl fits) here next = rw fits (joined_with_first frame (packed_behind size (room - frame_length frame) frames) ∙ ap (λ fs. frame ∷ fs) here)
    go (inr full) here next = rw full (joined_with_first frame (packed_behind size (size - frame_length frame) frames) ∙ ap (λ fs. frame ∷ fs) next)

pub joined_packed : (size : ℕ) (frames : List Frame) → joined_groups (packed size frames) ≡ frames
joined_packed size [] = refl
joined_packed size (frame ∷ frames) =
    joined_with_first frame (packed_behind size (size - frame_length frame) frames) ∙ ap (λ fs. frame ∷ fs) (joined_behind size (size - frame_length frame) frames)

-- what fills a fragment

within_one : (size : ℕ) (front : List Frame) (frame : Frame) → sum_by frame_length (front ++ frame ∷ []) ≤ size → IsWithin size (front ++ frame ∷ [])
within_one size [] frame small = tt
within_one size (x ∷ []) frame small = small
within_one size (x ∷ y ∷ front) frame small = small

full_behind : (size : ℕ) (front : List Frame) (frame : Frame) (groups : List (List Frame)) → size < sum_by frame_length front + frame_length frame → IsFull size front (with_first frame groups)
full_behind size front frame [] full = full
full_behind size front frame (group ∷ groups) full = full

one_long : (frame : Frame) → sum_by frame_length (frame ∷ []) ≡ frame_length frame
one_long frame = omega (arith, sum_by_push frame_length [] frame)

-- From a fragment's first frames on.
packed_from : (size : ℕ) (front frames : List Frame) → IsWithin size front →
    ArePacked size (glued front (packed_behind size (size - sum_by frame_length front) frames))
packed_from size front [] within = (rw append-nil within, tt, tt)
packed_from size front (frame ∷ frames) within =
    go (cases_lt size (sum_by frame_length front + frame_length frame)) (packed_from size (front ++ frame ∷ []) frames) (packed_from size (frame ∷ []) frames tt)
  where
    go : (size < sum_by frame_length front + frame_length frame) ⊎ (sum_by frame_length front + frame_length frame ≤ size) →
        (IsWithin size (front ++ frame ∷ []) → ArePacked size (glued (front ++ frame ∷ []) (packed_behind size (size - sum_by frame_length (front ++ frame ∷ [])) frames))) →
        ArePacked size (glued (frame ∷ []) (packed_behind size (size - sum_by frame_length (frame ∷ [])) frames)) →
        ArePacked size (glued front (packed_behind size (size - sum_by frame_length front) (frame ∷ frames)))
    go (inl full) here next =
        let behind : ArePacked size (packed size (frame ∷ frames)) = rw (packed_first, ← (one_long frame)) next in
        subst (λ groups. ArePacked size (glued front groups)) (sym (packed_full size (sum_by frame_length front) frame frames full))
        (rw append-nil within, rw append-nil (full_behind size front frame (packed_behind size (size - frame_length frame) frames) full), behind)
    go (inr fits) here next =
        let longer : sum_by frame_length front + frame_length frame ≡ sum_by frame_length (front ++ frame ∷ []) = sym (sum_by_push frame_length front frame) in
        let within_more : IsWithin size (front ++ frame ∷ []) = within_one size front frame (omega (arith, longer, fits)) in
        subst (λ groups. ArePacked size groups)
        (sym (ap (glued front) (packed_fits size (sum_by frame_length front) frame frames fits ∙ ap (λ n. glued (frame ∷ []) (packed_behind size (size - n) frames)) longer)
        ∙ glued_twice front (frame ∷ []) (packed_behind size (size - sum_by frame_length (front ++ frame ∷ [])) frames)))
        (here within_more)

pub packed_groups : (size : ℕ) (frames : List Frame) → ArePacked size (packed size frames)
packed_groups size [] = tt
packed_groups size (frame ∷ frames) = rw (packed_first, ← (one_long frame)) (packed_from size (frame ∷ []) frames tt)

pub packing_full : packing_is_full
packing_full size frames = record { whole = joined_packed size frames; full = packed_groups size frames }

-- no empty fragment

some_within : (size : ℕ) (frames : List Frame) → IsWithin size frames → 0 < length frames
some_within size [] within = absurd within
some_within size (frame ∷ frames) within = omega arith

pub each_some : (size : ℕ) (groups : List (List Frame)) → ArePacked size groups → EachSome groups
each_some size [] full = tt
each_some size (frames ∷ groups) full = (some_within size frames full.0, each_some size groups full.2)
