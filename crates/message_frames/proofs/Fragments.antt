-- The fragments of a message, as pieces: they keep the rules, and merge to the message.
use Rattle.std.proofs.Common.{◌≡◌, ℕ, suc, ◌^◌, ◌<◌, Bool, true, false, List, [], ◌∷◌, ◌++◌, length, flat_map, sum_by, nat_lt, refl, ◌∙◌, ap, arith, append_assoc, append-nil, length-append}
use Rattle.std.proofs.lemmas.Bool.{and_from, lt-ltb}
use Rattle.std.proofs.lemmas.List.Sums.{sum_by-append, sum_by-cons}
use Rattle.std.proofs.lemmas.Nat.{from_le_bytes-to_le_bytes_8}
use Rattle.frame_codec.specs.Frames.{frame_length}
use Rattle.frame_codec.specs.Laws.{IsWithinLimits}
use Rattle.frame_codec.specs.declared.frames.Frame.{Frame}
use Rattle.message_frames.specs.Assembly.{most_chains, Chain, is_final, is_open, chain_id, frames_of}
use Rattle.message_frames.specs.Grammar.{Piece, is_piece, ends_at_final}
use Rattle.message_frames.specs.Merging.{fits, may_complete, may_come, unfinished, merged, keeps_rules, completes, gathered, chains_after, open_after}
use Rattle.message_frames.specs.Writing.{ended, header_of, fragment_of, chain_from}
use Rattle.message_frames.proofs.Chains.{chain_of, frames_of_opened, open_when_opened, none_of_closed, changed_when_opened, without_opened}
use Rattle.message_frames.proofs.FinalFlag.{final_when_set, unset_when_set, limits_when_set}
use Rattle.message_frames.proofs.Pieces.{others_follow}
use Rattle.message_frames.proofs.Sizes.{fits_is, is_fits, front_fits}

-- the frames of a fragment that others follow

abbrev pub NoneFinal : List Frame → Type 0
NoneFinal [] = Unit {0}
NoneFinal (frame ∷ frames) = (is_final frame ≡ false) × NoneFinal frames

abbrev pub EachWithin : List Frame → Type 0
EachWithin [] = Unit {0}
EachWithin (frame ∷ frames) = IsWithinLimits frame × EachWithin frames

-- Of a message's frames those before others aren't final.
pub front_not_final : (front : List Frame) (next : Frame) (more : List Frame) → ends_at_final (front ++ next ∷ more) ≡ true → NoneFinal front × (ends_at_final (next ∷ more) ≡ true)
front_not_final [] next more ends = (tt, ends)
front_not_final (x ∷ []) next more ends = let rest = others_follow x next more ends in ((rest.0, tt), rest.1)
front_not_final (x ∷ y ∷ front) next more ends =
    let rest = others_follow x y (front ++ next ∷ more) ends in
    let later = front_not_final (y ∷ front) next more rest.1 in
    ((rest.0, later.0), later.1)

pub ended_at_final : (frames : List Frame) → 0 < length frames → NoneFinal frames → ends_at_final (ended frames) ≡ true
ended_at_final [] some none = absurd (omega arith)
ended_at_final (x ∷ []) some none = rw (final_when_set x) refl
ended_at_final (x ∷ y ∷ frames) some none = rw none.0 (ended_at_final (y ∷ frames) (omega arith) none.1)

-- Merging takes the final flag away again.
pub unfinished_ended : (frames : List Frame) → EachWithin frames → NoneFinal frames → unfinished (ended frames) ≡ frames
unfinished_ended [] within none = refl
unfinished_ended (x ∷ []) within none = ap (λ f. f ∷ []) (unset_when_set x within.0 none.0)
unfinished_ended (x ∷ y ∷ []) within none = ap (λ f. x ∷ f ∷ []) (unset_when_set y within.1.0 none.1.0)
unfinished_ended (x ∷ y ∷ z ∷ frames) within none = ap (λ fs. x ∷ fs) (unfinished_ended (y ∷ z ∷ frames) within.1 none.1)

ended_length : (frames : List Frame) → length (ended frames) ≡ length frames
ended_length [] = refl
ended_length (x ∷ []) = refl
ended_length (x ∷ y ∷ frames) = ap suc (ended_length (y ∷ frames))

ended_size : (frames : List Frame) → sum_by frame_length (ended frames) ≡ sum_by frame_length frames
ended_size [] = refl
ended_size (x ∷ []) = refl
ended_size (x ∷ y ∷ frames) = omega (arith, ended_size (y ∷ frames), sum_by-cons frame_length x (ended (y ∷ frames)), sum_by-cons frame_length x (y ∷ frames))

pub ended_fits : (before frames : List Frame) → fits (before ++ frames) ≡ true → fits (before ++ ended frames) ≡ true
ended_fits before frames e =
    let f = fits_is (before ++ frames) e in
    is_fits (before ++ ended frames) (record {
      count = omega (arith, f.count, length-append before frames, length-append before (ended frames), ended_length frames);
      size = omega (arith, f.size, sum_by-append frame_length before frames, sum_by-append frame_length before (ended frames), ended_size frames);
    })

pub ended_within : (frames : List Frame) → EachWithin frames → EachWithin (ended frames)
ended_within [] within = tt
ended_within (x ∷ []) within = (limits_when_set x within.0, tt)
ended_within (x ∷ y ∷ frames) within = (within.0, ended_within (y ∷ frames) within.1)

-- one fragment, by its place in the chain

pub id_of_header : (id : ℕ) (first last : Bool) → id < 2 ^ 64 → chain_id (header_of id first last) ≡ id
id_of_header id first last small = from_le_bytes-to_le_bytes_8 id small

-- What a piece does: it may come, completes a message or not, and leaves these chains.
pub record Does (shortest : ℕ) (chains : List Chain) (complete : ℕ) (piece : Piece) (completing : Bool) (frames : List Frame) (after : List Chain) : Type 0 where
  pub form : is_piece piece ≡ true
  pub may : may_come shortest chains complete piece ≡ true
  pub completing_is : completes piece ≡ completing
  pub gathered_is : gathered piece chains ≡ frames
  pub after_is : chains_after piece chains ≡ after

module _ (shortest : ℕ) (id : ℕ) (small : id < 2 ^ 64) (chains : List Chain) (complete : ℕ) (closed : is_open id chains ≡ false) where
  abbrev pub with_chain : List Frame → List Chain
  with_chain frames = chains ++ chain_of id frames ∷ []

  pub first_does : (group : List Frame) → length chains < most_chains → 0 < length group → NoneFinal group → EachWithin group → fits group ≡ true →
      Does shortest chains complete (fragment_of id true false group) false (ended group) (with_chain group)
  first_does group room some none within small_frames =
      let header = header_of id true false in
      let named : chain_id header ≡ id = id_of_header id true false small in
      let free : nat_lt (length chains) most_chains ≡ true = lt-ltb (length chains) most_chains room in
      let nothing : frames_of id chains ≡ [] = none_of_closed id chains closed in
      let fit : fits (ended group) ≡ true = ended_fits [] group small_frames in
      record {
        form = ended_at_final group some none;
        may = rw (named, closed, free, nothing, fit) refl;
        completing_is = refl;
        gathered_is = rw (named, nothing) refl;
        after_is = rw (named, nothing, unfinished_ended group within none) (changed_when_opened id [] group chains closed);
      }

  pub middle_does : (before group : List Frame) → 0 < length group → NoneFinal group → EachWithin group → fits (before ++ group) ≡ true →
      Does shortest (with_chain before) complete (fragment_of id false false group) false (before ++ ended group) (with_chain (before ++ group))
  middle_does before group some none within small_frames =
      let now = with_chain before in
      let header = header_of id false false in
      let named : chain_id header ≡ id = id_of_header id false false small in
      let opened_now : is_open id now ≡ true = open_when_opened id before chains in
      let so_far : frames_of id now ≡ before = frames_of_opened id before chains closed in
      let fit : fits (before ++ ended group) ≡ true = ended_fits before group small_frames in
      record {
        form = ended_at_final group some none;
        may = rw (named, opened_now, so_far, fit) refl;
        completing_is = refl;
        gathered_is = rw (named, so_far) refl;
        after_is = rw (named, so_far, unfinished_ended group within none) (changed_when_opened id before (before ++ group) chains closed);
      }

  pub last_does : (before group : List Frame) → ends_at_final group ≡ true → fits (before ++ group) ≡ true → may_complete shortest complete (before ++ group) ≡ true →
      Does shortest (with_chain before) complete (fragment_of id false true group) true (before ++ group) chains
  last_does before group ends small_frames may =
      let now = with_chain before in
      let header = header_of id false true in
      let named : chain_id header ≡ id = id_of_header id false true small in
      let opened_now : is_open id now ≡ true = open_when_opened id before chains in
      let so_far : frames_of id now ≡ before = frames_of_opened id before chains closed in
      record {
        form = ends;
        may = rw (named, opened_now, so_far, small_frames) may;
        completing_is = refl;
        gathered_is = rw (named, so_far) refl;
        after_is = rw named (without_opened id before chains closed);
      }

-- a whole chain

-- Pieces keep the rules, complete one message, and leave these chains.
pub record Merges (shortest : ℕ) (chains : List Chain) (complete : ℕ) (pieces : List Piece) (frames : List Frame) (after : List Chain) : Type 0 where
  pub rules : keeps_rules shortest chains complete pieces ≡ true
  pub merged_is : merged chains pieces ≡ record { frames = frames } ∷ []
  pub after_is : open_after chains pieces ≡ after

pub merges_one : (shortest : ℕ) (chains : List Chain) (complete : ℕ) (piece : Piece) (frames : List Frame) (after : List Chain) →
    Does shortest chains complete piece true frames after → Merges shortest chains complete (piece ∷ []) frames after
merges_one shortest chains complete piece frames after d =
    record {
      rules = and_from _ _ (and_from _ _ d.form d.may) refl;
      merged_is = rw d.completing_is (ap (λ fs. record { frames = fs } ∷ []) d.gathered_is);
      after_is = d.after_is;
    }

pub merges_more : (shortest : ℕ) (chains : List Chain) (complete : ℕ) (piece : Piece) (pieces : List Piece) (so_far frames : List Frame) (mid after : List Chain) →
    Does shortest chains complete piece false so_far mid → Merges shortest mid complete pieces frames after → Merges shortest chains complete (piece ∷ pieces) frames after
merges_more shortest chains complete piece pieces so_far frames mid after d m =
    record {
      rules = and_from _ _ (and_from _ _ d.form d.may) (rw (d.after_is, d.completing_is) m.rules);
      merged_is = rw (d.completing_is, d.after_is) m.merged_is;
      after_is = ap (λ cs. open_after cs pieces) d.after_is ∙ m.after_is;
    }

abbrev pub joined_groups : List (List Frame) → List Frame
joined_groups groups = flat_map (λ group. group) groups

abbrev pub EachSome : List (List Frame) → Type 0
EachSome [] = Unit {0}
EachSome (group ∷ groups) = (0 < length group) × EachSome groups

within_front : (xs ys : List Frame) → EachWithin (xs ++ ys) → EachWithin xs × EachWithin ys
within_front [] ys within = (tt, within)
within_front (x ∷ xs) ys within = let later = within_front xs ys within.1 in ((within.0, later.0), later.1)

module _ (shortest : ℕ) (id : ℕ) (small : id < 2 ^ 64) (chains : List Chain) (complete : ℕ) (closed : is_open id chains ≡ false) where
  abbrev opened_chain : List Frame → List Chain
  opened_chain frames = chains ++ chain_of id frames ∷ []

  later_fragments : (before : List Frame) (groups : List (List Frame)) → 0 < length groups → EachSome groups → EachWithin (joined_groups groups) →
      ends_at_final (joined_groups groups) ≡ true → fits (before ++ joined_groups groups) ≡ true → may_complete shortest complete (before ++ joined_groups groups) ≡ true →
      Merges shortest (opened_chain before) complete (chain_from id false groups) (before ++ joined_groups groups) chains
  later_fragments before [] some each within ends fit may = absurd (omega arith)
  later_fragments before (group ∷ []) some each within ends fit may =
      let whole : group ++ [] ≡ group = append-nil group in
      rw whole (merges_one shortest (opened_chain before) complete (fragment_of id false true group) (before ++ group) chains
      (last_does shortest id small chains complete closed before group (rw whole at ends) (rw whole at fit) (rw whole at may)))
  later_fragments before (group ∷ [] ∷ groups) some each within ends fit may = absurd (omega (arith, each.1.0))
  later_fragments before (group ∷ (y ∷ next) ∷ groups) some each within ends fit may =
      let rest = (y ∷ next) ∷ groups in
      let none = front_not_final group y (next ++ joined_groups groups) ends in
      let parts = within_front group (joined_groups rest) within in
      let here = middle_does shortest id small chains complete closed before group each.0 none.0 parts.0 (front_fits (before ++ group) (joined_groups rest) (rw append_assoc fit)) in
      let later = later_fragments (before ++ group) ((y ∷ next) ∷ groups) (omega arith) each.1 parts.1 none.1 (rw append_assoc fit) (rw append_assoc may) in
      merges_more shortest (opened_chain before) complete (fragment_of id false false group) (chain_from id false rest) (before ++ ended group) (before ++ (group ++ joined_groups rest))
      (opened_chain (before ++ group)) chains here (rw append_assoc at later)

  -- A message in two fragments or more.
  pub fragments_merge : (group : List Frame) (groups : List (List Frame)) → length chains < most_chains → 0 < length groups → EachSome (group ∷ groups) →
      EachWithin (group ++ joined_groups groups) → ends_at_final (group ++ joined_groups groups) ≡ true → fits (group ++ joined_groups groups) ≡ true →
      may_complete shortest complete (group ++ joined_groups groups) ≡ true →
      Merges shortest chains complete (chain_from id true (group ∷ groups)) (group ++ joined_groups groups) chains
  fragments_merge group [] room some each within ends fit may = absurd (omega arith)
  fragments_merge group ([] ∷ groups) room some each within ends fit may = absurd (omega (arith, each.1.0))
  fragments_merge group ((y ∷ next) ∷ groups) room some each within ends fit may =
      let rest = (y ∷ next) ∷ groups in
      let none = front_not_final group y (next ++ joined_groups groups) ends in
      let parts = within_front group (joined_groups rest) within in
      let here = first_does shortest id small chains complete closed group room each.0 none.0 parts.0 (front_fits group (joined_groups rest) fit) in
      let later = later_fragments group rest some each.1 parts.1 none.1 fit may in
      merges_more shortest chains complete (fragment_of id true false group) (chain_from id false rest) (ended group) (group ++ joined_groups rest)
      (opened_chain group) chains here later
