-- What is written goes on a stream and adds its message.
use Rattle.std.proofs.Common.{◌≡◌, ℕ, ◌+◌, ◌<◌, Bool, true, false, List, [], ◌∷◌, ◌++◌, length, All, refl, sym, ◌∙◌, ap, subst, ◌⊎◌, inl, inr, arith, append-nil, add-zero, zero-add}
use Rattle.std.proofs.lemmas.Bool.{cases_Bool, and_parts, and_from, false≢true, le-leb, lt-ltb}
use Rattle.std.proofs.lemmas.List.Elements.{All-nil, All-cons, All-head, All-tail, All-append}
use Rattle.frame_codec.specs.Laws.{IsWithinLimits}
use Rattle.frame_codec.specs.declared.frames.Frame.{Frame}
use Rattle.message_frames.specs.Assembly.{Chain}
use Rattle.message_frames.specs.Grammar.{Piece, Unfragmented, is_piece, ends_at_final}
use Rattle.message_frames.specs.Laws.{IsStream, messages_in}
use Rattle.message_frames.specs.Merging.{fits, may_complete, completes, gathered, merged, keeps_rules, chains_after, complete_after, open_after}
use Rattle.message_frames.specs.Writing.{IsWritable, packed, header_of, fragment_of, chain_from, chain_of_groups, ended, AddsMessage, HasRoomFor, HasRoomForChain, a_written_message_is_heard, written_fragments_are_heard}
use Rattle.message_frames.proofs.Fragments.{EachWithin, ended_within, Merges, fragments_merge, joined_groups, EachSome}
use Rattle.message_frames.proofs.HeardPieces.{AreFrames}
use Rattle.message_frames.proofs.PackingFull.{joined_packed, packed_groups, each_some}

-- lists of pieces in two parts

one_counted : (chains : List Chain) (complete : ℕ) (piece : Piece) (pieces : List Piece) →
    complete + length (merged chains (piece ∷ pieces)) ≡ complete_after piece complete + length (merged (chains_after piece chains) pieces)
one_counted chains complete piece pieces = go (cases_Bool (completes piece))
  where
    go : (completes piece ≡ true) ⊎ (completes piece ≡ false) → complete + length (merged chains (piece ∷ pieces)) ≡ complete_after piece complete + length (merged (chains_after piece chains) pieces)
    go (inl e) = rw e (omega arith)
    go (inr e) = rw e refl

rules_joined : (shortest : ℕ) (chains : List Chain) (complete : ℕ) (pieces more : List Piece) → keeps_rules shortest chains complete pieces ≡ true →
    keeps_rules shortest (open_after chains pieces) (complete + length (merged chains pieces)) more ≡ true → keeps_rules shortest chains complete (pieces ++ more) ≡ true
rules_joined shortest chains complete [] more rules later = rw add-zero at later
rules_joined shortest chains complete (piece ∷ pieces) more rules later =
    let parts = and_parts _ _ rules in
    let counted : complete + length (merged chains (piece ∷ pieces)) ≡ complete_after piece complete + length (merged (chains_after piece chains) pieces) = one_counted chains complete piece pieces in
    and_from _ _ parts.0 (rules_joined shortest (chains_after piece chains) (complete_after piece complete) pieces more parts.1 (rw counted at later))

merged_joined : (chains : List Chain) (pieces more : List Piece) → merged chains (pieces ++ more) ≡ merged chains pieces ++ merged (open_after chains pieces) more
merged_joined chains [] more = refl
merged_joined chains (piece ∷ pieces) more = go (cases_Bool (completes piece)) (merged_joined (chains_after piece chains) pieces more)
  where
    go : (completes piece ≡ true) ⊎ (completes piece ≡ false) →
        merged (chains_after piece chains) (pieces ++ more) ≡ merged (chains_after piece chains) pieces ++ merged (open_after (chains_after piece chains) pieces) more →
        merged chains (piece ∷ pieces ++ more) ≡ merged chains (piece ∷ pieces) ++ merged (open_after chains (piece ∷ pieces)) more
    go (inl e) later = rw e (ap (λ ms. record { frames = gathered piece chains } ∷ ms) later)
    go (inr e) later = rw e later

open_joined : (chains : List Chain) (pieces more : List Piece) → open_after chains (pieces ++ more) ≡ open_after (open_after chains pieces) more
open_joined chains [] more = refl
open_joined chains (piece ∷ pieces) more = open_joined (chains_after piece chains) pieces more

-- Pieces that merge to a message add it.
adds : (shortest : ℕ) (pieces more : List Piece) (frames : List Frame) → IsStream shortest pieces → All AreFrames more →
    Merges shortest (open_after [] pieces) (length (messages_in pieces)) more frames (open_after [] pieces) → AddsMessage shortest pieces more frames
adds shortest pieces more frames s limits m =
    record {
      stream = record { frames = All-append AreFrames pieces more s.frames limits; rules = rules_joined shortest [] 0 pieces more s.rules (rw zero-add m.rules) };
      messages = merged_joined [] pieces more ∙ ap (λ ms. messages_in pieces ++ ms) m.merged_is;
      chains = open_joined [] pieces more ∙ m.after_is;
    }

-- frames within the limits

each_within : (frames : List Frame) → All IsWithinLimits frames → EachWithin frames
each_within [] all = tt
each_within (x ∷ frames) all = (All-head IsWithinLimits x frames all, each_within frames (All-tail IsWithinLimits x frames all))

all_within : (frames : List Frame) → EachWithin frames → All IsWithinLimits frames
all_within [] each = All-nil IsWithinLimits
all_within (x ∷ frames) each = All-cons IsWithinLimits x frames each.0 (all_within frames each.1)

header_within : (id : ℕ) (first last : Bool) → IsWithinLimits (header_of id first last)
header_within id true last = (omega arith, omega arith)
header_within id false true = (omega arith, omega arith)
header_within id false false = (omega arith, omega arith)

fragment_within : (id : ℕ) (first last : Bool) (frames : List Frame) → EachWithin frames → AreFrames (fragment_of id first last frames)
fragment_within id first true frames each = All-cons IsWithinLimits (header_of id first true) frames (header_within id first true) (all_within frames each)
fragment_within id first false frames each = All-cons IsWithinLimits (header_of id first false) (ended frames) (header_within id first false) (all_within (ended frames) (ended_within frames each))

abbrev AllWithin : List (List Frame) → Type 0
AllWithin [] = Unit {0}
AllWithin (group ∷ groups) = EachWithin group × AllWithin groups

split_within : (xs ys : List Frame) → EachWithin (xs ++ ys) → EachWithin xs × EachWithin ys
split_within [] ys each = (tt, each)
split_within (x ∷ xs) ys each = let later = split_within xs ys each.1 in ((each.0, later.0), later.1)

groups_within : (groups : List (List Frame)) → EachWithin (joined_groups groups) → AllWithin groups
groups_within [] each = tt
groups_within (group ∷ groups) each = let parts = split_within group (joined_groups groups) each in (parts.0, groups_within groups parts.1)

chain_within : (id : ℕ) (first : Bool) (groups : List (List Frame)) → AllWithin groups → All AreFrames (chain_from id first groups)
chain_within id first [] within = All-nil AreFrames
chain_within id first (group ∷ []) within = All-cons AreFrames (fragment_of id first true group) [] (fragment_within id first true group within.0) (All-nil AreFrames)
chain_within id first (group ∷ next ∷ groups) within =
    All-cons AreFrames (fragment_of id first false group) (chain_from id false (next ∷ groups)) (fragment_within id first false group within.0) (chain_within id false (next ∷ groups) within.1)

-- the messages

completes_with_room : (shortest : ℕ) (pieces : List Piece) (frames : List Frame) → HasRoomFor shortest pieces frames → may_complete shortest (length (messages_in pieces)) frames ≡ true
completes_with_room shortest pieces frames room = and_from _ _ (le-leb _ _ room.head) (lt-ltb _ _ room.number)

pub written_message_heard : a_written_message_is_heard
written_message_heard shortest pieces frames w room =
    adds shortest pieces (Unfragmented frames ∷ []) frames room.stream (All-cons AreFrames (Unfragmented frames) [] w.each (All-nil AreFrames))
    (record {
      rules = and_from _ _ (and_from _ _ w.form (and_from _ _ (and_from true _ refl w.fits) (completes_with_room shortest pieces frames room))) refl;
      merged_is = refl;
      after_is = refl;
    })

groups_heard : (shortest : ℕ) (pieces : List Piece) (id : ℕ) (frames : List Frame) (groups : List (List Frame)) → joined_groups groups ≡ frames → EachSome groups →
    IsWritable frames → HasRoomFor shortest pieces frames → HasRoomForChain id pieces → AddsMessage shortest pieces (chain_of_groups id groups) frames
groups_heard shortest pieces id frames [] whole some w room chain = absurd (false≢true (subst (λ fs. is_piece (Unfragmented fs) ≡ true) (sym whole) w.form))
groups_heard shortest pieces id frames (group ∷ []) whole some w room chain =
    let same : group ≡ frames = sym (append-nil group) ∙ whole in
    subst (λ g. AddsMessage shortest pieces (Unfragmented g ∷ []) frames) (sym same) (written_message_heard shortest pieces frames w room)
groups_heard shortest pieces id frames (group ∷ next ∷ groups) whole some w room chain =
    let some_follow : 0 < length (next ∷ groups) = omega arith in
    let each = subst EachWithin (sym whole) (each_within frames w.each) in
    let ends = subst (λ fs. ends_at_final fs ≡ true) (sym whole) (and_parts _ _ w.form).1 in
    let fit = subst (λ fs. fits fs ≡ true) (sym whole) w.fits in
    let may = subst (λ fs. may_complete shortest (length (messages_in pieces)) fs ≡ true) (sym whole) (completes_with_room shortest pieces frames room) in
    adds shortest pieces (chain_from id true (group ∷ next ∷ groups)) frames room.stream (chain_within id true (group ∷ next ∷ groups) (groups_within (group ∷ next ∷ groups) each))
    (subst (λ fs. Merges shortest (open_after [] pieces) (length (messages_in pieces)) (chain_from id true (group ∷ next ∷ groups)) fs (open_after [] pieces)) whole
    (fragments_merge shortest id chain.small (open_after [] pieces) (length (messages_in pieces)) chain.closed group (next ∷ groups) chain.chain some_follow some each ends fit may))

pub fragments_heard : written_fragments_are_heard
fragments_heard shortest pieces id size frames w room chain =
    groups_heard shortest pieces id frames (packed size frames) (joined_packed size frames) (each_some size (packed size frames) (packed_groups size frames)) w room chain
