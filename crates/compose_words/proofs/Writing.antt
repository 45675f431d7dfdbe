-- Frames are appended one after another, and make a message.
use Rattle.std.proofs.Common.{◌≡◌, ℕ, ◌+◌, ◌<◌, ◌≤◌, ◌&&◌, Bool, true, false, All, ℤ, SFits, to_z, of_z, List, [], ◌∷◌, suc, ◌++◌, length, get_or, map, take, refl, sym, ap, subst, ◌∙◌, append_assoc, append-nil, length-append, arith}
use Rattle.std.specs.Prelude.{sum_by}
use Rattle.std.specs.List.{AllByRecursion}
use Rattle.std.specs.Int.{w64}
use Rattle.std.proofs.lemmas.Int.{to_z-of_z}
use Rattle.std.proofs.lemmas.Bool.{and_from, le-leb, leb-true}
use Rattle.std.proofs.lemmas.Grind.{flat_map-append}
use Rattle.std.proofs.lemmas.List.{map-append, take_more}
use Rattle.std.proofs.lemmas.List.Elements.{All-nil, All-append, All-from_recursion, recursion_from_All}
use Rattle.std.proofs.lemmas.List.Sums.{sum_by-cons}
use Rattle.frame_codec.specs.Frames.{frame_bytes, frame_length}
use Rattle.frame_codec.specs.Laws.{IsWithinLimits, spelled}
use Rattle.frame_codec.specs.declared.frames.Frame.{Frame}
use Rattle.frame_codec.proofs.Spelling.{length-frame_bytes}
use Rattle.fixed_fields.specs.Fields.{int64_bytes}
use Rattle.fixed_fields.specs.Responses.{final}
use Rattle.fixed_fields.specs.Spelled.{with_parts}
use Rattle.message_frames.specs.Assembly.{most_frames, most_length}
use Rattle.compose_words.specs.Sayings.{FitMessage}
use Rattle.compose_words.specs.Layout.{Appended, IsShort, inner_frame, frames_with}

pub appended_none : (out : List ℕ) → Appended out out []
appended_none out = record { bytes = sym (append-nil out); limits = All-nil IsWithinLimits }

pub appended_more : (old mid new : List ℕ) (first then : List Frame) → Appended old mid first → Appended mid new then → Appended old new (first ++ then)
appended_more old mid new first then a b = record {
  bytes = b.bytes ∙ ap (λ (front : List ℕ). front ++ spelled then) a.bytes ∙ append_assoc old (spelled first) (spelled then) ∙ ap (λ (more : List ℕ). old ++ more) (sym (flat_map-append frame_bytes first then));
  limits = All-append IsWithinLimits first then a.limits b.limits;
}

pub same_frames : {old new : List ℕ} {frames others : List Frame} → Appended old new frames → frames ≡ others → Appended old new others
same_frames {old} {new} {frames} {others} a same = subst (Appended old new) same a

-- what was appended to nothing
pub whole : {old new bytes : List ℕ} {frames : List Frame} → old ≡ [] → bytes ≡ new → Appended old new frames → Appended [] bytes frames
whole {old} {new} {bytes} {frames} empty same a =
    subst (λ (b : List ℕ). Appended [] b frames) (sym same) (subst (λ (b : List ℕ). Appended b new frames) empty a)

-- one inner frame more, at a step through parts
pub next_inner : (old mid new payload : List ℕ) (parts : List (List ℕ)) (i : ℕ) (part : List ℕ) → i < length parts → part ≡ get_or parts i part → payload ≡ part → Appended old mid (map inner_frame (take i parts))
    → Appended mid new (inner_frame payload ∷ []) → Appended old new (map inner_frame (take (i + 1) parts))
next_inner old mid new payload parts i part within is same before a =
    let more : take (i + 1) parts ≡ take i parts ++ part ∷ [] = take_more parts i part within ∙ ap (λ (p : List ℕ). take i parts ++ p ∷ []) (sym is) in
    let one = same_frames a (ap (λ (bytes : List ℕ). inner_frame bytes ∷ []) same) in
    same_frames (appended_more old mid new (map inner_frame (take i parts)) (inner_frame part ∷ []) before one)
    (sym (map-append inner_frame (take i parts) (part ∷ [])) ∙ ap (map inner_frame) (sym more))

-- the last part ends the message
with_last : (others : List (List ℕ)) (last : List ℕ) → map inner_frame others ++ record { flags = final; payload = last } ∷ [] ≡ with_parts (others ++ last ∷ []) []
with_last [] last = refl
with_last (part ∷ []) last = refl
with_last (part ∷ next ∷ others) last = ap (λ (frames : List Frame). inner_frame part ∷ frames) (with_last (next ∷ others) last)

pub parts_written : (old mid new payload : List ℕ) (parts others : List (List ℕ)) (last : List ℕ) → parts ≡ others ++ last ∷ [] → payload ≡ last → Appended old mid (map inner_frame others)
    → Appended mid new (record { flags = final; payload = payload } ∷ []) → Appended old new (with_parts parts [])
parts_written old mid new payload parts others last split same front a =
    let one = same_frames a (ap {B = List Frame} (λ bytes. record { flags = final; payload = bytes } ∷ []) same) in
    same_frames (appended_more old mid new (map inner_frame others) (record { flags = final; payload = last } ∷ []) front one)
    (with_last others last ∙ ap (λ (ps : List (List ℕ)). with_parts ps []) (sym split))

-- ---- how much was written

pub spelled_length : (frames : List Frame) → length (spelled frames) ≡ sum_by frame_length frames
spelled_length [] = refl
spelled_length (frame ∷ frames) =
    length-append (frame_bytes frame) (spelled frames)
    ∙ (λ i. length-frame_bytes frame i + spelled_length frames i)
    ∙ sym (sum_by-cons frame_length frame frames)

parts_length : (parts : List (List ℕ)) → length (with_parts parts []) ≡ length parts
parts_length [] = refl
parts_length (part ∷ []) = refl
parts_length (part ∷ next ∷ parts) = ap (λ n. suc n) (parts_length (next ∷ parts))

pub laid : (payload bytes : List ℕ) (parts : List (List ℕ)) → Appended [] bytes (frames_with payload parts) → length bytes ≤ most_length → length parts < most_frames → FitMessage (frames_with payload parts)
laid payload bytes parts a short few =
    let frames = frames_with payload parts in
    let size : sum_by frame_length frames ≤ most_length = subst (λ n. n ≤ most_length) (ap length a.bytes ∙ spelled_length frames) short in
    let count : length frames ≤ most_frames = omega (arith, few, parts_length parts) in
    record { each = a.limits; all = and_from _ _ (le-leb _ _ count) (le-leb _ _ size) }

-- ---- what fits a message

short_by : (parts : List (List ℕ)) → AllByRecursion IsWithinLimits (with_parts parts []) → AllByRecursion IsShort parts
short_by [] all = tt
short_by (part ∷ []) all = (all.0.1, tt)
short_by (part ∷ next ∷ parts) all = (all.0.1, short_by (next ∷ parts) all.1)

-- has short parts,
pub short_of : (payload : List ℕ) (parts : List (List ℕ)) → FitMessage (frames_with payload parts) → IsShort payload × All IsShort parts
short_of payload parts fit =
    let all = recursion_from_All IsWithinLimits (frames_with payload parts) fit.each in
    (all.0.1, All-from_recursion IsShort parts (short_by parts all.1))

both_true : (a b : Bool) → (a && b) ≡ true → (a ≡ true) × (b ≡ true)
both_true true b e = (refl, e)
both_true false b e = absurd cc

-- few of them, and isn't long
pub laid_within : (payload bytes : List ℕ) (parts : List (List ℕ)) → Appended [] bytes (frames_with payload parts) → FitMessage (frames_with payload parts) → (length bytes ≤ most_length) × (length parts < most_frames)
laid_within payload bytes parts a fit =
    let frames = frames_with payload parts in
    let both = both_true _ _ fit.all in
    let size : length bytes ≡ sum_by frame_length frames = ap length a.bytes ∙ spelled_length frames in
    let count : length frames ≤ most_frames = leb-true _ _ both.0 in
    let sum : sum_by frame_length frames ≤ most_length = leb-true _ _ both.1 in
    (omega (arith, size, sum), omega (arith, count, parts_length parts))

-- ---- numbers

-- two texts, one behind the other, however they are named
pub two_written : (old mid new first second a b : List ℕ) → first ≡ a → second ≡ b → mid ≡ old ++ first → new ≡ mid ++ second → new ≡ old ++ (a ++ b)
two_written old mid new first second a b same_first same_second before after =
    after ∙ (λ i. before i ++ same_second i) ∙ append_assoc old first b ∙ ap (λ (text : List ℕ). old ++ (text ++ b)) same_first

-- a number is the same as its bits say
pub same_bytes : (n : ℤ) → SFits w64 n → int64_bytes (to_z w64 (of_z w64 n)) ≡ int64_bytes n
same_bytes n fits = ap int64_bytes (to_z-of_z w64 n fits)
