-- The frames behind the first are read as the parts that they hold.
use Rattle.std.proofs.Common.{◌≡◌, ℕ, Bool, true, false, cond, List, [], ◌∷◌, drop, All, Option, Some, None, Result, Ok, Err, refl, ap, subst, ◌∙◌}
use Rattle.std.specs.Result.{result_ok}
use Rattle.std.specs.Str.{IsUtf8, is_utf8}
use Rattle.std.proofs.lemmas.Str.{IsUtf8-from_is_utf8, is_utf8-from_IsUtf8}
use Rattle.std.proofs.lemmas.List.Elements.{All-nil, All-cons, All-head, All-drop}
use Rattle.frame_codec.specs.declared.flags.TheConstants.{NULL}
use Rattle.frame_codec.specs.declared.frames.Frame.{Frame}
use Rattle.fixed_fields.specs.declared.refusal.FieldRefused.{FieldRefused}
use Rattle.fixed_fields.specs.declared.refusal.FieldRefused.TheVariants.{NoFrame, NotUtf8}
use Rattle.fixed_fields.specs.Structures.{has_flag, is_plain}
use Rattle.fixed_fields.specs.Frames.{content_of, not_null, next_data, as_text}
use Rattle.fixed_fields.specs.Requests.{data_in, text_in}
use Rattle.fixed_fields.specs.Spelled.{HoldParts, with_parts}

-- ---- held, so read

pub first_held : (frames : List Frame) (part : List ℕ) (parts : List (List ℕ)) → HoldParts frames (part ∷ parts) → (next_data frames ≡ Ok part) × HoldParts (drop 1 frames) parts
first_held [] part parts h = absurd h
first_held (frame ∷ frames) part parts h = (rw (h.0.0, h.0.1) refl, h.1)

pub data_held : (frames : List Frame) (part : List ℕ) → next_data frames ≡ Ok part → data_in frames ≡ Some part
data_held frames part e = ap result_ok e

pub text_held : (frames : List Frame) (text : List ℕ) → next_data frames ≡ Ok text → IsUtf8 text → text_in frames ≡ Some text
text_held frames text e valid = let passed = is_utf8-from_IsUtf8 text valid in rw (e, passed) refl

-- the frames that a client sends hold its parts
pub sent_held : (parts : List (List ℕ)) (behind : List Frame) → HoldParts (with_parts parts behind) parts
sent_held [] behind = tt
sent_held (part ∷ []) [] = ((refl, refl), tt)
sent_held (part ∷ []) (frame ∷ behind) = ((refl, refl), tt)
sent_held (part ∷ next ∷ parts) [] = ((refl, refl), sent_held (next ∷ parts) [])
sent_held (part ∷ next ∷ parts) (frame ∷ behind) = ((refl, refl), sent_held (next ∷ parts) (frame ∷ behind))

-- ---- read, so held

pub data_of : (frames : List Frame) (part : List ℕ) → data_in frames ≡ Some part → next_data frames ≡ Ok part
data_of frames part e = go (next_data frames) e
  where
    go : (found : Result (List ℕ) FieldRefused) → result_ok found ≡ Some part → found ≡ Ok part
    go (Err why) s = absurd cc
    go (Ok bytes) s = cc

pub text_of : (frames : List Frame) (text : List ℕ) → text_in frames ≡ Some text → (next_data frames ≡ Ok text) × IsUtf8 text
text_of frames text e = go (next_data frames) e
  where
    tested : (bytes : List ℕ) (b : Bool) → is_utf8 bytes ≡ b → result_ok (cond b (Ok bytes) (Err NotUtf8)) ≡ Some text → (bytes ≡ text) × IsUtf8 text
    tested bytes true passed s = let same : bytes ≡ text = cc in (same, subst IsUtf8 same (IsUtf8-from_is_utf8 bytes passed))
    tested bytes false passed s = absurd cc

    go : (found : Result (List ℕ) FieldRefused) → result_ok (as_text found) ≡ Some text → (found ≡ Ok text) × IsUtf8 text
    go (Err why) s = absurd cc
    go (Ok bytes) s = let read = tested bytes (is_utf8 bytes) refl s in (ap Ok read.0, read.1)

pub first_holds : (frames : List Frame) (part : List ℕ) (parts : List (List ℕ)) → next_data frames ≡ Ok part → HoldParts (drop 1 frames) parts → HoldParts frames (part ∷ parts)
first_holds [] part parts e h = absurd cc
first_holds (frame ∷ frames) part parts e h = go (is_plain frame) (content_of frame) refl refl e
  where
    go : (plain : Bool) (content : Option (List ℕ)) → is_plain frame ≡ plain → content_of frame ≡ content → not_null (cond plain (Ok content) (Err NoFrame)) ≡ Ok part → HoldParts (frame ∷ frames) (part ∷ parts)
    go true (Some bytes) p c s = let same : bytes ≡ part = cc in ((p, c ∙ ap Some same), h)
    go true None p c s = absurd cc
    go false content p c s = absurd cc

-- ---- what each payload is, each part is

pub data_all : (P : List ℕ → Type 0) (frames : List Frame) (part : List ℕ) → All (λ frame. P frame.payload) frames → next_data frames ≡ Ok part → P part
data_all P [] part all e = absurd cc
data_all P (frame ∷ frames) part all e = go (is_plain frame) (has_flag NULL frame) e
  where
    go : (plain null : Bool) → not_null (cond plain (Ok (cond null None (Some frame.payload))) (Err NoFrame)) ≡ Ok part → P part
    go true false s = let same : frame.payload ≡ part = cc in subst P same (All-head (λ frame. P frame.payload) frame frames all)
    go true true s = absurd cc
    go false null s = absurd cc

pub parts_all : (P : List ℕ → Type 0) (frames : List Frame) (parts : List (List ℕ)) → All (λ frame. P frame.payload) frames → HoldParts frames parts → All P parts
parts_all P frames [] all h = All-nil P
parts_all P frames (part ∷ parts) all h =
    let first = first_held frames part parts h in
    All-cons P part parts (data_all P frames part all first.0) (parts_all P (drop 1 frames) parts (All-drop (λ frame. P frame.payload) 1 frames all) first.1)
