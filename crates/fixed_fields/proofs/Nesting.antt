-- Counting how many structures are open finds exactly the structures of the grammar.
use Rattle.std.proofs.Common.{◌≡◌, ℕ, zero, suc, Bool, true, false, not, List, [], ◌∷◌, ◌++◌, Some, None, refl, sym, ap, ◌∙◌, subst, append_assoc}
use Rattle.std.proofs.lemmas.Bool.{and_parts, not-true, or_parts, or_from, not_from_false}
use Rattle.frame_codec.specs.declared.frames.Frame.{Frame}
use Rattle.frame_codec.specs.declared.flags.TheConstants.{END_STRUCTURE}
use Rattle.fixed_fields.specs.Structures.{has_flag, opens, closes, is_plain, after_closing, after_structure, AreNested, nothing, plain, structure, BeginsWithStructure}

after-opening : (frame : Frame) (frames : List Frame) (depth : ℕ) → opens frame ≡ true → after_closing (suc depth) (frame ∷ frames) ≡ after_closing (suc (suc depth)) frames
after-opening frame frames depth opened = rw opened refl

after-closing : (frame : Frame) (frames : List Frame) (depth : ℕ) → closes frame ≡ true → after_closing (suc depth) (frame ∷ frames) ≡ after_closing depth frames
after-closing frame frames depth closed =
    let shut : opens frame ≡ false = not-true _ (and_parts (has_flag END_STRUCTURE frame) (not (opens frame)) closed).1 in
    rw (closed, shut) refl

after-plain : (frame : Frame) (frames : List Frame) (depth : ℕ) → is_plain frame ≡ true → after_closing (suc depth) (frame ∷ frames) ≡ after_closing (suc depth) frames
after-plain frame frames depth even =
    let parts = or_parts (opens frame) (closes frame) (not-true _ even) in
    rw (parts.1, parts.0) refl

-- what is nested leaves open what was open before it
pub after-nested : {inside : List Frame} → AreNested inside → (depth : ℕ) (behind : List Frame) → after_closing (suc depth) (inside ++ behind) ≡ after_closing (suc depth) behind
after-nested nothing depth behind = refl
after-nested (plain frame frames even whole) depth behind = after-plain frame (frames ++ behind) depth even ∙ after-nested whole depth behind
after-nested (structure opening inside closing frames opened nested closed whole) depth behind =
    after-opening opening ((inside ++ closing ∷ frames) ++ behind) depth opened
    ∙ ap (after_closing (suc (suc depth))) (append_assoc inside (closing ∷ frames) behind)
    ∙ after-nested nested (suc depth) ((closing ∷ frames) ++ behind)
    ∙ after-closing closing (frames ++ behind) (suc depth) closed
    ∙ after-nested whole depth behind

-- a structure of the grammar is passed
pub after-structure : (frames rest : List Frame) → BeginsWithStructure frames rest → after_structure frames ≡ Some rest
after-structure frames rest it =
    let begun : after_structure (it.opening ∷ it.inside ++ it.closing ∷ rest) ≡ after_closing 1 (it.inside ++ it.closing ∷ rest) = rw it.opened refl in
    ap after_structure it.spelled ∙ begun ∙ after-nested it.nested 0 (it.closing ∷ rest) ∙ after-closing it.closing rest 0 it.closed

-- Frames that close so many structures, each behind what is nested in it, and then the rest.
data AreClosed : ℕ → List Frame → List Frame → Type 0 where
  all : (rest : List Frame) → AreClosed zero rest rest
  one : (depth : ℕ) (inside : List Frame) (closing : Frame) (behind rest : List Frame) → AreNested inside → closes closing ≡ true → AreClosed depth behind rest → AreClosed (suc depth) (inside ++ closing ∷ behind) rest

with_opening : (frame : Frame) {depth : ℕ} {frames rest : List Frame} → opens frame ≡ true → AreClosed (suc (suc depth)) frames rest → AreClosed (suc depth) (frame ∷ frames) rest
with_opening frame opened (one _ inside closing _ rest nested closed (one depth outside last behind _ after ended whole)) =
    rw (sym (append_assoc (frame ∷ inside) (closing ∷ outside) (last ∷ behind)))
    (one depth (frame ∷ inside ++ closing ∷ outside) last behind rest (structure frame inside closing outside opened nested closed after) ended whole)

with_plain : (frame : Frame) {depth : ℕ} {frames rest : List Frame} → is_plain frame ≡ true → AreClosed (suc depth) frames rest → AreClosed (suc depth) (frame ∷ frames) rest
with_plain frame even (one depth inside closing behind rest nested closed whole) = one depth (frame ∷ inside) closing behind rest (plain frame inside even nested) closed whole

-- what counting passes is of the grammar
closed_from : (depth : ℕ) (frames rest : List Frame) → after_closing depth frames ≡ Some rest → AreClosed depth frames rest
closed_from zero frames rest e = let same : frames ≡ rest = cc in subst (λ fs. AreClosed zero fs rest) (sym same) (all rest)
closed_from (suc depth) [] rest e = cc
closed_from (suc depth) (frame ∷ frames) rest e = go (opens frame) (closes frame) refl refl
    (closed_from (suc (suc depth)) frames rest) (closed_from depth frames rest) (closed_from (suc depth) frames rest)
  where
    go : (o c : Bool) → opens frame ≡ o → closes frame ≡ c
        → (after_closing (suc (suc depth)) frames ≡ Some rest → AreClosed (suc (suc depth)) frames rest)
        → (after_closing depth frames ≡ Some rest → AreClosed depth frames rest)
        → (after_closing (suc depth) frames ≡ Some rest → AreClosed (suc depth) frames rest)
        → AreClosed (suc depth) (frame ∷ frames) rest
    go true c opened _ deeper shallower level = with_opening frame opened (deeper (sym (after-opening frame frames depth opened) ∙ e))
    go false true shut closed deeper shallower level = one depth [] frame frames rest nothing closed (shallower (sym (after-closing frame frames depth closed) ∙ e))
    go false false shut even deeper shallower level =
        let flat : is_plain frame ≡ true = not_from_false _ (or_from _ _ shut even) in
        with_plain frame flat (level (sym (after-plain frame frames depth flat) ∙ e))

structure_of : (opening : Frame) {frames rest : List Frame} → opens opening ≡ true → AreClosed 1 frames rest → BeginsWithStructure (opening ∷ frames) rest
structure_of opening opened (one _ inside closing _ rest nested closed (all _)) =
    record { opening = opening; inside = inside; closing = closing; opened = opened; nested = nested; closed = closed; spelled = refl }

-- what is passed is a structure of the grammar
pub structure_from : (frames rest : List Frame) → after_structure frames ≡ Some rest → BeginsWithStructure frames rest
structure_from [] rest e = cc
structure_from (frame ∷ frames) rest e = go (opens frame) refl
  where
    go : (o : Bool) → opens frame ≡ o → BeginsWithStructure (frame ∷ frames) rest
    go true opened =
        let begun : after_structure (frame ∷ frames) ≡ after_closing 1 frames = rw opened refl in
        structure_of frame opened (closed_from 1 frames rest (sym begun ∙ e))
    go false shut =
        let none : after_structure (frame ∷ frames) ≡ None = rw shut refl in
        let clash : Some rest ≡ None = sym e ∙ none in
        cc

-- no two structures of the grammar begin the same frames
pub structure_unique : (frames rest other : List Frame) → after_structure frames ≡ Some rest → BeginsWithStructure frames other → other ≡ rest
structure_unique frames rest other passed it = let same : Some other ≡ Some rest = sym (after-structure frames other it) ∙ passed in cc
