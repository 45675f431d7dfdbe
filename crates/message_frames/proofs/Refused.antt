-- A whole piece that a connection doesn't take shows a fault.
use Rattle.std.proofs.Common.{◌≡◌, ℕ, ◌≤◌, Bool, true, false, not, ◌&&◌, List, [], ◌∷◌, ◌++◌, length, Option, Some, None, refl, sym, ◌∙◌, ap, subst, ◌⊎◌, inl, inr, append_assoc}
use Rattle.std.proofs.lemmas.Bool.{cases_Bool, and_parts, and_from, false≢true, not-true}
use Rattle.frame_codec.specs.Laws.{unplaced}
use Rattle.frame_codec.specs.declared.frames.Frame.{Frame}
use Rattle.frame_codec.specs.declared.frames.PlacedFrame.{PlacedFrame}
use Rattle.frame_codec.specs.declared.malformed.Malformed.{Malformed}
use Rattle.frame_codec.specs.declared.malformed.Why.{Why}
use Rattle.message_frames.specs.Assembly.{most_chains, most_messages, Chain, Assembly, Assembled, Between, InMessage, InFragment, assembled, in_message, in_fragment, size_fault, is_unfragmented, is_header, is_final, is_open, ends_chain, chain_id, frames_of, with_frames, without}
use Rattle.message_frames.specs.Grammar.{Piece, Unfragmented, Fragment, is_piece, ends_at_final, piece_frames}
use Rattle.message_frames.specs.Merging.{fits, may_complete, may_come, opened}
use Rattle.message_frames.proofs.Chains.{frames_of_changed, open_when_changed}
use Rattle.message_frames.proofs.Composition.{after_step}
use Rattle.message_frames.proofs.NextPiece.{fragment_passes}
use Rattle.message_frames.proofs.NoPiece.{completes_badly, header_refused, last_passes}
use Rattle.message_frames.proofs.Pieces.{between_with, last_is_final, others_follow, opened_is_open, frames_when_opened}
use Rattle.message_frames.proofs.Sizes.{size_cases}
use Rattle.message_frames.proofs.Steps.{message_large, fragment_large, header_may_come, header_goes, begins_message, begins_fragment, message_ends, message_goes, fragment_goes, chain_ends}

abbrev pub NoFault : Assembled → Type 0
NoFault a = a.fault ≡ None

-- Frames up to the first final one fit and pass the test.
abbrev pub Passes : (List Frame → Bool) → List Frame → Type 0
Passes test frames = (fits frames ≡ true) × (test frames ≡ true)

-- a fault, as it is shown
abbrev shown : ℕ → Why → Option Malformed
shown at why = Some (record { at = at; why = why })

passes_assoc : (test : List Frame → Bool) (before : List Frame) (x : Frame) (more : List Frame) → Passes test ((before ++ x ∷ []) ++ more) → Passes test (before ++ x ∷ more)
passes_assoc test before x more p = (rw append_assoc at p.0, rw append_assoc at p.1)

message_step_passes : (shortest began : ℕ) (x : PlacedFrame) (xs : List PlacedFrame) (before : List Frame) (s there : Assembly) → s.complete ≤ most_messages →
    ends_at_final (x.frame ∷ unplaced xs) ≡ true →
    (ends_at_final (unplaced xs) ≡ true → NoFault (assembled shortest xs (record s { place = InMessage began (before ++ x.frame ∷ []) })) →
    Passes (may_complete shortest s.complete) ((before ++ x.frame ∷ []) ++ unplaced xs)) →
    NoFault (after_step shortest xs there (in_message shortest began (before ++ x.frame ∷ []) x s)) → Passes (may_complete shortest s.complete) (before ++ x.frame ∷ unplaced xs)
message_step_passes shortest began x [] before s there counted ends later none = go (size_cases (before ++ x.frame ∷ [])) (cases_Bool (may_complete shortest s.complete (before ++ x.frame ∷ [])))
  where
    final : is_final x.frame ≡ true
    final = last_is_final x.frame ends

    go : ((fits (before ++ x.frame ∷ []) ≡ true) × (size_fault (before ++ x.frame ∷ []) ≡ None)) ⊎ ((fits (before ++ x.frame ∷ []) ≡ false) × ((why : Why) × (size_fault (before ++ x.frame ∷ []) ≡ Some why))) →
        (may_complete shortest s.complete (before ++ x.frame ∷ []) ≡ true) ⊎ (may_complete shortest s.complete (before ++ x.frame ∷ []) ≡ false) →
        Passes (may_complete shortest s.complete) (before ++ x.frame ∷ [])
    go (inr (large, (why, fault))) may = let clash : shown x.at why ≡ None = sym (ap (λ t. (after_step shortest [] there t).fault) (message_large shortest began (before ++ x.frame ∷ []) x s why fault)) ∙ none in absurd (cc)
    go (inl (small, fault)) (inl may) = (small, may)
    go (inl (small, fault)) (inr refused) =
        let bad = completes_badly shortest began x.at (before ++ x.frame ∷ []) (record s { place = Between }) counted refused in
        let clash : Some bad.0 ≡ None = sym (ap (λ t. (after_step shortest [] there t).fault) (message_ends shortest began (before ++ x.frame ∷ []) x s fault final ∙ bad.1)) ∙ none in absurd (cc)
message_step_passes shortest began x (y ∷ ys) before s there counted ends later none = go (size_cases (before ++ x.frame ∷ []))
  where
    rest : (is_final x.frame ≡ false) × (ends_at_final (y.frame ∷ unplaced ys) ≡ true)
    rest = others_follow x.frame y.frame (unplaced ys) ends

    go : ((fits (before ++ x.frame ∷ []) ≡ true) × (size_fault (before ++ x.frame ∷ []) ≡ None)) ⊎ ((fits (before ++ x.frame ∷ []) ≡ false) × ((why : Why) × (size_fault (before ++ x.frame ∷ []) ≡ Some why))) →
        Passes (may_complete shortest s.complete) (before ++ x.frame ∷ unplaced (y ∷ ys))
    go (inr (large, (why, fault))) = let clash : shown x.at why ≡ None = sym (ap (λ t. (after_step shortest (y ∷ ys) there t).fault) (message_large shortest began (before ++ x.frame ∷ []) x s why fault)) ∙ none in absurd (cc)
    go (inl (small, fault)) =
        passes_assoc (may_complete shortest s.complete) before x.frame (unplaced (y ∷ ys))
        (later rest.1 (sym (ap (λ t. (after_step shortest (y ∷ ys) there t).fault) (message_goes shortest began (before ++ x.frame ∷ []) x s fault rest.0)) ∙ none))

message_passes : (shortest began : ℕ) (xs : List PlacedFrame) (before : List Frame) (s : Assembly) → s.complete ≤ most_messages → ends_at_final (unplaced xs) ≡ true →
    NoFault (assembled shortest xs (record s { place = InMessage began before })) → Passes (may_complete shortest s.complete) (before ++ unplaced xs)
message_passes shortest began [] before s counted ends none = absurd (false≢true ends)
message_passes shortest began (x ∷ xs) before s counted ends none =
    message_step_passes shortest began x xs before (record s { place = InMessage began before }) (record s { place = InMessage began before }) counted ends
    (λ e n. message_passes shortest began xs (before ++ x.frame ∷ []) s counted e n) none

fragment_passes_too : (shortest id : ℕ) (last : Bool) (xs : List PlacedFrame) (s : Assembly) → s.complete ≤ most_messages → is_open id s.chains ≡ true → ends_at_final (unplaced xs) ≡ true →
    NoFault (assembled shortest xs (record s { place = InFragment id last })) → Passes (last_passes shortest s.complete last) (frames_of id s.chains ++ unplaced xs)
fragment_passes_too shortest id last [] s counted open_now ends none = absurd (false≢true ends)
fragment_passes_too shortest id last (x ∷ []) s counted open_now ends none =
    go (size_cases (frames_of id s.chains ++ x.frame ∷ [])) (cases_Bool last) (cases_Bool (may_complete shortest s.complete (frames_of id s.chains ++ x.frame ∷ [])))
  where
    there : Assembly
    there = record s { place = InFragment id last }

    final : is_final x.frame ≡ true
    final = last_is_final x.frame ends

    go : ((fits (frames_of id s.chains ++ x.frame ∷ []) ≡ true) × (size_fault (frames_of id s.chains ++ x.frame ∷ []) ≡ None)) ⊎ ((fits (frames_of id s.chains ++ x.frame ∷ []) ≡ false) × ((why : Why) × (size_fault (frames_of id s.chains ++ x.frame ∷ []) ≡ Some why))) →
        (last ≡ true) ⊎ (last ≡ false) →
        (may_complete shortest s.complete (frames_of id s.chains ++ x.frame ∷ []) ≡ true) ⊎ (may_complete shortest s.complete (frames_of id s.chains ++ x.frame ∷ []) ≡ false) →
        Passes (last_passes shortest s.complete last) (frames_of id s.chains ++ x.frame ∷ [])
    go (inr (large, (why, fault))) ends may = let clash : shown x.at why ≡ None = sym (ap (λ t. (after_step shortest [] there t).fault) (fragment_large shortest id last x there why fault)) ∙ none in absurd (cc)
    go (inl (small, fault)) (inr middle) may = (small, rw middle refl)
    go (inl (small, fault)) (inl ends) (inl may) = (small, rw ends may)
    go (inl (small, fault)) (inl ends) (inr refused) =
        let closed : Assembly = record s { place = Between; chains = without id s.chains } in
        let bad = completes_badly shortest x.at x.at (frames_of id s.chains ++ x.frame ∷ []) closed counted refused in
        let step_is = ap (λ b. in_fragment shortest id b x there) ends ∙ chain_ends shortest id x there fault final ∙ bad.1 in
        let clash : Some bad.0 ≡ None = sym (ap (λ t. (after_step shortest [] there t).fault) step_is) ∙ none in absurd (cc)
fragment_passes_too shortest id last (x ∷ y ∷ ys) s counted open_now ends none =
    go (size_cases (frames_of id s.chains ++ x.frame ∷ []))
    (fragment_passes_too shortest id last (y ∷ ys) (record s { chains = with_frames id (frames_of id s.chains ++ x.frame ∷ []) s.chains }) counted)
  where
    there : Assembly
    there = record s { place = InFragment id last }

    rest : (is_final x.frame ≡ false) × (ends_at_final (y.frame ∷ unplaced ys) ≡ true)
    rest = others_follow x.frame y.frame (unplaced ys) ends

    go : ((fits (frames_of id s.chains ++ x.frame ∷ []) ≡ true) × (size_fault (frames_of id s.chains ++ x.frame ∷ []) ≡ None)) ⊎ ((fits (frames_of id s.chains ++ x.frame ∷ []) ≡ false) × ((why : Why) × (size_fault (frames_of id s.chains ++ x.frame ∷ []) ≡ Some why))) →
        (is_open id (with_frames id (frames_of id s.chains ++ x.frame ∷ []) s.chains) ≡ true → ends_at_final (unplaced (y ∷ ys)) ≡ true →
        NoFault (assembled shortest (y ∷ ys) (record { place = InFragment id last; chains = with_frames id (frames_of id s.chains ++ x.frame ∷ []) s.chains; complete = s.complete })) →
        Passes (last_passes shortest s.complete last) (frames_of id (with_frames id (frames_of id s.chains ++ x.frame ∷ []) s.chains) ++ unplaced (y ∷ ys))) →
        Passes (last_passes shortest s.complete last) (frames_of id s.chains ++ x.frame ∷ unplaced (y ∷ ys))
    go (inr (large, (why, fault))) later = let clash : shown x.at why ≡ None = sym (ap (λ t. (after_step shortest (y ∷ ys) there t).fault) (fragment_large shortest id last x there why fault)) ∙ none in absurd (cc)
    go (inl (small, fault)) later =
        let all = frames_of id s.chains ++ x.frame ∷ [] in
        let goes = fragment_goes shortest id last x there fault rest.0 in
        let found : frames_of id (with_frames id all s.chains) ≡ all = frames_of_changed id all s.chains open_now in
        passes_assoc (last_passes shortest s.complete last) (frames_of id s.chains) x.frame (unplaced (y ∷ ys))
        (subst (λ fs. Passes (last_passes shortest s.complete last) (fs ++ unplaced (y ∷ ys))) found
        (later (open_when_changed id all s.chains open_now) rest.1 (sym (ap (λ t. (after_step shortest (y ∷ ys) there t).fault) goes) ∙ none)))

-- pieces

unfragmented_may : (shortest : ℕ) (chains : List Chain) (complete : ℕ) (xs : List PlacedFrame) → complete ≤ most_messages → is_piece (Unfragmented (unplaced xs)) ≡ true →
    NoFault (assembled shortest xs (between_with chains complete)) → may_come shortest chains complete (Unfragmented (unplaced xs)) ≡ true
unfragmented_may shortest chains complete [] counted form none = absurd (false≢true form)
unfragmented_may shortest chains complete (x ∷ xs) counted form none =
    let s = between_with chains complete in
    let forms = and_parts _ _ form in
    let p = message_step_passes shortest x.at x xs [] s s counted forms.1 (λ e n. message_passes shortest x.at xs (x.frame ∷ []) s counted e n)
    (sym (ap (λ t. (after_step shortest xs s t).fault) (begins_message shortest x s forms.0)) ∙ none) in
    and_from _ _ (and_from true _ refl p.0) p.1

fragment_may : (shortest : ℕ) (chains : List Chain) (complete : ℕ) (x : PlacedFrame) (xs : List PlacedFrame) → length chains ≤ most_chains → complete ≤ most_messages →
    is_piece (Fragment x.frame (unplaced xs)) ≡ true → NoFault (assembled shortest (x ∷ xs) (between_with chains complete)) → may_come shortest chains complete (Fragment x.frame (unplaced xs)) ≡ true
fragment_may shortest chains complete x xs few counted form none = go (cases_Bool (is_header x.frame && header_may_come x.frame chains))
  where
    s : Assembly
    s = between_with chains complete

    id : ℕ
    id = chain_id x.frame

    forms : (not (is_unfragmented x.frame) && is_header x.frame ≡ true) × (ends_at_final (unplaced xs) ≡ true)
    forms = and_parts _ _ form

    apart : is_unfragmented x.frame ≡ false
    apart = not-true _ (and_parts _ _ forms.0).0

    go : (is_header x.frame && header_may_come x.frame chains ≡ true) ⊎ (is_header x.frame && header_may_come x.frame chains ≡ false) → may_come shortest chains complete (Fragment x.frame (unplaced xs)) ≡ true
    go (inr refused) =
        let bad = header_refused x s few refused in
        let clash : Some bad.0 ≡ None = sym (ap (λ t. (after_step shortest xs s t).fault) (begins_fragment shortest x s apart ∙ bad.1)) ∙ none in absurd (cc)
    go (inl header) =
        let heads = and_parts _ _ header in
        let begun = begins_fragment shortest x s apart ∙ header_goes x s apart heads.0 heads.1 in
        let p = fragment_passes_too shortest id (ends_chain x.frame) xs (between_with (opened x.frame chains) complete) counted (opened_is_open x.frame chains heads.1) forms.1
        (sym (ap (λ t. (after_step shortest xs s t).fault) begun) ∙ none) in
        let q = subst (λ fs. Passes (fragment_passes shortest complete x.frame) (fs ++ unplaced xs)) (frames_when_opened x.frame chains heads.1) p in
        and_from _ _ (and_from _ _ heads.1 q.0) q.1

-- A whole piece without a fault is one that may come.
pub piece_may : (shortest : ℕ) (piece : Piece) (xs : List PlacedFrame) (chains : List Chain) (complete : ℕ) → length chains ≤ most_chains → complete ≤ most_messages →
    unplaced xs ≡ piece_frames piece → is_piece piece ≡ true → NoFault (assembled shortest xs (between_with chains complete)) → may_come shortest chains complete piece ≡ true
piece_may shortest (Unfragmented frames) xs chains complete few counted e form none =
    let P : List Frame → Type 0 = λ fs. is_piece (Unfragmented fs) ≡ true → may_come shortest chains complete (Unfragmented fs) ≡ true in
    subst P e (λ f. unfragmented_may shortest chains complete xs counted f none) form
piece_may shortest (Fragment header frames) [] chains complete few counted e form none = absurd (cc)
piece_may shortest (Fragment header frames) (x ∷ xs) chains complete few counted e form none =
    let P : Frame → List Frame → Type 0 = λ h fs. is_piece (Fragment h fs) ≡ true → may_come shortest chains complete (Fragment h fs) ≡ true in
    let same_header : x.frame ≡ header = cc in
    let same_frames : unplaced xs ≡ frames = cc in
    subst (λ h. P h frames) same_header (subst (λ fs. P x.frame fs) same_frames (λ f. fragment_may shortest chains complete x xs few counted f none)) form
