-- A piece that a connection takes is assembled as merging says, without a fault.
use Rattle.std.proofs.Common.{◌≡◌, ℕ, ◌+◌, true, false, not, ◌&&◌, if◌then◌else◌, List, [], ◌∷◌, ◌++◌, None, refl, sym, ◌∙◌, ap, subst, ◌⊎◌, inl, inr, append_assoc}
use Rattle.std.proofs.lemmas.Bool.{cases_Bool, and_parts, not-true, false≢true, true≢false}
use Rattle.frame_codec.specs.Laws.{unplaced}
use Rattle.frame_codec.specs.declared.frames.Frame.{Frame}
use Rattle.frame_codec.specs.declared.frames.PlacedFrame.{PlacedFrame}
use Rattle.message_frames.specs.declared.message.Message.{Message}
use Rattle.message_frames.specs.Assembly.{Chain, Assembly, Assembled, Between, InMessage, InFragment, Step, assembled, step, is_unfragmented, is_header, is_final, is_open, begins_chain, ends_chain, chain_id, frames_of, with_frames, without}
use Rattle.message_frames.specs.Grammar.{Piece, Unfragmented, Fragment, is_piece, ends_at_final, piece_frames}
use Rattle.message_frames.specs.Merging.{fits, may_complete, unfinished, opened, completes, gathered, chains_after, complete_after, may_come}
use Rattle.message_frames.proofs.Composition.{after_step}
use Rattle.message_frames.proofs.Chains.{frames_of_changed, open_when_changed, changed_twice, without_changed, none_of_closed, frames_of_opened, open_when_opened}
use Rattle.message_frames.proofs.Sizes.{front_fits, no_size_fault}
use Rattle.message_frames.proofs.Steps.{header_may_come, header_goes, begins_message, begins_fragment, completes_well, message_ends, message_goes, fragment_ends, fragment_goes, chain_ends}

abbrev pub giving_one : List Frame → Assembly → Assembled
giving_one frames s = record { messages = record { frames = frames } ∷ []; fault = None; after = s }

abbrev pub giving_none : Assembly → Assembled
giving_none s = record { messages = []; fault = None; after = s }

one_step : (shortest : ℕ) (x : PlacedFrame) (xs : List PlacedFrame) (s : Assembly) (t : Step) → step shortest x s ≡ t →
    assembled shortest (x ∷ xs) s ≡ after_step shortest xs s t
one_step shortest x xs s t e = ap (after_step shortest xs s) e

-- the last frame of a piece, and one before it

pub last_is_final : (x : Frame) → ends_at_final (x ∷ []) ≡ true → is_final x ≡ true
last_is_final x ends = go (cases_Bool (is_final x))
  where
    go : (is_final x ≡ true) ⊎ (is_final x ≡ false) → is_final x ≡ true
    go (inl final) = final
    go (inr goes) = absurd (false≢true (rw goes at ends))

pub others_follow : (x y : Frame) (ys : List Frame) → ends_at_final (x ∷ y ∷ ys) ≡ true → (is_final x ≡ false) × (ends_at_final (y ∷ ys) ≡ true)
others_follow x y ys ends = go (cases_Bool (is_final x))
  where
    go : (is_final x ≡ true) ⊎ (is_final x ≡ false) → (is_final x ≡ false) × (ends_at_final (y ∷ ys) ≡ true)
    go (inl final) = absurd (false≢true (rw final at ends))
    go (inr goes) = (goes, rw goes at ends)

pub one_more_fits : (acc : List Frame) (x : Frame) (more : List Frame) → fits (acc ++ x ∷ more) ≡ true → fits (acc ++ x ∷ []) ≡ true
one_more_fits acc x more e = front_fits (acc ++ x ∷ []) more (rw append_assoc e)

-- the rest of an unfragmented message
pub message_runs : (shortest began : ℕ) (xs : List PlacedFrame) (acc : List Frame) (s : Assembly) →
    ends_at_final (unplaced xs) ≡ true → fits (acc ++ unplaced xs) ≡ true → may_complete shortest s.complete (acc ++ unplaced xs) ≡ true →
    assembled shortest xs (record s { place = InMessage began acc }) ≡ giving_one (acc ++ unplaced xs) (record s { place = Between; complete = s.complete + 1 })
message_runs shortest began [] acc s ends small may = absurd (false≢true ends)
message_runs shortest began (x ∷ []) acc s ends small may =
    let all = acc ++ x.frame ∷ [] in
    let there : Assembly = record s { place = InMessage began acc } in
    ap (after_step shortest [] there)
    (message_ends shortest began all x there (no_size_fault all small) (last_is_final x.frame ends)
    ∙ completes_well shortest began x.at all (record s { place = Between }) may)
message_runs shortest began (x ∷ y ∷ xs) acc s ends small may =
    let all = acc ++ x.frame ∷ [] in
    let there : Assembly = record s { place = InMessage began acc } in
    let rest = others_follow x.frame y.frame (unplaced xs) ends in
    let no_fault = no_size_fault all (one_more_fits acc x.frame (unplaced (y ∷ xs)) small) in
    ap (after_step shortest (y ∷ xs) there) (message_goes shortest began all x there no_fault rest.0)
    ∙ message_runs shortest began (y ∷ xs) all s rest.1 (rw append_assoc small) (rw append_assoc may)
    ∙ rw append_assoc refl

-- the rest of a fragment that others follow
pub fragment_runs : (shortest id : ℕ) (xs : List PlacedFrame) (s : Assembly) → is_open id s.chains ≡ true →
    ends_at_final (unplaced xs) ≡ true → fits (frames_of id s.chains ++ unplaced xs) ≡ true →
    assembled shortest xs (record s { place = InFragment id false })
    ≡ giving_none (record s { place = Between; chains = with_frames id (frames_of id s.chains ++ unfinished (unplaced xs)) s.chains })
fragment_runs shortest id [] s open_now ends small = absurd (false≢true ends)
fragment_runs shortest id (x ∷ []) s open_now ends small =
    let there : Assembly = record s { place = InFragment id false } in
    ap (after_step shortest [] there) (fragment_ends shortest id x there (no_size_fault (frames_of id s.chains ++ x.frame ∷ []) small) (last_is_final x.frame ends))
fragment_runs shortest id (x ∷ y ∷ xs) s open_now ends small =
    let so_far = frames_of id s.chains in
    let all = so_far ++ x.frame ∷ [] in
    let there : Assembly = record s { place = InFragment id false } in
    let next : Assembly = record s { chains = with_frames id all s.chains } in
    let rest = others_follow x.frame y.frame (unplaced xs) ends in
    let no_fault = no_size_fault all (one_more_fits so_far x.frame (unplaced (y ∷ xs)) small) in
    let found : frames_of id next.chains ≡ all = frames_of_changed id all s.chains open_now in
    ap (after_step shortest (y ∷ xs) there) (fragment_goes shortest id false x there no_fault rest.0)
    ∙ fragment_runs shortest id (y ∷ xs) next (open_when_changed id all s.chains open_now) rest.1 (rw (found, append_assoc) small)
    ∙ rw (found, append_assoc, changed_twice id all (so_far ++ x.frame ∷ unfinished (unplaced (y ∷ xs))) s.chains) refl

-- the rest of a last fragment
pub chain_runs : (shortest id : ℕ) (xs : List PlacedFrame) (s : Assembly) → is_open id s.chains ≡ true →
    ends_at_final (unplaced xs) ≡ true → fits (frames_of id s.chains ++ unplaced xs) ≡ true → may_complete shortest s.complete (frames_of id s.chains ++ unplaced xs) ≡ true →
    assembled shortest xs (record s { place = InFragment id true })
    ≡ giving_one (frames_of id s.chains ++ unplaced xs) (record s { place = Between; chains = without id s.chains; complete = s.complete + 1 })
chain_runs shortest id [] s open_now ends small may = absurd (false≢true ends)
chain_runs shortest id (x ∷ []) s open_now ends small may =
    let all = frames_of id s.chains ++ x.frame ∷ [] in
    let there : Assembly = record s { place = InFragment id true } in
    ap (after_step shortest [] there)
    (chain_ends shortest id x there (no_size_fault all small) (last_is_final x.frame ends)
    ∙ completes_well shortest x.at x.at all (record s { place = Between; chains = without id s.chains }) may)
chain_runs shortest id (x ∷ y ∷ xs) s open_now ends small may =
    let so_far = frames_of id s.chains in
    let all = so_far ++ x.frame ∷ [] in
    let there : Assembly = record s { place = InFragment id true } in
    let next : Assembly = record s { chains = with_frames id all s.chains } in
    let rest = others_follow x.frame y.frame (unplaced xs) ends in
    let no_fault = no_size_fault all (one_more_fits so_far x.frame (unplaced (y ∷ xs)) small) in
    let found : frames_of id next.chains ≡ all = frames_of_changed id all s.chains open_now in
    ap (after_step shortest (y ∷ xs) there) (fragment_goes shortest id true x there no_fault rest.0)
    ∙ chain_runs shortest id (y ∷ xs) next (open_when_changed id all s.chains open_now) rest.1 (rw (found, append_assoc) small) (rw (found, append_assoc) may)
    ∙ rw (found, append_assoc, without_changed) refl

-- whole pieces

-- between two pieces: these chains are open, and so many messages were complete
abbrev pub between_with : List Chain → ℕ → Assembly
between_with chains complete = record { place = Between; chains = chains; complete = complete }

abbrev pub given : Piece → List Chain → List Message
given piece chains = if completes piece then record { frames = gathered piece chains } ∷ [] else []

pub opened_is_open : (header : Frame) (chains : List Chain) → header_may_come header chains ≡ true → is_open (chain_id header) (opened header chains) ≡ true
opened_is_open header chains may = go (cases_Bool (begins_chain header))
  where
    go : (begins_chain header ≡ true) ⊎ (begins_chain header ≡ false) → is_open (chain_id header) (opened header chains) ≡ true
    go (inl begins) = rw begins (open_when_opened (chain_id header) [] chains)
    go (inr continues) = rw continues (rw continues at may)

pub frames_when_opened : (header : Frame) (chains : List Chain) → header_may_come header chains ≡ true → frames_of (chain_id header) (opened header chains) ≡ frames_of (chain_id header) chains
frames_when_opened header chains may = go (cases_Bool (begins_chain header))
  where
    go : (begins_chain header ≡ true) ⊎ (begins_chain header ≡ false) → frames_of (chain_id header) (opened header chains) ≡ frames_of (chain_id header) chains
    go (inl begins) =
        let closed : is_open (chain_id header) chains ≡ false = not-true _ (and_parts _ _ (rw begins at may)).0 in
        rw begins (frames_of_opened (chain_id header) [] chains closed ∙ sym (none_of_closed (chain_id header) chains closed))
    go (inr continues) = rw continues refl

opened_by_last : (header : Frame) (chains : List Chain) → is_unfragmented header ≡ false → ends_chain header ≡ true → opened header chains ≡ chains
opened_by_last header chains apart ends = go (cases_Bool (begins_chain header))
  where
    go : (begins_chain header ≡ true) ⊎ (begins_chain header ≡ false) → opened header chains ≡ chains
    go (inl begins) = absurd (true≢false (rw (begins, ends) at apart))
    go (inr continues) = rw continues refl

-- A piece comes in these frames.
abbrev pub Runs : ℕ → List Chain → ℕ → Piece → List PlacedFrame → Type 0
Runs shortest chains complete piece xs =
    assembled shortest xs (between_with chains complete)
    ≡ record { messages = given piece chains; fault = None; after = between_with (chains_after piece chains) (complete_after piece complete) }

unfragmented_runs : (shortest : ℕ) (chains : List Chain) (complete : ℕ) (xs : List PlacedFrame) →
    is_piece (Unfragmented (unplaced xs)) ≡ true → may_come shortest chains complete (Unfragmented (unplaced xs)) ≡ true →
    Runs shortest chains complete (Unfragmented (unplaced xs)) xs
unfragmented_runs shortest chains complete [] form may = absurd (false≢true form)
unfragmented_runs shortest chains complete (x ∷ []) form may =
    let s = between_with chains complete in
    let forms = and_parts _ _ form in
    let rules = and_parts _ _ may in
    let only = x.frame ∷ [] in
    ap (after_step shortest [] s)
    (begins_message shortest x s forms.0
    ∙ message_ends shortest x.at only x s (no_size_fault only (and_parts true _ rules.0).1) (last_is_final x.frame forms.1)
    ∙ completes_well shortest x.at x.at only s rules.1)
unfragmented_runs shortest chains complete (x ∷ y ∷ xs) form may =
    let s = between_with chains complete in
    let forms = and_parts _ _ form in
    let rules = and_parts _ _ may in
    let first = x.frame ∷ [] in
    let small = (and_parts true _ rules.0).1 in
    let rest = others_follow x.frame y.frame (unplaced xs) forms.1 in
    ap (after_step shortest (y ∷ xs) s)
    (begins_message shortest x s forms.0 ∙ message_goes shortest x.at first x s (no_size_fault first (one_more_fits [] x.frame (unplaced (y ∷ xs)) small)) rest.0)
    ∙ message_runs shortest x.at (y ∷ xs) first s rest.1 small rules.1

fragment_run : (shortest : ℕ) (chains : List Chain) (complete : ℕ) (x : PlacedFrame) (xs : List PlacedFrame) →
    is_piece (Fragment x.frame (unplaced xs)) ≡ true → may_come shortest chains complete (Fragment x.frame (unplaced xs)) ≡ true →
    Runs shortest chains complete (Fragment x.frame (unplaced xs)) (x ∷ xs)
fragment_run shortest chains complete x xs form may = go (cases_Bool (ends_chain x.frame))
  where
    s : Assembly
    s = between_with chains complete

    forms : (not (is_unfragmented x.frame) && is_header x.frame ≡ true) × (ends_at_final (unplaced xs) ≡ true)
    forms = and_parts _ _ form

    heads : (not (is_unfragmented x.frame) ≡ true) × (is_header x.frame ≡ true)
    heads = and_parts _ _ forms.0

    apart : is_unfragmented x.frame ≡ false
    apart = not-true _ heads.0

    rules : (header_may_come x.frame chains && fits (frames_of (chain_id x.frame) chains ++ unplaced xs) ≡ true) × ((if ends_chain x.frame then may_complete shortest complete (frames_of (chain_id x.frame) chains ++ unplaced xs) else true) ≡ true)
    rules = and_parts _ _ may

    follows : (header_may_come x.frame chains ≡ true) × (fits (frames_of (chain_id x.frame) chains ++ unplaced xs) ≡ true)
    follows = and_parts _ _ rules.0

    same : frames_of (chain_id x.frame) (opened x.frame chains) ≡ frames_of (chain_id x.frame) chains
    same = frames_when_opened x.frame chains follows.0

    begun : assembled shortest (x ∷ xs) s ≡ assembled shortest xs (record { place = InFragment (chain_id x.frame) (ends_chain x.frame); chains = opened x.frame chains; complete = complete })
    begun = ap (after_step shortest xs s) (begins_fragment shortest x s apart ∙ header_goes x s apart heads.1 follows.0)

    go : (ends_chain x.frame ≡ true) ⊎ (ends_chain x.frame ≡ false) → Runs shortest chains complete (Fragment x.frame (unplaced xs)) (x ∷ xs)
    go (inl ends) =
        let kept : opened x.frame chains ≡ chains = opened_by_last x.frame chains apart ends in
        begun
        ∙ ap (λ b. assembled shortest xs (record { place = InFragment (chain_id x.frame) b; chains = opened x.frame chains; complete = complete })) ends
        ∙ chain_runs shortest (chain_id x.frame) xs (between_with (opened x.frame chains) complete) (opened_is_open x.frame chains follows.0) forms.1 (rw same follows.1) (rw same (rw ends at rules.1))
        ∙ rw (ends, same, kept) refl
    go (inr middle) =
        begun
        ∙ ap (λ b. assembled shortest xs (record { place = InFragment (chain_id x.frame) b; chains = opened x.frame chains; complete = complete })) middle
        ∙ fragment_runs shortest (chain_id x.frame) xs (between_with (opened x.frame chains) complete) (opened_is_open x.frame chains follows.0) forms.1 (rw same follows.1)
        ∙ rw (middle, same) refl

pub piece_runs : (shortest : ℕ) (piece : Piece) (xs : List PlacedFrame) (chains : List Chain) (complete : ℕ) → unplaced xs ≡ piece_frames piece →
    is_piece piece ≡ true → may_come shortest chains complete piece ≡ true → Runs shortest chains complete piece xs
piece_runs shortest (Unfragmented frames) xs chains complete e form may =
    let P : List Frame → Type 0 = λ fs. is_piece (Unfragmented fs) ≡ true → may_come shortest chains complete (Unfragmented fs) ≡ true → Runs shortest chains complete (Unfragmented fs) xs in
    subst P e (unfragmented_runs shortest chains complete xs) form may
piece_runs shortest (Fragment header frames) [] chains complete e form may = absurd (cc)
piece_runs shortest (Fragment header frames) (x ∷ xs) chains complete e form may =
    let P : Frame → List Frame → Type 0 = λ h fs. is_piece (Fragment h fs) ≡ true → may_come shortest chains complete (Fragment h fs) ≡ true → Runs shortest chains complete (Fragment h fs) (x ∷ xs) in
    let same_header : x.frame ≡ header = cc in
    let same_frames : unplaced xs ≡ frames = cc in
    subst (λ h. P h frames) same_header (subst (λ fs. P x.frame fs) same_frames (fragment_run shortest chains complete x xs)) form may
