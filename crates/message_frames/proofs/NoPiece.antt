-- Frames that begin with no piece that a connection takes complete no message.
use Rattle.std.proofs.Common.{◌≡◌, ℕ, ◌≤◌, Bool, true, false, ◌&&◌, if◌then◌else◌, List, [], ◌∷◌, ◌++◌, length, eqb, nat_lt, Some, None, refl, sym, ◌∙◌, ap, subst, ◌⊎◌, inl, inr, arith}
use Rattle.std.proofs.lemmas.Bool.{cases_Bool, and_parts, and_from, false≢true, both_ways}
use Rattle.std.proofs.lemmas.Bool.Decides.{nat_tests}
use Rattle.frame_codec.specs.Laws.{unplaced}
use Rattle.frame_codec.specs.declared.frames.Frame.{Frame}
use Rattle.frame_codec.specs.declared.frames.PlacedFrame.{PlacedFrame}
use Rattle.frame_codec.specs.declared.malformed.Malformed.{Malformed}
use Rattle.frame_codec.specs.declared.malformed.Why.{Why}
use Rattle.frame_codec.specs.declared.malformed.Why.TheVariants.{ShortStart, Spent, BadFragment, OpenFragments}
use Rattle.message_frames.specs.Assembly.{most_chains, most_messages, Chain, Assembly, Assembled, Between, InMessage, InFragment, Step, Faulty, assembled, completed, first_payload, in_message, in_fragment, at_header, size_fault, is_unfragmented, is_header, is_final, is_open, begins_chain, ends_chain, chain_id, frames_of, with_frames, without}
use Rattle.message_frames.specs.Merging.{fits, may_complete, opened}
use Rattle.message_frames.proofs.Composition.{after_step}
use Rattle.message_frames.proofs.Chains.{frames_of_changed, open_when_changed}
use Rattle.message_frames.proofs.NextPiece.{TakesNext, Next, next_from, takes_from, takes_none, fragment_passes}
use Rattle.message_frames.proofs.Pieces.{between_with, opened_is_open, frames_when_opened}
use Rattle.message_frames.proofs.Scanning.{Scan, scan, scan_one, scan_more}
use Rattle.message_frames.proofs.Sizes.{size_cases}
use Rattle.message_frames.proofs.Steps.{header_may_come, header_goes, begins_message, begins_fragment, message_ends, message_goes, fragment_goes, chain_ends}

-- whether there is such a piece

pub takes_or_not : (shortest : ℕ) (chains : List Chain) (complete : ℕ) (frames : List Frame) →
    TakesNext shortest chains complete frames ⊎ (TakesNext shortest chains complete frames → ⊥)
takes_or_not shortest chains complete [] = inr (takes_none shortest chains complete)
takes_or_not shortest chains complete (frame ∷ frames) =
    go (cases_Bool (is_unfragmented frame)) (cases_Bool (is_header frame && header_may_come frame chains))
    (scan (may_complete shortest complete) [] (frame ∷ frames)) (scan (fragment_passes shortest complete frame) (frames_of (chain_id frame) chains) frames)
  where
    Takes : Type 0
    Takes = TakesNext shortest chains complete (frame ∷ frames)

    Message : Type 0
    Message = Scan (may_complete shortest complete) [] (frame ∷ frames)

    Body : Type 0
    Body = Scan (fragment_passes shortest complete frame) (frames_of (chain_id frame) chains) frames

    go : (is_unfragmented frame ≡ true) ⊎ (is_unfragmented frame ≡ false) →
        (is_header frame && header_may_come frame chains ≡ true) ⊎ (is_header frame && header_may_come frame chains ≡ false) →
        Scan (may_complete shortest complete) [] (frame ∷ frames) ⊎ (Scan (may_complete shortest complete) [] (frame ∷ frames) → ⊥) →
        Scan (fragment_passes shortest complete frame) (frames_of (chain_id frame) chains) frames ⊎ (Scan (fragment_passes shortest complete frame) (frames_of (chain_id frame) chains) frames → ⊥) →
        TakesNext shortest chains complete (frame ∷ frames) ⊎ (TakesNext shortest chains complete (frame ∷ frames) → ⊥)
    go (inl begins) header (inl s) body = inl (takes_from shortest chains complete frame frames (inl (begins, s)))
    go (inl begins) header (inr none) body = inr (λ t. refused (next_from shortest chains complete frame frames t))
      where
        refused : Next shortest chains complete frame frames → ⊥
        refused (inl (b, s)) = none s
        refused (inr (apart, h, f, s)) = both_ways _ apart begins
    go (inr apart) (inl header) message (inl s) =
        let parts = and_parts _ _ header in inl (takes_from shortest chains complete frame frames (inr (apart, parts.0, parts.1, s)))
    go (inr apart) (inl header) message (inr none) = inr (λ t. refused (next_from shortest chains complete frame frames t))
      where
        refused : Next shortest chains complete frame frames → ⊥
        refused (inl (b, s)) = both_ways _ apart b
        refused (inr (a, h, f, s)) = none s
    go (inr apart) (inr wrong) message body = inr (λ t. refused (next_from shortest chains complete frame frames t))
      where
        refused : Next shortest chains complete frame frames → ⊥
        refused (inl (b, s)) = both_ways _ apart b
        refused (inr (a, h, f, s)) = both_ways _ wrong (and_from _ _ h f)

-- faults that refuse a piece

pub completes_badly : (shortest began ended : ℕ) (frames : List Frame) (s : Assembly) → s.complete ≤ most_messages → may_complete shortest s.complete frames ≡ false →
    (fault : Malformed) × (completed shortest began ended frames s ≡ Faulty fault)
completes_badly shortest began ended frames s counted refused = go (cases_Bool (nat_lt (length (first_payload frames)) shortest))
  where
    go : (nat_lt (length (first_payload frames)) shortest ≡ true) ⊎ (nat_lt (length (first_payload frames)) shortest ≡ false) →
        (fault : Malformed) × (completed shortest began ended frames s ≡ Faulty fault)
    go (inl short) = (record { at = began; why = ShortStart }, rw short refl)
    go (inr long) = let spent : eqb s.complete most_messages ≡ true = grind (arith, nat_tests, refused, long, counted) in (record { at = ended; why = Spent }, rw (long, spent) refl)

pub header_refused : (x : PlacedFrame) (s : Assembly) → length s.chains ≤ most_chains → is_header x.frame && header_may_come x.frame s.chains ≡ false →
    (fault : Malformed) × (at_header x s ≡ Faulty fault)
header_refused x s few refused =
    go (cases_Bool (is_header x.frame)) (cases_Bool (begins_chain x.frame)) (cases_Bool (is_open (chain_id x.frame) s.chains)) (cases_Bool (eqb (length s.chains) most_chains))
  where
    bad : Malformed
    bad = record { at = x.at; why = BadFragment }

    go : (is_header x.frame ≡ true) ⊎ (is_header x.frame ≡ false) → (begins_chain x.frame ≡ true) ⊎ (begins_chain x.frame ≡ false) →
        (is_open (chain_id x.frame) s.chains ≡ true) ⊎ (is_open (chain_id x.frame) s.chains ≡ false) →
        (eqb (length s.chains) most_chains ≡ true) ⊎ (eqb (length s.chains) most_chains ≡ false) → (fault : Malformed) × (at_header x s ≡ Faulty fault)
    go (inr wrong) begins open_now room = (record { at = x.at; why = BadFragment }, rw wrong refl)
    go (inl header) (inl begins) (inl open_now) room = (record { at = x.at; why = BadFragment }, rw (header, begins, open_now) refl)
    go (inl header) (inl begins) (inr closed) (inl full) = (record { at = x.at; why = OpenFragments }, rw (header, begins, closed, full) refl)
    go (inl header) (inl begins) (inr closed) (inr room) =
        let left : nat_lt (length s.chains) most_chains ≡ true = grind (arith, nat_tests, room, few) in
        absurd (false≢true (sym (rw (header, begins, closed, left) at refused)))
    go (inl header) (inr continues) (inl open_now) room = absurd (false≢true (sym (rw (header, continues, open_now) at refused)))
    go (inl header) (inr continues) (inr closed) room = (record { at = x.at; why = BadFragment }, rw (header, continues, closed) refl)

-- no message

abbrev pub GivesNothing : Assembled → Type 0
GivesNothing a = a.messages ≡ []

no_more_of_message : (shortest began : ℕ) (x : PlacedFrame) (xs : List PlacedFrame) (before : List Frame) (s there : Assembly) → s.complete ≤ most_messages →
    (Scan (may_complete shortest s.complete) before (x.frame ∷ unplaced xs) → ⊥) →
    ((Scan (may_complete shortest s.complete) (before ++ x.frame ∷ []) (unplaced xs) → ⊥) → GivesNothing (assembled shortest xs (record s { place = InMessage began (before ++ x.frame ∷ []) }))) →
    GivesNothing (after_step shortest xs there (in_message shortest began (before ++ x.frame ∷ []) x s))
no_more_of_message shortest began x xs before s there counted none later =
    go (size_cases (before ++ x.frame ∷ [])) (cases_Bool (is_final x.frame)) (cases_Bool (may_complete shortest s.complete (before ++ x.frame ∷ [])))
  where
    Nothing : Step → Type 0
    Nothing t = GivesNothing (after_step shortest xs there t)

    go : ((fits (before ++ x.frame ∷ []) ≡ true) × (size_fault (before ++ x.frame ∷ []) ≡ None)) ⊎ ((fits (before ++ x.frame ∷ []) ≡ false) × ((why : Why) × (size_fault (before ++ x.frame ∷ []) ≡ Some why))) →
        (is_final x.frame ≡ true) ⊎ (is_final x.frame ≡ false) →
        (may_complete shortest s.complete (before ++ x.frame ∷ []) ≡ true) ⊎ (may_complete shortest s.complete (before ++ x.frame ∷ []) ≡ false) →
        GivesNothing (after_step shortest xs there (in_message shortest began (before ++ x.frame ∷ []) x s))
    go (inr (large, (why, fault))) final may = rw (in_message, fault) refl
    go (inl (small, fault)) (inl final) (inl may) = absurd (none (scan_one _ before x.frame (unplaced xs) final small may))
    go (inl (small, fault)) (inl final) (inr refused) =
        let bad = completes_badly shortest began x.at (before ++ x.frame ∷ []) (record s { place = Between }) counted refused in
        rw (message_ends shortest began (before ++ x.frame ∷ []) x s fault final ∙ bad.1) refl
    go (inl (small, fault)) (inr goes) may =
        rw (message_goes shortest began (before ++ x.frame ∷ []) x s fault goes) (later (λ scan. none (scan_more _ before x.frame (unplaced xs) goes scan)))

no_rest_of_message : (shortest began : ℕ) (xs : List PlacedFrame) (before : List Frame) (s : Assembly) → s.complete ≤ most_messages →
    (Scan (may_complete shortest s.complete) before (unplaced xs) → ⊥) → GivesNothing (assembled shortest xs (record s { place = InMessage began before }))
no_rest_of_message shortest began [] before s counted none = refl
no_rest_of_message shortest began (x ∷ xs) before s counted none =
    no_more_of_message shortest began x xs before (record s { place = InMessage began before }) (record s { place = InMessage began before }) counted none
    (λ no. no_rest_of_message shortest began xs (before ++ x.frame ∷ []) s counted no)

-- what the frames of a fragment have to pass with those of its chain, by whether it is the last one
abbrev pub last_passes : ℕ → ℕ → Bool → List Frame → Bool
last_passes shortest complete last frames = if last then may_complete shortest complete frames else true

no_rest_of_fragment : (shortest id : ℕ) (last : Bool) (xs : List PlacedFrame) (s : Assembly) → s.complete ≤ most_messages → is_open id s.chains ≡ true →
    (Scan (last_passes shortest s.complete last) (frames_of id s.chains) (unplaced xs) → ⊥) → GivesNothing (assembled shortest xs (record s { place = InFragment id last }))
no_rest_of_fragment shortest id last [] s counted open_now none = refl
no_rest_of_fragment shortest id last (x ∷ xs) s counted open_now none =
    go (size_cases (frames_of id s.chains ++ x.frame ∷ [])) (cases_Bool (is_final x.frame)) (cases_Bool last) (cases_Bool (may_complete shortest s.complete (frames_of id s.chains ++ x.frame ∷ [])))
    (no_rest_of_fragment shortest id last xs (record s { chains = with_frames id (frames_of id s.chains ++ x.frame ∷ []) s.chains }) counted)
  where
    there : Assembly
    there = record s { place = InFragment id last }

    Nothing : Step → Type 0
    Nothing t = GivesNothing (after_step shortest xs there t)

    go : ((fits (frames_of id s.chains ++ x.frame ∷ []) ≡ true) × (size_fault (frames_of id s.chains ++ x.frame ∷ []) ≡ None)) ⊎ ((fits (frames_of id s.chains ++ x.frame ∷ []) ≡ false) × ((why : Why) × (size_fault (frames_of id s.chains ++ x.frame ∷ []) ≡ Some why))) →
        (is_final x.frame ≡ true) ⊎ (is_final x.frame ≡ false) → (last ≡ true) ⊎ (last ≡ false) →
        (may_complete shortest s.complete (frames_of id s.chains ++ x.frame ∷ []) ≡ true) ⊎ (may_complete shortest s.complete (frames_of id s.chains ++ x.frame ∷ []) ≡ false) →
        (is_open id (with_frames id (frames_of id s.chains ++ x.frame ∷ []) s.chains) ≡ true →
        (Scan (last_passes shortest s.complete last) (frames_of id (with_frames id (frames_of id s.chains ++ x.frame ∷ []) s.chains)) (unplaced xs) → ⊥) →
        GivesNothing (assembled shortest xs (record { place = InFragment id last; chains = with_frames id (frames_of id s.chains ++ x.frame ∷ []) s.chains; complete = s.complete }))) →
        GivesNothing (after_step shortest xs (record s { place = InFragment id last }) (in_fragment shortest id last x (record s { place = InFragment id last })))
    go (inr (large, (why, fault))) final ends may later = rw (in_fragment, fault) refl
    go (inl (small, fault)) (inl final) (inr middle) may later = absurd (none (scan_one _ (frames_of id s.chains) x.frame (unplaced xs) final small (rw middle refl)))
    go (inl (small, fault)) (inl final) (inl ends) (inl may) later = absurd (none (scan_one _ (frames_of id s.chains) x.frame (unplaced xs) final small (rw ends may)))
    go (inl (small, fault)) (inl final) (inl ends) (inr refused) later =
        let closed : Assembly = record s { place = Between; chains = without id s.chains } in
        let bad = completes_badly shortest x.at x.at (frames_of id s.chains ++ x.frame ∷ []) closed counted refused in
        rw (ap (λ b. in_fragment shortest id b x there) ends ∙ chain_ends shortest id x there fault final ∙ bad.1) refl
    go (inl (small, fault)) (inr goes) ends may later =
        let all = frames_of id s.chains ++ x.frame ∷ [] in
        rw (fragment_goes shortest id last x there fault goes)
        (later (open_when_changed id all s.chains open_now)
        (λ scan. none (scan_more _ (frames_of id s.chains) x.frame (unplaced xs) goes
        (subst (λ fs. Scan (last_passes shortest s.complete last) fs (unplaced xs)) (frames_of_changed id all s.chains open_now) scan))))

-- Between two pieces: where no piece that may come begins the frames, they complete no message.
pub no_piece_no_message : (shortest : ℕ) (xs : List PlacedFrame) (chains : List Chain) (complete : ℕ) → length chains ≤ most_chains → complete ≤ most_messages →
    (TakesNext shortest chains complete (unplaced xs) → ⊥) → GivesNothing (assembled shortest xs (between_with chains complete))
no_piece_no_message shortest [] chains complete few counted none = refl
no_piece_no_message shortest (x ∷ xs) chains complete few counted none =
    go (cases_Bool (is_unfragmented x.frame)) (cases_Bool (is_header x.frame && header_may_come x.frame chains))
  where
    s : Assembly
    s = between_with chains complete

    none_next : Next shortest chains complete x.frame (unplaced xs) → ⊥
    none_next next = none (takes_from shortest chains complete x.frame (unplaced xs) next)

    go : (is_unfragmented x.frame ≡ true) ⊎ (is_unfragmented x.frame ≡ false) →
        (is_header x.frame && header_may_come x.frame chains ≡ true) ⊎ (is_header x.frame && header_may_come x.frame chains ≡ false) →
        GivesNothing (assembled shortest (x ∷ xs) (between_with chains complete))
    go (inl begins) header =
        subst (λ t. GivesNothing (after_step shortest xs s t)) (sym (begins_message shortest x s begins))
        (no_more_of_message shortest x.at x xs [] s s counted (λ scan. none_next (inl (begins, scan)))
        (λ no. no_rest_of_message shortest x.at xs (x.frame ∷ []) s counted no))
    go (inr apart) (inl header) =
        let heads = and_parts _ _ header in
        let id = chain_id x.frame in
        subst (λ t. GivesNothing (after_step shortest xs s t)) (sym (begins_fragment shortest x s apart ∙ header_goes x s apart heads.0 heads.1))
        (no_rest_of_fragment shortest id (ends_chain x.frame) xs (between_with (opened x.frame chains) complete) counted (opened_is_open x.frame chains heads.1)
        (λ scan. none_next (inr (
          apart,
          heads.0,
          heads.1,
          subst (λ fs. Scan (fragment_passes shortest complete x.frame) fs (unplaced xs)) (frames_when_opened x.frame chains heads.1) scan,
        ))))
    go (inr apart) (inr wrong) =
        let bad = header_refused x s few wrong in
        subst (λ t. GivesNothing (after_step shortest xs s t)) (sym (begins_fragment shortest x s apart ∙ bad.1)) refl
