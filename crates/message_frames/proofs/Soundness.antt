-- The state between two frames keeps the limits, and each frame that shows no fault adds its length to what the state weighs.
use Rattle.std.proofs.Common.{◌≡◌, ℕ, ◌+◌, ◌≤◌, Bool, true, false, not, eqb, List, [], ◌∷◌, ◌++◌, length, sum_by, Some, None, ◌∙◌, ap, ◌⊎◌, inl, inr, arith, length-append, nat_lt, if◌then◌else◌}
use Rattle.std.proofs.lemmas.Bool.{cases_Bool, cond_both, not-false, eqb-false, eqb-true, and_parts}
use Rattle.std.proofs.lemmas.List.{length-map}
use Rattle.std.proofs.lemmas.List.Sums.{sum_by_push}
use Rattle.frame_codec.specs.Flags.{without_flag}
use Rattle.frame_codec.specs.Frames.{frame_length}
use Rattle.frame_codec.specs.declared.frames.Frame.{Frame}
use Rattle.frame_codec.specs.declared.frames.PlacedFrame.{PlacedFrame}
use Rattle.frame_codec.specs.declared.flags.TheConstants.{FINAL}
use Rattle.frame_codec.specs.declared.malformed.Why.{Why}
use Rattle.message_frames.specs.Assembly.{most_chains, most_messages, Chain, Place, Between, InMessage, InFragment, Assembly, Step, Faulty, Goes, Gives, nothing_yet, size_fault, completed, first_payload, in_message, in_fragment, at_header, stepped, step, is_unfragmented, is_final, is_header, begins_chain, ends_chain, chain_id, has_id, is_open, frames_of, with_frames, without}
use Rattle.message_frames.specs.Merging.{fits}
use Rattle.message_frames.proofs.Chains.{chain_of, open_when_changed, open_when_opened}
use Rattle.message_frames.proofs.ChainSets.{IsDistinct, distinct_changed, distinct_without, distinct_opened, EachFits, fits_changed, fits_without_chain, fits_opened}
use Rattle.message_frames.proofs.Sizes.{fits_is, is_fits, size_cases}
use Rattle.message_frames.proofs.Steps.{message_ends, message_goes, fragment_goes, fragment_ends, chain_ends}
use Rattle.message_frames.proofs.Weights.{weight, most_weight, header_length, chain_weight, push_weight, fits_weight, changed_weight, taken_weight}

abbrev pub IsPlaceSound : List Chain → Place → Type 0
IsPlaceSound chains Between = Unit {0}
IsPlaceSound chains (InMessage at frames) = fits frames ≡ true
IsPlaceSound chains (InFragment id last) = is_open id chains ≡ true

pub record IsSound (s : Assembly) : Type 0 where
  pub apart : IsDistinct s.chains
  pub each : EachFits s.chains
  pub few : length s.chains ≤ most_chains
  pub counted : s.complete ≤ most_messages
  pub place : IsPlaceSound s.chains s.place

pub nothing_is_sound : IsSound nothing_yet
nothing_is_sound = record { apart = tt; each = tt; few = omega arith; counted = omega arith; place = tt }

-- A frame of that length leads from one state to the other.
pub record Leads (s : Assembly) (bytes : ℕ) (next : Assembly) : Type 0 where
  pub sound : IsSound next
  pub heavier : weight s + bytes ≤ weight next

abbrev pub StepLeads : Assembly → ℕ → Step → Type 0
StepLeads s bytes (Faulty fault) = Unit {0}
StepLeads s bytes (Goes next) = Leads s bytes next
StepLeads s bytes (Gives message next) = Leads s bytes next

-- a message is complete, and counts as much as a message may weigh
completed_leads : (shortest began ended : ℕ) (frames : List Frame) (s before : Assembly) (bytes : ℕ) →
    IsSound s → weight before + bytes ≤ weight s + most_weight → StepLeads before bytes (completed shortest began ended frames s)
completed_leads shortest began ended frames s before bytes sound light =
    cond_both (nat_lt (length (first_payload frames)) shortest) _ _ (λ t. StepLeads before bytes t) (λ e. tt)
    (λ e. cond_both (eqb s.complete most_messages) _ _ (λ t. StepLeads before bytes t) (λ f. tt) (λ f. numbered (eqb-false s.complete most_messages f)))
  where
    numbered : (s.complete ≡ most_messages → ⊥) → StepLeads before bytes (Gives (record { frames = frames }) (record s { complete = s.complete + 1 }))
    numbered fresh =
        let counted = sound.counted in
        record {
          sound = record { apart = sound.apart; each = sound.each; few = sound.few; counted = omega arith; place = sound.place };
          heavier = omega (arith, light);
        }

-- between two pieces
abbrev pub resting : Assembly → Assembly
resting s = record s { place = Between }

pub resting_sound : (s : Assembly) → IsSound s → IsSound (resting s)
resting_sound s sound = record { apart = sound.apart; each = sound.each; few = sound.few; counted = sound.counted; place = tt }

message_leads : (shortest began : ℕ) (frames : List Frame) (x : PlacedFrame) (s : Assembly) (bytes : ℕ) → IsSound s →
    weight s + bytes ≤ weight (resting s) + sum_by frame_length frames → StepLeads s bytes (in_message shortest began frames x s)
message_leads shortest began frames x s bytes sound light = go (size_cases frames) (cases_Bool (is_final x.frame))
  where
    go : ((fits frames ≡ true) × (size_fault frames ≡ None)) ⊎ ((fits frames ≡ false) × ((why : Why) × (size_fault frames ≡ Some why))) →
        (is_final x.frame ≡ true) ⊎ (is_final x.frame ≡ false) → StepLeads s bytes (in_message shortest began frames x s)
    go (inr (large, (why, fault))) final = rw (in_message, fault) tt
    go (inl (small, fault)) (inl final) =
        let f = fits_is frames small in
        rw (message_ends shortest began frames x s fault final)
        (completed_leads shortest began x.at frames (resting s) s bytes (resting_sound s sound) (omega (arith, light, f.size)))
    go (inl (small, fault)) (inr goes) =
        rw (message_goes shortest began frames x s fault goes) (record {
          sound = record { apart = sound.apart; each = sound.each; few = sound.few; counted = sound.counted; place = small };
          heavier = omega (arith, light);
        })

header_leads : (x : PlacedFrame) (s : Assembly) → IsSound (resting s) → StepLeads (resting s) (frame_length x.frame) (at_header x (resting s))
header_leads x s sound =
    cond_both (not (is_header x.frame)) _ _ Within (λ e. tt)
    (λ e. cond_both (begins_chain x.frame) _ _ Within
    (λ f. cond_both (is_open id s.chains) _ _ Within (λ g. tt)
    (λ g. cond_both (eqb (length s.chains) most_chains) _ _ Within (λ h. tt) (λ h. opens (sized e) g (eqb-false (length s.chains) most_chains h))))
    (λ f. cond_both (is_open id s.chains) _ _ Within (λ g. continues (sized e) g) (λ g. tt)))
  where
    id : ℕ
    id = chain_id x.frame

    Within : Step → Type 0
    Within t = StepLeads (resting s) (frame_length x.frame) t

    sized : not (is_header x.frame) ≡ false → frame_length x.frame ≡ header_length
    sized e = let n : length x.frame.payload ≡ 8 = eqb-true (length x.frame.payload) 8 (and_parts (not (is_final x.frame)) (eqb (length x.frame.payload) 8) (not-false (is_header x.frame) e)).1 in omega (arith, n)

    opens : frame_length x.frame ≡ header_length → is_open id s.chains ≡ false → (length s.chains ≡ most_chains → ⊥) → Leads (resting s) (frame_length x.frame) (record s { place = InFragment id false; chains = s.chains ++ chain_of id [] ∷ [] })
    opens size closed room =
        let few = sound.few in
        record {
          sound = record {
            apart = distinct_opened id [] s.chains closed sound.apart;
            each = fits_opened id s.chains sound.each;
            few = omega (arith, length-append s.chains (chain_of id [] ∷ []));
            counted = sound.counted;
            place = open_when_opened id [] s.chains;
          };
          heavier = omega (arith, size, sum_by_push chain_weight s.chains (chain_of id []));
        }

    continues : frame_length x.frame ≡ header_length → is_open id s.chains ≡ true → Leads (resting s) (frame_length x.frame) (record s { place = InFragment id (ends_chain x.frame) })
    continues size open_now =
        record {
          sound = record { apart = sound.apart; each = sound.each; few = sound.few; counted = sound.counted; place = open_now };
          heavier = omega (arith, size);
        }

length_changed : (id : ℕ) (frames : List Frame) (chains : List Chain) → length (with_frames id frames chains) ≡ length chains
length_changed id frames chains = length-map chains (λ (chain : Chain). if has_id id chain then (record { id = id; frames = frames }) else chain)

length_without : (id : ℕ) (chains : List Chain) → length (without id chains) ≤ length chains
length_without id [] = omega arith
length_without id (chain ∷ chains) = cond_both (not (has_id id chain)) (chain ∷ without id chains) (without id chains) (λ cs. length cs ≤ length (chain ∷ chains)) (λ e. omega (arith, length_without id chains)) (λ e. omega (arith, length_without id chains))

-- a flag changes no length
fits_unflagged : (frames : List Frame) (frame : Frame) → fits (frames ++ frame ∷ []) ≡ true → fits (frames ++ without_flag FINAL frame ∷ []) ≡ true
fits_unflagged frames frame e =
    let f = fits_is (frames ++ frame ∷ []) e in
    is_fits (frames ++ without_flag FINAL frame ∷ []) (record {
      count = omega (arith, f.count, length-append frames (frame ∷ []), length-append frames (without_flag FINAL frame ∷ []));
      size = omega (arith, f.size, sum_by_push frame_length frames frame, sum_by_push frame_length frames (without_flag FINAL frame));
    })

fragment_leads : (shortest id : ℕ) (last : Bool) (x : PlacedFrame) (s : Assembly) → IsSound (record s { place = InFragment id last }) →
    StepLeads (record s { place = InFragment id last }) (frame_length x.frame) (in_fragment shortest id last x (record s { place = InFragment id last }))
fragment_leads shortest id last x s sound = go (size_cases all) (cases_Bool (is_final x.frame)) (cases_Bool last)
  where
    so_far : List Frame
    so_far = frames_of id s.chains

    all : List Frame
    all = so_far ++ x.frame ∷ []

    there : Assembly
    there = record s { place = InFragment id last }

    grown : fits (frames_of id s.chains ++ x.frame ∷ []) ≡ true → Leads (record s { place = InFragment id last }) (frame_length x.frame) (record s { place = InFragment id last; chains = with_frames id (frames_of id s.chains ++ x.frame ∷ []) s.chains })
    grown small =
        let few = sound.few in
        record {
          sound = record {
            apart = distinct_changed id all s.chains sound.apart;
            each = fits_changed id all s.chains small sound.each;
            few = omega (arith, length_changed id all s.chains);
            counted = sound.counted;
            place = open_when_changed id all s.chains sound.place;
          };
          heavier = omega (arith, push_weight so_far x.frame, changed_weight id all s.chains sound.place sound.apart);
        }

    rests : fits (frames_of id s.chains ++ x.frame ∷ []) ≡ true → Leads (record s { place = InFragment id last }) (frame_length x.frame) (record s { place = Between; chains = with_frames id (frames_of id s.chains ++ without_flag FINAL x.frame ∷ []) s.chains })
    rests small =
        let few = sound.few in
        let unflagged = so_far ++ without_flag FINAL x.frame ∷ [] in
        record {
          sound = record {
            apart = distinct_changed id unflagged s.chains sound.apart;
            each = fits_changed id unflagged s.chains (fits_unflagged so_far x.frame small) sound.each;
            few = omega (arith, length_changed id unflagged s.chains);
            counted = sound.counted;
            place = tt;
          };
          heavier = omega (arith, push_weight so_far (without_flag FINAL x.frame), changed_weight id unflagged s.chains sound.place sound.apart);
        }

    closed : IsSound (record s { place = Between; chains = without id s.chains })
    closed =
        let few = sound.few in
        record {
          apart = distinct_without id s.chains sound.apart;
          each = fits_without_chain id s.chains sound.each;
          few = omega (arith, length_without id s.chains);
          counted = sound.counted;
          place = tt;
        }

    go : ((fits (frames_of id s.chains ++ x.frame ∷ []) ≡ true) × (size_fault (frames_of id s.chains ++ x.frame ∷ []) ≡ None)) ⊎ ((fits (frames_of id s.chains ++ x.frame ∷ []) ≡ false) × ((why : Why) × (size_fault (frames_of id s.chains ++ x.frame ∷ []) ≡ Some why))) →
        (is_final x.frame ≡ true) ⊎ (is_final x.frame ≡ false) → (last ≡ true) ⊎ (last ≡ false) →
        StepLeads (record s { place = InFragment id last }) (frame_length x.frame) (in_fragment shortest id last x (record s { place = InFragment id last }))
    go (inr (large, (why, fault))) final ends = rw (in_fragment, fault) tt
    go (inl (small, fault)) (inr goes) ends = rw (fragment_goes shortest id last x there fault goes) (grown small)
    go (inl (small, fault)) (inl final) (inl ends) =
        rw (ap (λ b. in_fragment shortest id b x there) ends ∙ chain_ends shortest id x there fault final)
        (completed_leads shortest x.at x.at all (record s { place = Between; chains = without id s.chains }) there (frame_length x.frame) closed
        (omega (arith, fits_weight all small, push_weight so_far x.frame, taken_weight id s.chains sound.place sound.apart)))
    go (inl (small, fault)) (inl final) (inr middle) =
        rw (ap (λ b. in_fragment shortest id b x there) middle ∙ fragment_ends shortest id x there fault final) (rests small)

step_leads_at : (shortest : ℕ) (x : PlacedFrame) (place : Place) (chains : List Chain) (complete : ℕ) →
    IsSound (record { place = place; chains = chains; complete = complete }) →
    StepLeads (record { place = place; chains = chains; complete = complete }) (frame_length x.frame) (stepped shortest place x (record { place = place; chains = chains; complete = complete }))
step_leads_at shortest x Between chains complete sound =
    let s : Assembly = record { place = Between; chains = chains; complete = complete } in
    cond_both (is_unfragmented x.frame) (in_message shortest x.at (x.frame ∷ []) x s) (at_header x s) (λ t. StepLeads s (frame_length x.frame) t)
    (λ e. message_leads shortest x.at (x.frame ∷ []) x s (frame_length x.frame) sound (omega (arith, sum_by_push frame_length [] x.frame)))
    (λ e. header_leads x s sound)
step_leads_at shortest x (InMessage began frames) chains complete sound =
    let s : Assembly = record { place = InMessage began frames; chains = chains; complete = complete } in
    message_leads shortest began (frames ++ x.frame ∷ []) x s (frame_length x.frame) sound (omega (arith, sum_by_push frame_length frames x.frame))
step_leads_at shortest x (InFragment id last) chains complete sound = fragment_leads shortest id last x (record { place = Between; chains = chains; complete = complete }) sound

-- Each frame that shows no fault leads from a sound state to a sound state that weighs its length more, or more than that.
pub step_leads : (shortest : ℕ) (x : PlacedFrame) (s : Assembly) → IsSound s → StepLeads s (frame_length x.frame) (step shortest x s)
step_leads shortest x s sound = step_leads_at shortest x s.place s.chains s.complete sound
