-- Frames without a fault weigh no more than the state after them, and no state weighs more than a number.
use Rattle.std.proofs.Common.{◌≡◌, ℕ, ◌+◌, ◌*◌, ◌≤◌, List, [], ◌∷◌, length, sum_by, None, sym, arith}
use Rattle.std.proofs.lemmas.List.Sums.{sum_by-cons}
use Rattle.frame_codec.specs.Frames.{frame_length}
use Rattle.frame_codec.specs.declared.frames.PlacedFrame.{PlacedFrame}
use Rattle.message_frames.specs.Assembly.{most_chains, most_messages, Chain, Place, Between, InMessage, InFragment, Assembly, Step, Faulty, Goes, Gives, nothing_yet, step, assembled}
use Rattle.message_frames.proofs.Composition.{after_step}
use Rattle.message_frames.proofs.ChainSets.{EachFits}
use Rattle.message_frames.proofs.Sizes.{fits_is}
use Rattle.message_frames.proofs.Soundness.{IsSound, IsPlaceSound, Leads, StepLeads, step_leads, nothing_is_sound}
use Rattle.message_frames.proofs.Weights.{weight, most_weight, chains_weight, chain_weight, place_weight, fits_weight}

-- the lengths of frames together
abbrev pub lengths : List PlacedFrame → ℕ
lengths xs = sum_by (λ (x : PlacedFrame). frame_length x.frame) xs

leads_on : (s mid next : Assembly) (first more all : ℕ) → first + more ≡ all → Leads s first mid → Leads mid more next → Leads s all next
leads_on s mid next first more all e a b = record { sound = b.sound; heavier = omega (arith, e, a.heavier, b.heavier) }

after_step_leads : (shortest : ℕ) (x : PlacedFrame) (xs : List PlacedFrame) (s : Assembly) (t : Step) → StepLeads s (frame_length x.frame) t →
    ((next : Assembly) → IsSound next → (assembled shortest xs next).fault ≡ None → Leads next (lengths xs) (assembled shortest xs next).after) →
    (after_step shortest xs s t).fault ≡ None → Leads s (lengths (x ∷ xs)) (after_step shortest xs s t).after
after_step_leads shortest x xs s (Faulty fault) leads later none = absurd (cc)
after_step_leads shortest x xs s (Goes next) leads later none =
    leads_on s next _ (frame_length x.frame) (lengths xs) (lengths (x ∷ xs)) (sym (sum_by-cons _ x xs)) leads (later next leads.sound none)
after_step_leads shortest x xs s (Gives message next) leads later none =
    leads_on s next _ (frame_length x.frame) (lengths xs) (lengths (x ∷ xs)) (sym (sum_by-cons _ x xs)) leads (later next leads.sound none)

-- Without a fault the state after frames weighs at least as much more as they are long.
pub assembled_leads : (shortest : ℕ) (xs : List PlacedFrame) (s : Assembly) → IsSound s → (assembled shortest xs s).fault ≡ None →
    Leads s (lengths xs) (assembled shortest xs s).after
assembled_leads shortest [] s sound none = record { sound = sound; heavier = omega arith }
assembled_leads shortest (x ∷ xs) s sound none =
    after_step_leads shortest x xs s (step shortest x s) (step_leads shortest x s sound) (λ next. assembled_leads shortest xs next) none

after_step_sound : (shortest : ℕ) (xs : List PlacedFrame) (s : Assembly) (bytes : ℕ) (t : Step) → IsSound s → StepLeads s bytes t →
    ((next : Assembly) → IsSound next → IsSound (assembled shortest xs next).after) → IsSound (after_step shortest xs s t).after
after_step_sound shortest xs s bytes (Faulty fault) sound leads later = sound
after_step_sound shortest xs s bytes (Goes next) sound leads later = later next leads.sound
after_step_sound shortest xs s bytes (Gives message next) sound leads later = later next leads.sound

-- The state after frames keeps the limits, also where a fault stopped them.
pub assembled_sound : (shortest : ℕ) (xs : List PlacedFrame) (s : Assembly) → IsSound s → IsSound (assembled shortest xs s).after
assembled_sound shortest [] s sound = sound
assembled_sound shortest (x ∷ xs) s sound =
    after_step_sound shortest xs s (frame_length x.frame) (step shortest x s) sound (step_leads shortest x s sound) (λ next. assembled_sound shortest xs next)

-- a bound for every state

chains_bound : (chains : List Chain) → EachFits chains → chains_weight chains ≤ most_weight * length chains
chains_bound [] each = omega arith
chains_bound (chain ∷ chains) each = omega (arith, chains_bound chains each.1, fits_weight chain.frames each.0, sum_by-cons chain_weight chain chains)

place_bound : (chains : List Chain) (place : Place) → IsPlaceSound chains place → place_weight place ≤ most_weight
place_bound chains Between sound = omega arith
place_bound chains (InMessage at frames) sound = let f = fits_is frames sound in omega (arith, f.size)
place_bound chains (InFragment id last) sound = omega arith

-- complete messages, open chains, and the message in progress
abbrev pub heaviest : ℕ
heaviest = most_weight * (most_messages + most_chains + 1)

pub weight_bound : (s : Assembly) → IsSound s → weight s ≤ heaviest
weight_bound s sound =
    let few = sound.few in
    let counted = sound.counted in
    omega (arith, chains_bound s.chains sound.each, place_bound s.chains s.place sound.place)

-- The frames of a stream that show no fault are together no longer than that.
pub lengths_bound : (shortest : ℕ) (xs : List PlacedFrame) → (assembled shortest xs nothing_yet).fault ≡ None → lengths xs ≤ heaviest
lengths_bound shortest xs none =
    let leads = assembled_leads shortest xs nothing_yet nothing_is_sound none in
    omega (arith, leads.heavier, weight_bound (assembled shortest xs nothing_yet).after leads.sound)
