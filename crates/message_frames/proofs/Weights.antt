-- What the frames that came so far weigh at most, by what stands of them between two frames.
use Rattle.std.proofs.Common.{◌≡◌, ℕ, ◌+◌, ◌*◌, ◌≤◌, true, false, List, [], ◌∷◌, ◌++◌, length, sum_by, refl, sym, ◌∙◌, ap, ◌⊎◌, inl, inr, arith, length-append}
use Rattle.std.proofs.lemmas.Bool.{false≢true, cases_Bool, or_parts, eqb-true}
use Rattle.std.proofs.lemmas.List.Sums.{sum_by-cons, sum_by_push}
use Rattle.frame_codec.specs.Frames.{frame_length}
use Rattle.frame_codec.specs.declared.frames.Frame.{Frame}
use Rattle.message_frames.specs.Assembly.{Chain, Place, Between, InMessage, InFragment, Assembly, has_id, is_open, frames_of, with_frames, without}
use Rattle.message_frames.specs.Merging.{fits}
use Rattle.message_frames.proofs.Chains.{chain_of}
use Rattle.message_frames.proofs.ChainSets.{IsDistinct}
use Rattle.message_frames.proofs.Sizes.{fits_is}

-- the length of a fragment's header, a frame of eight bytes
abbrev pub header_length : ℕ
header_length = 14

-- Each frame of a chain may have come in a fragment of its own.
abbrev pub fragments_weight : List Frame → ℕ
fragments_weight frames = sum_by frame_length frames + header_length * length frames

-- the frames of a message, and a header for each
abbrev pub most_weight : ℕ
most_weight = 2154496

abbrev pub chain_weight : Chain → ℕ
chain_weight chain = fragments_weight chain.frames

abbrev pub chains_weight : List Chain → ℕ
chains_weight chains = sum_by chain_weight chains

abbrev pub place_weight : Place → ℕ
place_weight Between = 0
place_weight (InMessage at frames) = sum_by frame_length frames
place_weight (InFragment id last) = header_length

abbrev pub weight : Assembly → ℕ
weight s = most_weight * s.complete + chains_weight s.chains + place_weight s.place

pub fits_weight : (frames : List Frame) → fits frames ≡ true → fragments_weight frames ≤ most_weight
fits_weight frames e = let f = fits_is frames e in omega (arith, f.count, f.size)

pub push_weight : (frames : List Frame) (frame : Frame) → fragments_weight (frames ++ frame ∷ []) ≡ fragments_weight frames + frame_length frame + header_length
push_weight frames frame = omega (arith, sum_by_push frame_length frames frame, length-append frames (frame ∷ []))

-- chains

untouched : (id : ℕ) (frames : List Frame) (chains : List Chain) → is_open id chains ≡ false → with_frames id frames chains ≡ chains
untouched id frames [] closed = refl
untouched id frames (chain ∷ chains) closed = let parts = or_parts (has_id id chain) (is_open id chains) closed in rw (parts.0) (ap (λ cs. chain ∷ cs) (untouched id frames chains parts.1))

pub nothing_taken : (id : ℕ) (chains : List Chain) → is_open id chains ≡ false → without id chains ≡ chains
nothing_taken id [] closed = refl
nothing_taken id (chain ∷ chains) closed = let parts = or_parts (has_id id chain) (is_open id chains) closed in rw (parts.0) (ap (λ cs. chain ∷ cs) (nothing_taken id chains parts.1))

pub changed_weight : (id : ℕ) (frames : List Frame) (chains : List Chain) → is_open id chains ≡ true → IsDistinct chains →
    chains_weight (with_frames id frames chains) + fragments_weight (frames_of id chains) ≡ chains_weight chains + fragments_weight frames
changed_weight id frames [] open_now apart = absurd (false≢true open_now)
changed_weight id frames (chain ∷ chains) open_now apart = go (cases_Bool (has_id id chain)) (changed_weight id frames chains)
  where
    go : (has_id id chain ≡ true) ⊎ (has_id id chain ≡ false) → (is_open id chains ≡ true → IsDistinct chains → chains_weight (with_frames id frames chains) + fragments_weight (frames_of id chains) ≡ chains_weight chains + fragments_weight frames) →
        chains_weight (with_frames id frames (chain ∷ chains)) + fragments_weight (frames_of id (chain ∷ chains)) ≡ chains_weight (chain ∷ chains) + fragments_weight frames
    go (inl here) later =
        let closed : is_open id chains ≡ false = ap (λ n. is_open n chains) (sym (eqb-true chain.id id here)) ∙ apart.0 in
        rw here (rw (untouched id frames chains closed) (omega (arith, sum_by-cons chain_weight chain chains, sum_by-cons chain_weight (chain_of id frames) chains)))
    go (inr there) later =
        rw there (omega (arith, later (rw there at open_now) apart.1, sum_by-cons chain_weight chain chains, sum_by-cons chain_weight chain (with_frames id frames chains)))

pub taken_weight : (id : ℕ) (chains : List Chain) → is_open id chains ≡ true → IsDistinct chains →
    chains_weight (without id chains) + fragments_weight (frames_of id chains) ≡ chains_weight chains
taken_weight id [] open_now apart = absurd (false≢true open_now)
taken_weight id (chain ∷ chains) open_now apart = go (cases_Bool (has_id id chain)) (taken_weight id chains)
  where
    go : (has_id id chain ≡ true) ⊎ (has_id id chain ≡ false) → (is_open id chains ≡ true → IsDistinct chains → chains_weight (without id chains) + fragments_weight (frames_of id chains) ≡ chains_weight chains) →
        chains_weight (without id (chain ∷ chains)) + fragments_weight (frames_of id (chain ∷ chains)) ≡ chains_weight (chain ∷ chains)
    go (inl here) later =
        let closed : is_open id chains ≡ false = ap (λ n. is_open n chains) (sym (eqb-true chain.id id here)) ∙ apart.0 in
        rw here (rw (nothing_taken id chains closed) (omega (arith, sum_by-cons chain_weight chain chains)))
    go (inr there) later =
        rw there (omega (arith, later (rw there at open_now) apart.1, sum_by-cons chain_weight chain chains, sum_by-cons chain_weight chain (without id chains)))
