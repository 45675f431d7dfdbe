-- Chains and their lists: a change of one list changes one chain.
use Rattle.std.proofs.Common.{◌≡◌, ◌≢◌, ℕ, suc, ◌<◌, ◌≤◌, true, false, List, [], ◌∷◌, length, map, set, get_or-set_same, get_or-set_other, refl, sym, ◌∙◌, ap, subst, ◌⊎◌, inl, inr, Some, arith}
use Rattle.std.specs.Prelude.{◌||◌}
use Rattle.std.proofs.lemmas.Bool.{false≢true, cases_Bool, or_parts, eqb-true}
use Rattle.frame_codec.specs.declared.frames.Frame.{Frame}
use Rattle.message_frames.specs.Assembly.{is_open, frames_of, with_frames, without}
use Rattle.message_frames.specs.Tallies.{tally_of}
use Rattle.message_frames.specs.Turns.{is_named, is_known, chain_named, with_tally, without_chain}
use Rattle.message_frames.specs.Lists.{list_at, chain_of, AreSound}
use Rattle.message_frames.specs.declared.control.OpenChain.{OpenChain}
use Rattle.message_frames.specs.declared.tally.Tally.{Tally}

-- the chains of control are those of the state

pub is_open-chains : (id : ℕ) (lists : List (List Frame)) (chains : List OpenChain) → is_open id (map (chain_of lists) chains) ≡ is_known id chains
is_open-chains id lists [] = refl
is_open-chains id lists (chain ∷ chains) = ap (λ rest. is_named id chain || rest) (is_open-chains id lists chains)

pub frames_of-named : (id : ℕ) (lists : List (List Frame)) (chains : List OpenChain) (chain : OpenChain) → chain_named id chains ≡ Some chain → frames_of id (map (chain_of lists) chains) ≡ list_at lists chain.list
frames_of-named id lists [] chain is = absurd (cc is)
frames_of-named id lists (first ∷ chains) chain is = go (cases_Bool (is_named id first)) (frames_of-named id lists chains chain)
  where
    go : (is_named id first ≡ true) ⊎ (is_named id first ≡ false) → (chain_named id chains ≡ Some chain → frames_of id (map (chain_of lists) chains) ≡ list_at lists chain.list) →
        frames_of id (map (chain_of lists) (first ∷ chains)) ≡ list_at lists chain.list
    go (inl here) later = let same : first ≡ chain = cc (rw here at is) in rw here (ap (λ (c : OpenChain). list_at lists c.list) same)
    go (inr other) later = rw other (later (rw other at is))

pub known_is_named : (id : ℕ) (chains : List OpenChain) → is_known id chains ≡ true → (chain : OpenChain) × (chain_named id chains ≡ Some chain)
known_is_named id [] known = absurd (false≢true known)
known_is_named id (first ∷ chains) known = go (cases_Bool (is_named id first)) (known_is_named id chains)
  where
    go : (is_named id first ≡ true) ⊎ (is_named id first ≡ false) → (is_known id chains ≡ true → (chain : OpenChain) × (chain_named id chains ≡ Some chain)) → (chain : OpenChain) × (chain_named id (first ∷ chains) ≡ Some chain)
    go (inl here) later = (first, rw here refl)
    go (inr other) later = let found = later (rw other at known) in (found.0, rw other (found.1))

-- bounds of the lists

pub bounds : (from : ℕ) (chains : List OpenChain) (end : ℕ) (lists : List (List Frame)) → AreSound from chains end lists → from ≤ end
bounds from [] end lists sound = sound
bounds from (chain ∷ chains) end lists sound =
    let first : from ≤ chain.list = sound.0 in
    let rest : suc chain.list ≤ end = bounds (suc chain.list) chains end lists sound.3 in
    omega arith

pub from_less : (less from : ℕ) (chains : List OpenChain) (end : ℕ) (lists : List (List Frame)) → less ≤ from → AreSound from chains end lists → AreSound less chains end lists
from_less less from [] end lists below sound = let bound : from ≤ end = sound in omega arith
from_less less from (chain ∷ chains) end lists below sound = (let first : from ≤ chain.list = sound.0 in omega arith, sound.1, sound.2, sound.3)

pub to_more : (from : ℕ) (chains : List OpenChain) (end more : ℕ) (lists : List (List Frame)) → end ≤ more → AreSound from chains end lists → AreSound from chains more lists
to_more from [] end more lists above sound = let bound : from ≤ end = sound in omega arith
to_more from (chain ∷ chains) end more lists above sound = (sound.0, sound.1, sound.2, to_more (suc chain.list) chains end more lists above sound.3)

-- what is known of a chain with an id
pub record IsWithin (id from : ℕ) (chain : OpenChain) (end : ℕ) (lists : List (List Frame)) : Type 0 where
  pub named : chain.id ≡ id
  pub above : from ≤ chain.list
  pub below : chain.list < end
  pub tally : chain.tally ≡ tally_of (list_at lists chain.list)

pub named_within : (id from : ℕ) (chains : List OpenChain) (end : ℕ) (lists : List (List Frame)) (chain : OpenChain) → AreSound from chains end lists → chain_named id chains ≡ Some chain → IsWithin id from chain end lists
named_within id from [] end lists chain sound is = absurd (cc is)
named_within id from (first ∷ chains) end lists chain sound is = go (cases_Bool (is_named id first)) (named_within id (suc first.list) chains end lists chain sound.3)
  where
    go : (is_named id first ≡ true) ⊎ (is_named id first ≡ false) → (chain_named id chains ≡ Some chain → IsWithin id (suc first.list) chain end lists) → IsWithin id from chain end lists
    go (inl here) later =
        let same : first ≡ chain = cc (rw here at is) in
        let rest : suc first.list ≤ end = bounds (suc first.list) chains end lists sound.3 in
        let P : OpenChain → Type 0 = λ c. IsWithin id from c end lists in
        subst P same (record { named = eqb-true first.id id here; above = sound.0; below = omega arith; tally = sound.2 })
    go (inr other) later =
        let found = later (rw other at is) in
        record { named = found.named; above = (let first_above : from ≤ first.list = sound.0 in let after : suc first.list ≤ chain.list = found.above in omega arith); below = found.below; tally = found.tally }

-- lists that are as they were

pub same_chains : (from : ℕ) (chains : List OpenChain) (end : ℕ) (lists others : List (List Frame)) → AreSound from chains end lists →
    ((k : ℕ) → from ≤ k → k < end → list_at others k ≡ list_at lists k) → map (chain_of others) chains ≡ map (chain_of lists) chains
same_chains from [] end lists others sound same = refl
same_chains from (chain ∷ chains) end lists others sound same =
    let rest : suc chain.list ≤ end = bounds (suc chain.list) chains end lists sound.3 in
    let first : from ≤ chain.list = sound.0 in
    let tail = same_chains (suc chain.list) chains end lists others sound.3 (λ k above below. same k (omega arith) below) in
    rw (same chain.list first (omega arith), tail) refl

pub sound_with : (from : ℕ) (chains : List OpenChain) (end : ℕ) (lists others : List (List Frame)) → AreSound from chains end lists →
    ((k : ℕ) → from ≤ k → k < end → list_at others k ≡ list_at lists k) → AreSound from chains end others
sound_with from [] end lists others sound same = sound
sound_with from (chain ∷ chains) end lists others sound same =
    let rest : suc chain.list ≤ end = bounds (suc chain.list) chains end lists sound.3 in
    let first : from ≤ chain.list = sound.0 in
    (first, sound.1, sound.2 ∙ ap tally_of (sym (same chain.list first (omega arith))), sound_with (suc chain.list) chains end lists others sound.3 (λ k above below. same k (omega arith) below))

-- a chain whose list changes

unknown_unchanged : (id : ℕ) (frames : List Frame) (lists : List (List Frame)) (chains : List OpenChain) → is_known id chains ≡ false → with_frames id frames (map (chain_of lists) chains) ≡ map (chain_of lists) chains
unknown_unchanged id frames lists [] unknown = refl
unknown_unchanged id frames lists (chain ∷ chains) unknown =
    let parts = or_parts (is_named id chain) (is_known id chains) unknown in
    rw (parts.0, unknown_unchanged id frames lists chains parts.1) refl

unknown_kept : (id : ℕ) (lists : List (List Frame)) (chains : List OpenChain) → is_known id chains ≡ false → without id (map (chain_of lists) chains) ≡ map (chain_of lists) chains
unknown_kept id lists [] unknown = refl
unknown_kept id lists (chain ∷ chains) unknown =
    let parts = or_parts (is_named id chain) (is_known id chains) unknown in
    rw (parts.0, unknown_kept id lists chains parts.1) refl

-- what a change of the list of the first chain leaves of those after it
others_same : (lists : List (List Frame)) (k : ℕ) (frames : List Frame) (chains : List OpenChain) (end : ℕ) → AreSound (suc k) chains end lists → map (chain_of (set lists k frames)) chains ≡ map (chain_of lists) chains
others_same lists k frames chains end sound =
    same_chains (suc k) chains end lists (set lists k frames) sound (λ j above below. let other : j ≢ k = omega arith in get_or-set_other lists k j frames [] other)

first_changed : (id : ℕ) (first : OpenChain) (chains : List OpenChain) (end : ℕ) (lists : List (List Frame)) (frames : List Frame) (tally : Tally) →
    is_named id first ≡ true → is_known first.id chains ≡ false → AreSound (suc first.list) chains end lists → first.list < length lists →
    with_frames id frames (map (chain_of lists) (first ∷ chains)) ≡ map (chain_of (set lists first.list frames)) (with_tally id tally (first ∷ chains))
first_changed id first chains end lists frames tally here apart sound within =
    let named : first.id ≡ id = eqb-true first.id id here in
    let unknown : is_known id chains ≡ false = ap (λ i. is_known i chains) (sym named) ∙ apart in
    rw here (rw (get_or-set_same lists first.list frames [] within, named, unknown_unchanged id frames lists chains unknown, others_same lists first.list frames chains end sound) refl)

pub with_frames-changed : (id from : ℕ) (chains : List OpenChain) (end : ℕ) (lists : List (List Frame)) (chain : OpenChain) (frames : List Frame) (tally : Tally) →
    AreSound from chains end lists → chain_named id chains ≡ Some chain → chain.list < length lists →
    with_frames id frames (map (chain_of lists) chains) ≡ map (chain_of (set lists chain.list frames)) (with_tally id tally chains)
with_frames-changed id from [] end lists chain frames tally sound is within = refl
with_frames-changed id from (first ∷ chains) end lists chain frames tally sound is within =
    go (cases_Bool (is_named id first)) (with_frames-changed id (suc first.list) chains end lists chain frames tally sound.3)
  where
    go : (is_named id first ≡ true) ⊎ (is_named id first ≡ false) →
        (chain_named id chains ≡ Some chain → chain.list < length lists → with_frames id frames (map (chain_of lists) chains) ≡ map (chain_of (set lists chain.list frames)) (with_tally id tally chains)) →
        with_frames id frames (map (chain_of lists) (first ∷ chains)) ≡ map (chain_of (set lists chain.list frames)) (with_tally id tally (first ∷ chains))
    go (inl here) later =
        let same : first ≡ chain = cc (rw here at is) in
        let P : OpenChain → Type 0 = λ c. c.list < length lists → with_frames id frames (map (chain_of lists) (first ∷ chains)) ≡ map (chain_of (set lists c.list frames)) (with_tally id tally (first ∷ chains)) in
        subst P same (first_changed id first chains end lists frames tally here sound.1 sound.3) within
    go (inr other) later =
        let found = named_within id (suc first.list) chains end lists chain sound.3 (rw other at is) in
        let after : suc first.list ≤ chain.list = found.above in
        let apart : first.list ≢ chain.list = omega arith in
        rw other (rw (get_or-set_other lists chain.list first.list frames [] apart, later (rw other at is) within) refl)

first_removed : (id : ℕ) (first : OpenChain) (chains : List OpenChain) (end : ℕ) (lists : List (List Frame)) (frames : List Frame) →
    is_named id first ≡ true → is_known first.id chains ≡ false → AreSound (suc first.list) chains end lists →
    without id (map (chain_of lists) (first ∷ chains)) ≡ map (chain_of (set lists first.list frames)) (without_chain id (first ∷ chains))
first_removed id first chains end lists frames here apart sound =
    let named : first.id ≡ id = eqb-true first.id id here in
    let unknown : is_known id chains ≡ false = ap (λ i. is_known i chains) (sym named) ∙ apart in
    rw here (rw (unknown_kept id lists chains unknown, others_same lists first.list frames chains end sound) refl)

pub without-removed : (id from : ℕ) (chains : List OpenChain) (end : ℕ) (lists : List (List Frame)) (chain : OpenChain) (frames : List Frame) →
    AreSound from chains end lists → chain_named id chains ≡ Some chain →
    without id (map (chain_of lists) chains) ≡ map (chain_of (set lists chain.list frames)) (without_chain id chains)
without-removed id from [] end lists chain frames sound is = refl
without-removed id from (first ∷ chains) end lists chain frames sound is =
    go (cases_Bool (is_named id first)) (without-removed id (suc first.list) chains end lists chain frames sound.3)
  where
    go : (is_named id first ≡ true) ⊎ (is_named id first ≡ false) →
        (chain_named id chains ≡ Some chain → without id (map (chain_of lists) chains) ≡ map (chain_of (set lists chain.list frames)) (without_chain id chains)) →
        without id (map (chain_of lists) (first ∷ chains)) ≡ map (chain_of (set lists chain.list frames)) (without_chain id (first ∷ chains))
    go (inl here) later =
        let same : first ≡ chain = cc (rw here at is) in
        let P : OpenChain → Type 0 = λ c. without id (map (chain_of lists) (first ∷ chains)) ≡ map (chain_of (set lists c.list frames)) (without_chain id (first ∷ chains)) in
        subst P same (first_removed id first chains end lists frames here sound.1 sound.3)
    go (inr other) later =
        let found = named_within id (suc first.list) chains end lists chain sound.3 (rw other at is) in
        let after : suc first.list ≤ chain.list = found.above in
        let apart : first.list ≢ chain.list = omega arith in
        rw other (rw (get_or-set_other lists chain.list first.list frames [] apart, later (rw other at is)) refl)
