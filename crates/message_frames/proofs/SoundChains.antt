-- Chains stay sound as one is opened, changed or taken away.
use Rattle.std.proofs.Common.{◌≡◌, ◌≢◌, ℕ, suc, ◌<◌, ◌≤◌, Bool, true, false, eqb, List, [], ◌∷◌, ◌++◌, length, set, get_or-set_same, get_or-set_other, refl, sym, ◌∙◌, ap, subst, ◌⊎◌, inl, inr, Some, arith}
use Rattle.std.specs.Prelude.{◌||◌}
use Rattle.std.proofs.lemmas.Bool.{cases_Bool, or_parts, eq-eqb}
use Rattle.std.proofs.lemmas.Bool.Decides.{nat_tests}
use Rattle.frame_codec.specs.declared.frames.Frame.{Frame}
use Rattle.message_frames.specs.Tallies.{tally_of, no_tally}
use Rattle.message_frames.specs.Turns.{is_named, is_known, chain_named, with_tally, without_chain}
use Rattle.message_frames.specs.Lists.{list_at, AreSound}
use Rattle.message_frames.specs.declared.control.OpenChain.{OpenChain}
use Rattle.message_frames.specs.declared.tally.Tally.{Tally}
use Rattle.message_frames.proofs.ListsOfChains.{named_within, from_less, sound_with}

pub is_known-with_tally : (i id : ℕ) (tally : Tally) (chains : List OpenChain) → is_known i (with_tally id tally chains) ≡ is_known i chains
is_known-with_tally i id tally [] = refl
is_known-with_tally i id tally (chain ∷ chains) = go (cases_Bool (is_named id chain)) (is_known-with_tally i id tally chains)
  where
    go : (is_named id chain ≡ true) ⊎ (is_named id chain ≡ false) → is_known i (with_tally id tally chains) ≡ is_known i chains → is_known i (with_tally id tally (chain ∷ chains)) ≡ is_known i (chain ∷ chains)
    go (inl here) later = rw here refl
    go (inr other) later = rw other (ap (λ rest. is_named i chain || rest) later)

unknown_without : (i id : ℕ) (chains : List OpenChain) → is_known i chains ≡ false → is_known i (without_chain id chains) ≡ false
unknown_without i id [] unknown = unknown
unknown_without i id (chain ∷ chains) unknown = go (cases_Bool (is_named id chain)) (unknown_without i id chains (or_parts (is_named i chain) (is_known i chains) unknown).1)
  where
    go : (is_named id chain ≡ true) ⊎ (is_named id chain ≡ false) → is_known i (without_chain id chains) ≡ false → is_known i (without_chain id (chain ∷ chains)) ≡ false
    go (inl here) later = rw here ((or_parts (is_named i chain) (is_known i chains) unknown).1)
    go (inr other) later = rw other (rw ((or_parts (is_named i chain) (is_known i chains) unknown).0) later)

-- a list that changes leaves the chains after it
sound_after : (chains : List OpenChain) (end : ℕ) (lists : List (List Frame)) (k : ℕ) (frames : List Frame) → AreSound (suc k) chains end lists → AreSound (suc k) chains end (set lists k frames)
sound_after chains end lists k frames sound =
    sound_with (suc k) chains end lists (set lists k frames) sound (λ j above below. let other : j ≢ k = omega arith in get_or-set_other lists k j frames [] other)

first_sound : (id from : ℕ) (first : OpenChain) (chains : List OpenChain) (end : ℕ) (lists : List (List Frame)) (frames : List Frame) → is_named id first ≡ true → first.list < length lists →
    AreSound from (first ∷ chains) end lists → AreSound from (with_tally id (tally_of frames) (first ∷ chains)) end (set lists first.list frames)
first_sound id from first chains end lists frames here within sound =
    rw here (sound.0, sound.1, ap tally_of (sym (get_or-set_same lists first.list frames [] within)), sound_after chains end lists first.list frames sound.3)

pub sound_changed : (id from : ℕ) (chains : List OpenChain) (end : ℕ) (lists : List (List Frame)) (chain : OpenChain) (frames : List Frame) → AreSound from chains end lists →
    chain_named id chains ≡ Some chain → chain.list < length lists → AreSound from (with_tally id (tally_of frames) chains) end (set lists chain.list frames)
sound_changed id from [] end lists chain frames sound is within = sound
sound_changed id from (first ∷ chains) end lists chain frames sound is within =
    go (cases_Bool (is_named id first)) (sound_changed id (suc first.list) chains end lists chain frames sound.3)
  where
    go : (is_named id first ≡ true) ⊎ (is_named id first ≡ false) →
        (chain_named id chains ≡ Some chain → chain.list < length lists → AreSound (suc first.list) (with_tally id (tally_of frames) chains) end (set lists chain.list frames)) →
        AreSound from (with_tally id (tally_of frames) (first ∷ chains)) end (set lists chain.list frames)
    go (inl here) later =
        let same : first ≡ chain = cc (rw here at is) in
        let P : OpenChain → Type 0 = λ c. c.list < length lists → AreSound from (with_tally id (tally_of frames) (first ∷ chains)) end (set lists c.list frames) in
        subst P same (λ first_within. first_sound id from first chains end lists frames here first_within sound) within
    go (inr other) later =
        let found = named_within id (suc first.list) chains end lists chain sound.3 (rw other at is) in
        let after : suc first.list ≤ chain.list = found.above in
        let apart : first.list ≢ chain.list = omega arith in
        rw other (
          sound.0,
          is_known-with_tally first.id id (tally_of frames) chains ∙ sound.1,
          sound.2 ∙ ap tally_of (sym (get_or-set_other lists chain.list first.list frames [] apart)),
          later (rw other at is) within,
        )

pub sound_removed : (id from : ℕ) (chains : List OpenChain) (end : ℕ) (lists : List (List Frame)) (chain : OpenChain) (frames : List Frame) → AreSound from chains end lists →
    chain_named id chains ≡ Some chain → AreSound from (without_chain id chains) end (set lists chain.list frames)
sound_removed id from [] end lists chain frames sound is = sound
sound_removed id from (first ∷ chains) end lists chain frames sound is =
    go (cases_Bool (is_named id first)) (sound_removed id (suc first.list) chains end lists chain frames sound.3)
  where
    go : (is_named id first ≡ true) ⊎ (is_named id first ≡ false) →
        (chain_named id chains ≡ Some chain → AreSound (suc first.list) (without_chain id chains) end (set lists chain.list frames)) →
        AreSound from (without_chain id (first ∷ chains)) end (set lists chain.list frames)
    go (inl here) later =
        let same : first ≡ chain = cc (rw here at is) in
        let first_above : from ≤ first.list = sound.0 in
        let P : OpenChain → Type 0 = λ c. AreSound from (without_chain id (first ∷ chains)) end (set lists c.list frames) in
        subst P same (rw here (from_less from (suc first.list) chains end (set lists first.list frames) (omega arith) (sound_after chains end lists first.list frames sound.3)))
    go (inr other) later =
        let found = named_within id (suc first.list) chains end lists chain sound.3 (rw other at is) in
        let after : suc first.list ≤ chain.list = found.above in
        let apart : first.list ≢ chain.list = omega arith in
        rw other (
          sound.0,
          unknown_without first.id id chains sound.1,
          sound.2 ∙ ap tally_of (sym (get_or-set_other lists chain.list first.list frames [] apart)),
          later (rw other at is),
        )

-- a chain that is opened with the next list

abbrev pub opened : ℕ → ℕ → OpenChain
opened id list = record { id = id; list = list; tally = no_tally }

pub known_when_opened : (id list : ℕ) (chains : List OpenChain) → is_known id (chains ++ opened id list ∷ []) ≡ true
known_when_opened id list [] = rw (eq-eqb id id refl) refl
known_when_opened id list (chain ∷ chains) = rw (known_when_opened id list chains) (go (is_named id chain))
  where
    go : (b : Bool) → (b || true) ≡ true
    go true = refl
    go false = refl

unknown_when_opened : (i id list : ℕ) (chains : List OpenChain) → eqb id i ≡ false → is_known i chains ≡ false → is_known i (chains ++ opened id list ∷ []) ≡ false
unknown_when_opened i id list [] other unknown = rw other refl
unknown_when_opened i id list (chain ∷ chains) other unknown =
    let parts = or_parts (is_named i chain) (is_known i chains) unknown in
    rw (parts.0) (unknown_when_opened i id list chains other parts.1)

eqb-false_comm : (a b : ℕ) → eqb a b ≡ false → eqb b a ≡ false
eqb-false_comm a b differ = grind (arith, nat_tests)

pub sound_opened : (id from : ℕ) (chains : List OpenChain) (end : ℕ) (lists : List (List Frame)) → AreSound from chains end lists → is_known id chains ≡ false → list_at lists end ≡ [] →
    AreSound from (chains ++ opened id end ∷ []) (suc end) lists
sound_opened id from [] end lists sound unknown unused = (sound, refl, rw unused refl, (let same : suc end ≤ suc end = omega arith in same))
sound_opened id from (chain ∷ chains) end lists sound unknown unused =
    let parts = or_parts (is_named id chain) (is_known id chains) unknown in (
      sound.0,
      unknown_when_opened chain.id id end chains (eqb-false_comm chain.id id parts.0) sound.1,
      sound.2,
      sound_opened id (suc chain.list) chains end lists sound.3 parts.1 unused,
    )
