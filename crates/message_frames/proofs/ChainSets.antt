-- The open chains as a set: each id once, each chain within the limits, and what their frames weigh.
use Rattle.std.proofs.Common.{◌≡◌, ℕ, true, false, eqb, List, [], ◌∷◌, ◌++◌, refl, sym, ◌∙◌, ap, ◌⊎◌, inl, inr, ◌||◌}
use Rattle.std.proofs.lemmas.Bool.{cases_Bool, or_parts, or_from, eqb-true, eqb-false, ne_eqb}
use Rattle.std.proofs.lemmas.List.Folds.{list_any-append}
use Rattle.frame_codec.specs.declared.frames.Frame.{Frame}
use Rattle.message_frames.specs.Assembly.{Chain, has_id, is_open, with_frames, without}
use Rattle.message_frames.specs.Merging.{fits}
use Rattle.message_frames.proofs.Chains.{chain_of}

-- each id once

abbrev pub IsDistinct : List Chain → Type 0
IsDistinct [] = Unit {0}
IsDistinct (chain ∷ chains) = (is_open chain.id chains ≡ false) × IsDistinct chains

pub open_elsewhere : (id other : ℕ) (frames : List Frame) (chains : List Chain) → is_open other (with_frames id frames chains) ≡ is_open other chains
open_elsewhere id other frames [] = refl
open_elsewhere id other frames (chain ∷ chains) = go (cases_Bool (has_id id chain)) (open_elsewhere id other frames chains)
  where
    go : (has_id id chain ≡ true) ⊎ (has_id id chain ≡ false) → is_open other (with_frames id frames chains) ≡ is_open other chains → is_open other (with_frames id frames (chain ∷ chains)) ≡ is_open other (chain ∷ chains)
    go (inl here) later = rw (here, later) (ap (λ n. eqb n other || is_open other chains) (sym (eqb-true chain.id id here)))
    go (inr there) later = rw (there, later) refl

pub distinct_changed : (id : ℕ) (frames : List Frame) (chains : List Chain) → IsDistinct chains → IsDistinct (with_frames id frames chains)
distinct_changed id frames [] apart = tt
distinct_changed id frames (chain ∷ chains) apart = go (cases_Bool (has_id id chain)) (distinct_changed id frames chains apart.1)
  where
    go : (has_id id chain ≡ true) ⊎ (has_id id chain ≡ false) → IsDistinct (with_frames id frames chains) → IsDistinct (with_frames id frames (chain ∷ chains))
    go (inl here) later = rw here (open_elsewhere id id frames chains ∙ ap (λ n. is_open n chains) (sym (eqb-true chain.id id here)) ∙ apart.0, later)
    go (inr there) later = rw there (open_elsewhere id chain.id frames chains ∙ apart.0, later)

closed_without : (id other : ℕ) (chains : List Chain) → is_open other chains ≡ false → is_open other (without id chains) ≡ false
closed_without id other [] closed = refl
closed_without id other (chain ∷ chains) closed = go (cases_Bool (has_id id chain)) (or_parts _ _ closed) (closed_without id other chains)
  where
    go : (has_id id chain ≡ true) ⊎ (has_id id chain ≡ false) → (has_id other chain ≡ false) × (is_open other chains ≡ false) → (is_open other chains ≡ false → is_open other (without id chains) ≡ false) → is_open other (without id (chain ∷ chains)) ≡ false
    go (inl here) parts later = rw here (later parts.1)
    go (inr there) parts later = rw there (or_from _ _ parts.0 (later parts.1))

pub distinct_without : (id : ℕ) (chains : List Chain) → IsDistinct chains → IsDistinct (without id chains)
distinct_without id [] apart = tt
distinct_without id (chain ∷ chains) apart = go (cases_Bool (has_id id chain)) (distinct_without id chains apart.1)
  where
    go : (has_id id chain ≡ true) ⊎ (has_id id chain ≡ false) → IsDistinct (without id chains) → IsDistinct (without id (chain ∷ chains))
    go (inl here) later = rw here later
    go (inr there) later = rw there (closed_without id chain.id chains apart.0, later)

pub distinct_opened : (id : ℕ) (frames : List Frame) (chains : List Chain) → is_open id chains ≡ false → IsDistinct chains → IsDistinct (chains ++ chain_of id frames ∷ [])
distinct_opened id frames [] closed apart = (refl, tt)
distinct_opened id frames (chain ∷ chains) closed apart =
    let parts = or_parts (has_id id chain) (is_open id chains) closed in
    let other : eqb id chain.id ≡ false = ne_eqb id chain.id (λ e. eqb-false chain.id id parts.0 (sym e)) in
    (list_any-append (has_id chain.id) chains (chain_of id frames ∷ []) ∙ or_from _ _ apart.0 (or_from _ _ other refl), distinct_opened id frames chains parts.1 apart.1)

-- each within the limits

abbrev pub EachFits : List Chain → Type 0
EachFits [] = Unit {0}
EachFits (chain ∷ chains) = (fits chain.frames ≡ true) × EachFits chains

pub fits_changed : (id : ℕ) (frames : List Frame) (chains : List Chain) → fits frames ≡ true → EachFits chains → EachFits (with_frames id frames chains)
fits_changed id frames [] small each = tt
fits_changed id frames (chain ∷ chains) small each = go (cases_Bool (has_id id chain)) (fits_changed id frames chains small each.1)
  where
    go : (has_id id chain ≡ true) ⊎ (has_id id chain ≡ false) → EachFits (with_frames id frames chains) → EachFits (with_frames id frames (chain ∷ chains))
    go (inl here) later = rw here (small, later)
    go (inr there) later = rw there (each.0, later)

pub fits_without_chain : (id : ℕ) (chains : List Chain) → EachFits chains → EachFits (without id chains)
fits_without_chain id [] each = tt
fits_without_chain id (chain ∷ chains) each = go (cases_Bool (has_id id chain)) (fits_without_chain id chains each.1)
  where
    go : (has_id id chain ≡ true) ⊎ (has_id id chain ≡ false) → EachFits (without id chains) → EachFits (without id (chain ∷ chains))
    go (inl here) later = rw here later
    go (inr there) later = rw there (each.0, later)

pub fits_opened : (id : ℕ) (chains : List Chain) → EachFits chains → EachFits (chains ++ chain_of id [] ∷ [])
fits_opened id [] each = (refl, tt)
fits_opened id (chain ∷ chains) each = (each.0, fits_opened id chains each.1)
