-- Effects are the bytes that spell them, whole.
use Rattle.std.proofs.Common.{◌≡◌, ℕ, List, Ok, subst}
use Rattle.wire_parts.specs.Parts.{AreBytes}
use Rattle.object_store.specs.declared.effects.Effect.{Effect}
use Rattle.object_store.specs.Spelling.{effect_bytes, IsSpelledEffect}
use Rattle.object_store.specs.Reading.{effect_at, effect_in}
use Rattle.wire_parts.proofs.Formats.{IsBytes}
use Rattle.wire_parts.proofs.PartFormats.{IsBytes-from_all}
use Rattle.object_store.proofs.OptionFormat.{itself}
use Rattle.object_store.proofs.EffectFormat.{SpellsEffect, reads_effect}
use Rattle.object_store.proofs.WholeText.{whole_found, whole_again}

pub effect_again : (e : Effect) → IsSpelledEffect e → effect_in (effect_bytes e) ≡ Ok e
unfolding effect_in
effect_again e fits = whole_again (λ (x : Effect). x) effect_at SpellsEffect reads_effect e (effect_bytes e) (itself effect_bytes e fits)

pub effect_found : (bytes : List ℕ) (e : Effect) → AreBytes bytes → effect_in bytes ≡ Ok e → IsSpelledEffect e × (bytes ≡ effect_bytes e)
unfolding effect_in
effect_found bytes e all is =
    let x = whole_found (λ (x : Effect). x) effect_at SpellsEffect reads_effect bytes e (IsBytes-from_all bytes all) is in
    subst (λ (y : Effect). IsSpelledEffect y × (bytes ≡ effect_bytes y)) x.1 (x.2.fits, x.2.is)

-- What is read of bytes has a spelling.
pub effect_spelled : (bytes : List ℕ) (e : Effect) → IsBytes bytes → effect_in bytes ≡ Ok e → IsSpelledEffect e
unfolding effect_in
effect_spelled bytes e are is =
    let x = whole_found (λ (x : Effect). x) effect_at SpellsEffect reads_effect bytes e are is in
    subst IsSpelledEffect x.1 x.2.fits
