-- Lists with the same frames are the same state.
use Rattle.std.proofs.Common.{◌≡◌, ℕ, zero, suc, ◌≤◌, List, [], ◌∷◌, ◌++◌, length, map, replicate, length-append, refl, sym, ◌∙◌, ap, arith}
use Rattle.std.proofs.Math.ListN.{length-replicate}
use Rattle.frame_codec.specs.declared.frames.Frame.{Frame}
use Rattle.message_frames.specs.Tallies.{tally_of}
use Rattle.message_frames.specs.Lists.{list_at, chain_of, place_of, assembly_of, chains_end, IsSoundSpot, IsSound}
use Rattle.message_frames.specs.declared.control.OpenChain.{OpenChain}
use Rattle.message_frames.specs.declared.control.Spot.{Spot}
use Rattle.message_frames.specs.declared.control.Spot.TheVariants.{Free, OfMessage, OfFragment}
use Rattle.message_frames.specs.declared.control.Control.{Control}
use Rattle.message_frames.proofs.ListsOfChains.{sound_with}

abbrev pub AreSame : List (List Frame) → List (List Frame) → Type 0
AreSame lists others = (k : ℕ) → list_at others k ≡ list_at lists k

module _ (lists others : List (List Frame)) (same : AreSame lists others) where
  chains_same : (chains : List OpenChain) → map (chain_of others) chains ≡ map (chain_of lists) chains
  chains_same [] = refl
  chains_same (chain ∷ chains) = rw (same chain.list, chains_same chains) refl

  place_same : (spot : Spot) → place_of others spot ≡ place_of lists spot
  place_same Free = refl
  place_same (OfMessage begun) = rw (same begun.list) refl
  place_same (OfFragment id last) = refl

  pub assembly_same : (c : Control) → assembly_of c others ≡ assembly_of c lists
  assembly_same c = rw (place_same c.spot, chains_same c.chains.items) refl

  spot_same : (spot : Spot) (c : Control) → IsSoundSpot spot c lists → IsSoundSpot spot c others
  spot_same Free c sound = tt
  spot_same (OfMessage begun) c sound = (sound.0, sound.1 ∙ ap tally_of (sym (same begun.list)))
  spot_same (OfFragment id last) c sound = sound

  pub sound_same : (c : Control) → IsSound c lists → IsSound c others
  sound_same c sound = record {
    chains = sound_with 0 c.chains.items (chains_end c.spot c.lists) lists others sound.chains (λ k from below. same k);
    spot = spot_same c.spot c sound.spot;
    unused = λ k above. same k ∙ sound.unused k above;
  }

-- empty lists behind the others

none_at : (n k : ℕ) → list_at (replicate n []) k ≡ []
none_at zero k = refl
none_at (suc n) zero = refl
none_at (suc n) (suc k) = none_at n k

pub padded_same : (lists : List (List Frame)) (n : ℕ) → AreSame lists (lists ++ replicate n [])
padded_same [] n k = none_at n k
padded_same (first ∷ lists) n zero = refl
padded_same (first ∷ lists) n (suc k) = padded_same lists n k

pub length-padded : (lists : List (List Frame)) (n : ℕ) → n ≤ length (lists ++ replicate n [])
length-padded lists n = omega (arith, length-append lists (replicate n []), length-replicate {A = List Frame} n [])
