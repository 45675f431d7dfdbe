-- Control and lists that are numbered anew are the same state.
use Rattle.std.proofs.Common.{◌≡◌, ℕ, ◌+◌, ◌≤◌, List, [], ◌∷◌, ◌++◌, length, length-append, refl, sym, ◌∙◌, ap, subst, arith}
use Rattle.std.proofs.lemmas.List.{length-map, get_or_past}
use Rattle.frame_codec.specs.declared.frames.Frame.{Frame}
use Rattle.message_frames.specs.Tallies.{tally_of}
use Rattle.message_frames.specs.Lists.{list_at, place_of, assembly_of, chains_end, AreSound, IsSoundSpot, IsSound, renumbered, lists_of, spot_with, spot_lists}
use Rattle.message_frames.specs.declared.control.OpenChain.{OpenChain}
use Rattle.message_frames.specs.declared.control.Spot.{Spot}
use Rattle.message_frames.specs.declared.control.Spot.TheVariants.{Free, OfMessage, OfFragment}
use Rattle.message_frames.specs.declared.control.Control.{Control}
use Rattle.message_frames.proofs.ListsOfChains.{to_more}
use Rattle.message_frames.proofs.Settling.{chains_placed, sound_placed, at_seam, is_known-renumbered}
use Rattle.message_frames.proofs.SoundTurns.{end_of, spot_of}

-- the frames of all open messages, in the order of their new numbers
abbrev pub open_lists : List (List Frame) → List OpenChain → Spot → List (List Frame)
open_lists lists chains spot = lists_of lists chains ++ spot_lists lists spot

abbrev pub renumbered_control : Control → Control
renumbered_control c = record c {
  spot = spot_with (length c.chains.items) c.spot;
  chains = record { items = renumbered 0 c.chains.items };
  lists = length c.chains.items + length (spot_lists [] c.spot);
}

pub length-spot_lists : (lists others : List (List Frame)) (spot : Spot) → length (spot_lists others spot) ≡ length (spot_lists lists spot)
length-spot_lists lists others Free = refl
length-spot_lists lists others (OfMessage begun) = refl
length-spot_lists lists others (OfFragment id last) = refl

pub spot_lists_few : (lists : List (List Frame)) (spot : Spot) → length (spot_lists lists spot) ≤ 1
spot_lists_few lists Free = omega arith
spot_lists_few lists (OfMessage begun) = omega arith
spot_lists_few lists (OfFragment id last) = omega arith

module _ (lists : List (List Frame)) (chains : List OpenChain) where
  count_of_lists : length (lists_of lists chains) ≡ length chains
  count_of_lists = length-map chains (λ (chain : OpenChain). list_at lists chain.list)

  last_list : (frames : List Frame) → list_at (lists_of lists chains ++ frames ∷ []) (length chains) ≡ frames
  last_list frames = subst (λ n. list_at (lists_of lists chains ++ frames ∷ []) n ≡ frames) count_of_lists (at_seam (lists_of lists chains) frames [])

  same_place : (spot : Spot) → place_of (open_lists lists chains spot) (spot_with (length chains) spot) ≡ place_of lists spot
  same_place Free = refl
  same_place (OfMessage begun) = rw (last_list (list_at lists begun.list)) refl
  same_place (OfFragment id last) = refl

  none_past : (spot : Spot) (k : ℕ) → length chains + length (spot_lists [] spot) ≤ k → list_at (open_lists lists chains spot) k ≡ []
  none_past spot k above =
      get_or_past (open_lists lists chains spot) k [] (omega (arith, above, length-append (lists_of lists chains) (spot_lists lists spot), count_of_lists, length-spot_lists lists [] spot))

  new_end : (spot : Spot) → 0 + length chains ≡ chains_end (spot_with (length chains) spot) (length chains + length (spot_lists [] spot))
  new_end Free = omega arith
  new_end (OfMessage begun) = omega arith
  new_end (OfFragment id last) = omega arith

module _ (c : Control) (lists : List (List Frame)) (sound : IsSound c lists) where
  pub same_renumbered : assembly_of (renumbered_control c) (open_lists lists c.chains.items c.spot) ≡ assembly_of c lists
  same_renumbered = rw (same_place lists c.chains.items c.spot, chains_placed lists (spot_lists lists c.spot) [] c.chains.items) refl

  spot_sound : (spot : Spot) → c.spot ≡ spot → IsSoundSpot (spot_with (length c.chains.items) spot) (record (renumbered_control c) { lists = length c.chains.items + length (spot_lists [] spot) }) (open_lists lists c.chains.items spot)
  spot_sound Free is = tt
  spot_sound (OfMessage begun) is = (omega arith, (spot_of is sound).1 ∙ ap tally_of (sym (last_list lists c.chains.items (list_at lists begun.list))))
  spot_sound (OfFragment id last) is = is_known-renumbered id 0 c.chains.items ∙ spot_of is sound

  pub sound_renumbered : IsSound (renumbered_control c) (open_lists lists c.chains.items c.spot)
  sound_renumbered = record {
    chains = subst (λ end. AreSound 0 (renumbered 0 c.chains.items) end (open_lists lists c.chains.items c.spot)) (new_end lists c.chains.items c.spot)
        (sound_placed lists (spot_lists lists c.spot) [] c.chains.items 0 (chains_end c.spot c.lists) sound.chains);
    spot = spot_sound c.spot refl;
    unused = none_past lists c.chains.items c.spot;
  }

  -- what moving the chains' lists leaves of a message in progress
  spot_lists_at : (others : List (List Frame)) (spot : Spot) → c.spot ≡ spot → ((k : ℕ) → AreSound 0 c.chains.items k lists → list_at others k ≡ list_at lists k) → spot_lists others spot ≡ spot_lists lists spot
  spot_lists_at others Free is same = refl
  spot_lists_at others (OfMessage begun) is same = ap (λ frames. frames ∷ []) (same begun.list (end_of is sound))
  spot_lists_at others (OfFragment id last) is same = refl

  pub spot_lists_same : (others : List (List Frame)) → ((k : ℕ) → AreSound 0 c.chains.items k lists → list_at others k ≡ list_at lists k) → spot_lists others c.spot ≡ spot_lists lists c.spot
  spot_lists_same others same = spot_lists_at others c.spot refl same

pub sound_in_all : (spot : Spot) (c : Control) (lists : List (List Frame)) (count : ℕ) → c.spot ≡ spot → IsSound c lists → c.lists ≤ count → AreSound 0 c.chains.items count lists
sound_in_all Free c lists count is sound few = to_more 0 c.chains.items c.lists count lists few (end_of is sound)
sound_in_all (OfMessage begun) c lists count is sound few = to_more 0 c.chains.items begun.list count lists (omega (arith, (spot_of is sound).0)) (end_of is sound)
sound_in_all (OfFragment id last) c lists count is sound few = to_more 0 c.chains.items c.lists count lists few (end_of is sound)
