-- Control stays sound with each turn, and each turn is a step.
use Rattle.std.proofs.Common.{◌≡◌, ◌≢◌, ℕ, suc, ◌+◌, ◌<◌, ◌≤◌, Bool, true, false, List, [], ◌∷◌, ◌++◌, length, set, get_or-set_same, get_or-set_other, refl, sym, ◌∙◌, ap, subst, ◌⊎◌, inl, inr, Some, arith}
use Rattle.std.proofs.lemmas.Bool.{cases_Bool}
use Rattle.frame_codec.specs.Flags.{without_flag}
use Rattle.frame_codec.specs.declared.flags.TheConstants.{FINAL}
use Rattle.frame_codec.specs.declared.frames.Frame.{Frame}
use Rattle.frame_codec.specs.declared.frames.PlacedFrame.{PlacedFrame}
use Rattle.message_frames.specs.Assembly.{is_unfragmented, between, in_message, in_fragment, stepped, step}
use Rattle.message_frames.specs.Tallies.{tally_of, tally_with}
use Rattle.message_frames.specs.Turns.{Turned, begun_at, chain_named, is_known, with_tally, without_chain, message_turn, turned_at, turned}
use Rattle.message_frames.specs.Lists.{list_at, place_of, assembly_of, step_of, chains_end, AreSound, IsSoundSpot, IsSound, lists_after}
use Rattle.message_frames.specs.declared.control.Begun.{Begun}
use Rattle.message_frames.specs.declared.control.OpenChain.{OpenChain}
use Rattle.message_frames.specs.declared.control.Spot.{Spot}
use Rattle.message_frames.specs.declared.control.Spot.TheVariants.{Free, OfMessage, OfFragment}
use Rattle.message_frames.specs.declared.control.Ending.TheVariants.{GoesOn, EndsFragment, EndsMessage}
use Rattle.message_frames.specs.declared.control.Turn.{Turn}
use Rattle.message_frames.specs.declared.control.Turn.TheVariants.{Fails, Heads, Joins}
use Rattle.message_frames.specs.declared.control.Control.{Control}
use Rattle.message_frames.specs.declared.tally.Tally.{Tally}
use Rattle.message_frames.proofs.ListsOfChains.{named_within, known_is_named, to_more, sound_with}
use Rattle.message_frames.proofs.SoundChains.{opened, known_when_opened, is_known-with_tally, sound_changed, sound_removed, sound_opened}
use Rattle.message_frames.proofs.TurnSteps.{tally_with-of, message_step}
use Rattle.message_frames.proofs.FragmentSteps.{fragment_step, header_step}
use Rattle.message_frames.proofs.TurnForms.{IsNext, Begins, Follows, Form, Failing, Opening, Continuing, MessageOn, MessageEnds, FragmentOn, FragmentEnds, ChainEnds, turned_form}

-- The list that a turn joins is there.
abbrev pub HasList : Turn → List (List Frame) → Type 0
HasList (Fails fault) lists = Unit {0}
HasList Heads lists = Unit {0}
HasList (Joins list count ending) lists = list < length lists

-- what soundness says of a message's next frame
pub record NextIsSound (c : Control) (lists : List (List Frame)) (begun : Begun) (more : ℕ) : Type 0 where
  pub tally : begun.tally ≡ tally_of (list_at lists begun.list)
  pub list : begun.list < more
  pub no_less : c.lists ≤ more
  pub one_more : more ≤ c.lists + 1
  pub chains : AreSound 0 c.chains.items begun.list lists
  pub unused : (k : ℕ) → more ≤ k → list_at lists k ≡ []

pub end_of : {c : Control} {spot : Spot} {lists : List (List Frame)} → c.spot ≡ spot → IsSound c lists → AreSound 0 c.chains.items (chains_end spot c.lists) lists
end_of {c} {spot} {lists} is sound = subst (λ s. AreSound 0 c.chains.items (chains_end s c.lists) lists) is sound.chains

pub spot_of : {c : Control} {spot : Spot} {lists : List (List Frame)} → c.spot ≡ spot → IsSound c lists → IsSoundSpot spot c lists
spot_of {c} {spot} {lists} is sound = subst (λ s. IsSoundSpot s c lists) is sound.spot

pub next_is_sound : (new : PlacedFrame) (c : Control) (lists : List (List Frame)) (begun : Begun) (more : ℕ) → IsNext new c begun more → IsSound c lists → NextIsSound c lists begun more
next_is_sound new c lists begun more (Begins free) sound = record {
  tally = ap tally_of (sym (sound.unused c.lists (omega arith)));
  list = omega arith;
  no_less = omega arith;
  one_more = omega arith;
  chains = end_of free sound;
  unused = λ k above. sound.unused k (omega arith);
}
next_is_sound new c lists begun more (Follows _ is) sound = record {
  tally = (spot_of is sound).1;
  list = (spot_of is sound).0;
  no_less = omega arith;
  one_more = omega arith;
  chains = end_of is sound;
  unused = sound.unused;
}

-- the tally of a list with the frame that joins it, with its final flag or without

tally_joined : (frames : List Frame) (frame : Frame) (tally : Tally) → tally ≡ tally_of frames → tally_with frame tally ≡ tally_of (frames ++ frame ∷ [])
tally_joined frames frame tally same = ap (tally_with frame) same ∙ tally_with-of frames frame

tally_cleared : (frames : List Frame) (frame : Frame) (tally : Tally) → tally ≡ tally_of frames → tally_with frame tally ≡ tally_of (frames ++ without_flag FINAL frame ∷ [])
tally_cleared frames frame tally same = ap (tally_with frame) same ∙ tally_with-of frames (without_flag FINAL frame)

-- lists past those that are used
still_unused : (lists : List (List Frame)) (used k : ℕ) (frames : List Frame) → k < used → ((j : ℕ) → used ≤ j → list_at lists j ≡ []) → (j : ℕ) → used ≤ j → list_at (set lists k frames) j ≡ []
still_unused lists used k frames below unused j above = let other : j ≢ k = omega arith in get_or-set_other lists k j frames [] other ∙ unused j above

-- chains whose lists lie below the one that changes
sound_below : (chains : List OpenChain) (end : ℕ) (lists : List (List Frame)) (frames : List Frame) → AreSound 0 chains end lists → AreSound 0 chains end (set lists end frames)
sound_below chains end lists frames sound = sound_with 0 chains end lists (set lists end frames) sound (λ k from below. let other : k ≢ end = omega arith in get_or-set_other lists end k frames [] other)

module _ (new : PlacedFrame) (c : Control) (lists : List (List Frame)) (sound : IsSound c lists) where
  abbrev pub StaysSound : Turned → Type 0
  StaysSound t = HasList t.turn lists → IsSound t.after (lists_after t.turn lists new.frame)

  message_sound : (begun : Begun) (more : ℕ) → IsNext new c begun more → StaysSound (record {
    turn = Joins begun.list (begun.tally.count + 1) GoesOn;
    after = record c { spot = OfMessage (record begun { tally = tally_with new.frame begun.tally }); lists = more };
  })
  message_sound begun more next there =
      let known = next_is_sound new c lists begun more next sound in
      let all = list_at lists begun.list ++ new.frame ∷ [] in
      record {
        chains = sound_below c.chains.items begun.list lists all known.chains;
        spot = (known.list, tally_joined (list_at lists begun.list) new.frame begun.tally known.tally ∙ ap tally_of (sym (get_or-set_same lists begun.list all [] there)));
        unused = still_unused lists more begun.list all known.list known.unused;
      }

  message_end_sound : (begun : Begun) (more : ℕ) → IsNext new c begun more →
      StaysSound (record { turn = Joins begun.list (begun.tally.count + 1) EndsMessage; after = record c { spot = Free; lists = more; complete = c.complete + 1 } })
  message_end_sound begun more next there =
      let known = next_is_sound new c lists begun more next sound in
      let below : begun.list < more = known.list in
      record {
        chains = to_more 0 c.chains.items begun.list more (set lists begun.list []) (omega arith) (sound_below c.chains.items begun.list lists [] known.chains);
        spot = tt;
        unused = still_unused lists more begun.list [] known.list known.unused;
      }

  chain_sound : (id : ℕ) (last : Bool) (chain : OpenChain) → c.spot ≡ OfFragment id last → chain_named id c.chains.items ≡ Some chain → StaysSound (record {
    turn = Joins chain.list (chain.tally.count + 1) GoesOn;
    after = record c { chains = record { items = with_tally id (tally_with new.frame chain.tally) c.chains.items } };
  })
  chain_sound id last chain spot named there =
      let known = named_within id 0 c.chains.items c.lists lists chain (end_of spot sound) named in
      let all = list_at lists chain.list ++ new.frame ∷ [] in
      let tally = tally_with new.frame chain.tally in
      let changed : AreSound 0 (with_tally id tally c.chains.items) c.lists (set lists chain.list all) =
      rw (tally_joined (list_at lists chain.list) new.frame chain.tally known.tally) (sound_changed id 0 c.chains.items c.lists lists chain all (end_of spot sound) named there) in
      record {
        chains = subst (λ s. AreSound 0 (with_tally id tally c.chains.items) (chains_end s c.lists) (set lists chain.list all)) (sym spot) changed;
        spot = subst (λ s. IsSoundSpot s (record c { chains = record { items = with_tally id tally c.chains.items } }) (set lists chain.list all)) (sym spot)
            (is_known-with_tally id id tally c.chains.items ∙ spot_of spot sound);
        unused = still_unused lists c.lists chain.list all known.below sound.unused;
      }

  fragment_end_sound : (id : ℕ) (last : Bool) (chain : OpenChain) → c.spot ≡ OfFragment id last → chain_named id c.chains.items ≡ Some chain → StaysSound (record {
    turn = Joins chain.list (chain.tally.count + 1) EndsFragment;
    after = record c { spot = Free; chains = record { items = with_tally id (tally_with new.frame chain.tally) c.chains.items } };
  })
  fragment_end_sound id last chain spot named there =
      let known = named_within id 0 c.chains.items c.lists lists chain (end_of spot sound) named in
      let all = list_at lists chain.list ++ without_flag FINAL new.frame ∷ [] in
      let tally = tally_with new.frame chain.tally in
      let changed : AreSound 0 (with_tally id tally c.chains.items) c.lists (set lists chain.list all) =
      rw (tally_cleared (list_at lists chain.list) new.frame chain.tally known.tally) (sound_changed id 0 c.chains.items c.lists lists chain all (end_of spot sound) named there) in
      record { chains = changed; spot = tt; unused = still_unused lists c.lists chain.list all known.below sound.unused }

  chain_end_sound : (id : ℕ) (last : Bool) (chain : OpenChain) → c.spot ≡ OfFragment id last → chain_named id c.chains.items ≡ Some chain → StaysSound (record {
    turn = Joins chain.list (chain.tally.count + 1) EndsMessage;
    after = record c { spot = Free; chains = record { items = without_chain id c.chains.items }; complete = c.complete + 1 };
  })
  chain_end_sound id last chain spot named there =
      let known = named_within id 0 c.chains.items c.lists lists chain (end_of spot sound) named in
      record {
        chains = sound_removed id 0 c.chains.items c.lists lists chain [] (end_of spot sound) named;
        spot = tt;
        unused = still_unused lists c.lists chain.list [] known.below sound.unused;
      }

  opening_sound : (id : ℕ) → c.spot ≡ Free → is_known id c.chains.items ≡ false → StaysSound (record {
    turn = Heads;
    after = record c {
      spot = OfFragment id false;
      chains = record { items = c.chains.items ++ opened id c.lists ∷ [] };
      lists = c.lists + 1;
    };
  })
  opening_sound id free unknown there =
      let added : AreSound 0 (c.chains.items ++ opened id c.lists ∷ []) (suc c.lists) lists = sound_opened id 0 c.chains.items c.lists lists (end_of free sound) unknown (sound.unused c.lists (omega arith)) in
      record {
        chains = to_more 0 (c.chains.items ++ opened id c.lists ∷ []) (suc c.lists) (c.lists + 1) lists (omega arith) added;
        spot = known_when_opened id c.lists c.chains.items;
        unused = λ k above. sound.unused k (omega arith);
      }

  continuing_sound : (id : ℕ) (last : Bool) → c.spot ≡ Free → is_known id c.chains.items ≡ true → StaysSound (record { turn = Heads; after = record c { spot = OfFragment id last } })
  continuing_sound id last free known there = record { chains = end_of free sound; spot = known; unused = sound.unused }

  form_sound : (t : Turned) → Form new c t → StaysSound t
  form_sound _ (Failing fault) = λ there. sound
  form_sound _ (Opening id free unknown) = opening_sound id free unknown
  form_sound _ (Continuing id last free known) = continuing_sound id last free known
  form_sound _ (MessageOn begun more next) = message_sound begun more next
  form_sound _ (MessageEnds begun more next) = message_end_sound begun more next
  form_sound _ (FragmentOn id last chain spot named) = chain_sound id last chain spot named
  form_sound _ (FragmentEnds id last chain spot named) = fragment_end_sound id last chain spot named
  form_sound _ (ChainEnds id last chain spot named) = chain_end_sound id last chain spot named

  pub sound_after : (shortest : ℕ) → HasList (turned shortest new c).turn lists → IsSound (turned shortest new c).after (lists_after (turned shortest new c).turn lists new.frame)
  sound_after shortest = form_sound (turned shortest new c) (turned_form shortest new c)

-- what a turn says of the list that it joins, and of the counts
abbrev pub CountsAt : Turn → Control → List (List Frame) → Control → Type 0
CountsAt (Fails fault) c lists after = after.complete ≡ c.complete
CountsAt Heads c lists after = after.complete ≡ c.complete
CountsAt (Joins list count GoesOn) c lists after = (list < after.lists) × (count ≡ length (list_at lists list) + 1) × (after.complete ≡ c.complete)
CountsAt (Joins list count EndsFragment) c lists after = (list < after.lists) × (count ≡ length (list_at lists list) + 1) × (after.complete ≡ c.complete)
CountsAt (Joins list count EndsMessage) c lists after = (list < after.lists) × (count ≡ length (list_at lists list) + 1) × (after.complete ≡ c.complete + 1)

pub record Counts (c : Control) (lists : List (List Frame)) (t : Turned) : Type 0 where
  pub no_less : c.lists ≤ t.after.lists
  pub one_more : t.after.lists ≤ c.lists + 1
  pub at : CountsAt t.turn c lists t.after

module _ (new : PlacedFrame) (c : Control) (lists : List (List Frame)) (sound : IsSound c lists) where
  count_of : (chain : OpenChain) (id : ℕ) (last : Bool) → c.spot ≡ OfFragment id last → chain_named id c.chains.items ≡ Some chain →
      (chain.list < c.lists) × (chain.tally.count + 1 ≡ length (list_at lists chain.list) + 1)
  count_of chain id last spot named =
      let known = named_within id 0 c.chains.items c.lists lists chain (end_of spot sound) named in
      (known.below, ap (λ (t : Tally). t.count + 1) known.tally)

  form_counts : (t : Turned) → Form new c t → Counts c lists t
  form_counts _ (Failing fault) = record { no_less = omega arith; one_more = omega arith; at = refl }
  form_counts _ (Opening id free unknown) = record { no_less = omega arith; one_more = omega arith; at = refl }
  form_counts _ (Continuing id last free known) = record { no_less = omega arith; one_more = omega arith; at = refl }
  form_counts _ (MessageOn begun more next) =
      let known = next_is_sound new c lists begun more next sound in
      record { no_less = known.no_less; one_more = known.one_more; at = (known.list, ap (λ (t : Tally). t.count + 1) known.tally, refl) }
  form_counts _ (MessageEnds begun more next) =
      let known = next_is_sound new c lists begun more next sound in
      record { no_less = known.no_less; one_more = known.one_more; at = (known.list, ap (λ (t : Tally). t.count + 1) known.tally, refl) }
  form_counts _ (FragmentOn id last chain spot named) =
      let count = count_of chain id last spot named in record { no_less = omega arith; one_more = omega arith; at = (count.0, count.1, refl) }
  form_counts _ (FragmentEnds id last chain spot named) =
      let count = count_of chain id last spot named in record { no_less = omega arith; one_more = omega arith; at = (count.0, count.1, refl) }
  form_counts _ (ChainEnds id last chain spot named) =
      let count = count_of chain id last spot named in record { no_less = omega arith; one_more = omega arith; at = (count.0, count.1, refl) }

  pub turn_counts : (shortest : ℕ) → Counts c lists (turned shortest new c)
  turn_counts shortest = form_counts (turned shortest new c) (turned_form shortest new c)

-- a turn is a step

module _ (shortest : ℕ) (new : PlacedFrame) (c : Control) (lists : List (List Frame)) (sound : IsSound c lists) (enough : c.lists ≤ length lists) where
  step_of_message : (begun : Begun) (more : ℕ) → IsNext new c begun more → HasList (message_turn shortest begun more new c).turn lists →
      in_message shortest begun.at (list_at lists begun.list ++ new.frame ∷ []) new (assembly_of c lists) ≡ step_of (message_turn shortest begun more new c) lists new.frame
  step_of_message begun more next there =
      let known = next_is_sound new c lists begun more next sound in
      message_step shortest begun more new c lists begun.list known.tally known.chains (omega arith) (λ count ending is. subst (λ t. HasList t lists) is there)

  step_of_first : c.spot ≡ Free → HasList (message_turn shortest (begun_at new.at c.lists) (c.lists + 1) new c).turn lists →
      in_message shortest new.at (new.frame ∷ []) new (assembly_of c lists) ≡ step_of (message_turn shortest (begun_at new.at c.lists) (c.lists + 1) new c) lists new.frame
  step_of_first free there =
      subst (λ frames. in_message shortest new.at (frames ++ new.frame ∷ []) new (assembly_of c lists) ≡ step_of (message_turn shortest (begun_at new.at c.lists) (c.lists + 1) new c) lists new.frame)
      (sound.unused c.lists (omega arith))
      (step_of_message (begun_at new.at c.lists) (c.lists + 1) (Begins free) there)

  free_step : c.spot ≡ Free → HasList (turned_at shortest Free new c).turn lists → between shortest new (assembly_of c lists) ≡ step_of (turned_at shortest Free new c) lists new.frame
  free_step free there = go (cases_Bool (is_unfragmented new.frame))
    where
      go : (is_unfragmented new.frame ≡ true) ⊎ (is_unfragmented new.frame ≡ false) → between shortest new (assembly_of c lists) ≡ step_of (turned_at shortest Free new c) lists new.frame
      go (inl whole) =
          let first : HasList (message_turn shortest (begun_at new.at c.lists) (c.lists + 1) new c).turn lists = rw (whole, turned_at) at there in
          rw (whole, turned_at, between) (step_of_first free first)
      go (inr part) = rw (part, turned_at, between) (header_step new c lists (sound.unused c.lists (omega arith)))

  of_fragment_step : (id : ℕ) (last : Bool) → c.spot ≡ OfFragment id last → in_fragment shortest id last new (assembly_of c lists) ≡ step_of (turned_at shortest (OfFragment id last) new c) lists new.frame
  of_fragment_step id last spot =
      let found = known_is_named id c.chains.items (spot_of spot sound) in
      let chain_below = (named_within id 0 c.chains.items c.lists lists found.0 (end_of spot sound) found.1).below in
      rw (found.1, turned_at) (fragment_step shortest id last new c found.0 lists c.lists spot (end_of spot sound) found.1 (omega arith))

  step_at : (spot : Spot) → c.spot ≡ spot → HasList (turned_at shortest spot new c).turn lists → stepped shortest (place_of lists spot) new (assembly_of c lists) ≡ step_of (turned_at shortest spot new c) lists new.frame
  step_at Free is there = free_step is there
  step_at (OfMessage begun) is there = step_of_message begun c.lists (Follows begun is) there
  step_at (OfFragment id last) is there = of_fragment_step id last is

  pub turn_is_step : HasList (turned shortest new c).turn lists → step shortest new (assembly_of c lists) ≡ step_of (turned shortest new c) lists new.frame
  turn_is_step = step_at c.spot refl
