-- The turn of a fragment's frame is the step of its chain, and so is its header's.
use Rattle.std.proofs.Common.{◌≡◌, ℕ, ◌+◌, ◌<◌, Bool, true, false, List, [], ◌∷◌, ◌++◌, length, set, refl, sym, ◌∙◌, ap, ⊎_elim, Some, None}
use Rattle.std.specs.Prelude.{◌==◌}
use Rattle.std.proofs.Math.ListN.{length-map}
use Rattle.std.proofs.lemmas.List.{map-append}
use Rattle.std.proofs.lemmas.Bool.{cases_Bool}
use Rattle.frame_codec.specs.Flags.{without_flag}
use Rattle.frame_codec.specs.declared.frames.Frame.{Frame}
use Rattle.frame_codec.specs.declared.frames.PlacedFrame.{PlacedFrame}
use Rattle.frame_codec.specs.declared.flags.TheConstants.{FINAL}
use Rattle.frame_codec.specs.declared.malformed.Malformed.{Malformed}
use Rattle.frame_codec.specs.declared.malformed.Why.{Why}
use Rattle.message_frames.specs.Assembly.{Assembly, Goes, faulty, Between, most_chains, is_final, is_header, begins_chain, chain_id, size_fault, is_open, frames_of, with_frames, without, completed, in_fragment, at_header}
use Rattle.message_frames.specs.Tallies.{tally_of}
use Rattle.message_frames.specs.Turns.{Turned, fails, fails_at, chain_named, is_known, with_tally, without_chain, completion_fault, fragment_turn, header_turn}
use Rattle.message_frames.specs.Lists.{list_at, chain_of, place_of, assembly_of, AreSound, step_of}
use Rattle.message_frames.specs.declared.control.OpenChain.{OpenChain}
use Rattle.message_frames.specs.declared.control.Spot.TheVariants.{Free, OfFragment}
use Rattle.message_frames.specs.declared.control.Ending.TheVariants.{GoesOn, EndsFragment, EndsMessage}
use Rattle.message_frames.specs.declared.control.Turn.TheVariants.{Joins}
use Rattle.message_frames.specs.declared.control.Control.{Control}
use Rattle.message_frames.proofs.ListsOfChains.{named_within, frames_of-named, is_open-chains, with_frames-changed, without-removed}
use Rattle.message_frames.proofs.TurnSteps.{counted_ok, counted_err, none_or_some, completes, completion_fails}

-- what a turn of a fragment's frame comes to

module _ (shortest id : ℕ) (last : Bool) (new : PlacedFrame) (c : Control) (chain : OpenChain) (lists : List (List Frame)) (tally : chain.tally ≡ tally_of (list_at lists chain.list)) where
  turn_fails : (why : Why) → size_fault (list_at lists chain.list ++ new.frame ∷ []) ≡ Some why → fragment_turn shortest id last new c chain ≡ fails_at new why c
  turn_fails why sized = rw (counted_err (list_at lists chain.list) new.frame chain.tally why tally sized, fragment_turn) refl

  turn_goes_on : size_fault (list_at lists chain.list ++ new.frame ∷ []) ≡ None → is_final new.frame ≡ false →
      fragment_turn shortest id last new c chain ≡ record {
        turn = Joins chain.list (tally_of (list_at lists chain.list ++ new.frame ∷ [])).count GoesOn;
        after = record c { chains = record { items = with_tally id (tally_of (list_at lists chain.list ++ new.frame ∷ [])) c.chains.items } };
      }
  turn_goes_on sized goes_on = rw (counted_ok (list_at lists chain.list) new.frame chain.tally tally sized, fragment_turn, goes_on) refl

  turn_ends_fragment : size_fault (list_at lists chain.list ++ new.frame ∷ []) ≡ None → is_final new.frame ≡ true → last ≡ false →
      fragment_turn shortest id last new c chain ≡ record {
        turn = Joins chain.list (tally_of (list_at lists chain.list ++ new.frame ∷ [])).count EndsFragment;
        after = record c { spot = Free; chains = record { items = with_tally id (tally_of (list_at lists chain.list ++ new.frame ∷ [])) c.chains.items } };
      }
  turn_ends_fragment sized ends not_last = rw (counted_ok (list_at lists chain.list) new.frame chain.tally tally sized, fragment_turn, ends, not_last) refl

  turn_ends : size_fault (list_at lists chain.list ++ new.frame ∷ []) ≡ None → is_final new.frame ≡ true → last ≡ true →
      completion_fault shortest new.at new.at (tally_of (list_at lists chain.list ++ new.frame ∷ [])) c ≡ None →
      fragment_turn shortest id last new c chain ≡ record {
        turn = Joins chain.list (tally_of (list_at lists chain.list ++ new.frame ∷ [])).count EndsMessage;
        after = record c { spot = Free; chains = record { items = without_chain id c.chains.items }; complete = c.complete + 1 };
      }
  turn_ends sized ends is_last given = rw (counted_ok (list_at lists chain.list) new.frame chain.tally tally sized, fragment_turn, ends, is_last, given) refl

  turn_ends_badly : (fault : Malformed) → size_fault (list_at lists chain.list ++ new.frame ∷ []) ≡ None → is_final new.frame ≡ true → last ≡ true →
      completion_fault shortest new.at new.at (tally_of (list_at lists chain.list ++ new.frame ∷ [])) c ≡ Some fault →
      fragment_turn shortest id last new c chain ≡ fails fault c
  turn_ends_badly fault sized ends is_last failed = rw (counted_ok (list_at lists chain.list) new.frame chain.tally tally sized, fragment_turn, ends, is_last, failed) refl

-- what a step of a fragment's frame comes to

module _ (shortest id : ℕ) (last : Bool) (new : PlacedFrame) (s : Assembly) (frames : List Frame) (of_chain : frames_of id s.chains ≡ frames) where
  step_fails : (why : Why) → size_fault (frames ++ new.frame ∷ []) ≡ Some why → in_fragment shortest id last new s ≡ faulty new.at why
  step_fails why sized = rw (of_chain, in_fragment) (rw (sized) refl)

  step_goes_on : size_fault (frames ++ new.frame ∷ []) ≡ None → is_final new.frame ≡ false →
      in_fragment shortest id last new s ≡ Goes (record s { chains = with_frames id (frames ++ new.frame ∷ []) s.chains })
  step_goes_on sized goes_on = rw (of_chain, in_fragment) (rw (sized, goes_on) (rw of_chain refl))

  step_ends_fragment : size_fault (frames ++ new.frame ∷ []) ≡ None → is_final new.frame ≡ true → last ≡ false →
      in_fragment shortest id last new s ≡ Goes (record s { place = Between; chains = with_frames id (frames ++ without_flag FINAL new.frame ∷ []) s.chains })
  step_ends_fragment sized ends not_last = rw (of_chain, in_fragment) (rw (sized, ends, not_last) (rw of_chain refl))

  step_ends : size_fault (frames ++ new.frame ∷ []) ≡ None → is_final new.frame ≡ true → last ≡ true →
      in_fragment shortest id last new s ≡ completed shortest new.at new.at (frames ++ new.frame ∷ []) (record s { place = Between; chains = without id s.chains })
  step_ends sized ends is_last = rw (of_chain, in_fragment) (rw (sized, ends, is_last) (rw of_chain refl))

module _ (shortest id : ℕ) (last : Bool) (new : PlacedFrame) (c : Control) (chain : OpenChain) (lists : List (List Frame)) (end : ℕ)
    (spot : c.spot ≡ OfFragment id last) (sound : AreSound 0 c.chains.items end lists) (named : chain_named id c.chains.items ≡ Some chain) (within : chain.list < length lists) where
  same_place : (others : List (List Frame)) → place_of others c.spot ≡ place_of lists c.spot
  same_place others = ap (place_of others) spot ∙ sym (ap (place_of lists) spot)

  pub fragment_step : in_fragment shortest id last new (assembly_of c lists) ≡ step_of (fragment_turn shortest id last new c chain) lists new.frame
  fragment_step =
      let frames = list_at lists chain.list in
      let all = frames ++ new.frame ∷ [] in
      let s = assembly_of c lists in
      let Goal : Type 0 = in_fragment shortest id last new s ≡ step_of (fragment_turn shortest id last new c chain) lists new.frame in
      let of_turn = λ (t : Turned). step_of t lists new.frame in
      let of_chain : frames_of id s.chains ≡ frames = frames_of-named id lists c.chains.items chain named in
      let tally : chain.tally ≡ tally_of frames = (named_within id 0 c.chains.items end lists chain sound named).tally in
      let goes_on : is_final new.frame ≡ false → size_fault all ≡ None → Goal =
      λ not_final sized. step_goes_on shortest id last new s frames of_chain sized not_final
      ∙ rw (with_frames-changed id 0 c.chains.items end lists chain all (tally_of all) sound named within, same_place (set lists chain.list all)) refl
      ∙ sym (ap of_turn (turn_goes_on shortest id last new c chain lists tally sized not_final)) in
      let ends_fragment : is_final new.frame ≡ true → last ≡ false → size_fault all ≡ None → Goal =
      λ final not_last sized. step_ends_fragment shortest id last new s frames of_chain sized final not_last
      ∙ rw (with_frames-changed id 0 c.chains.items end lists chain (frames ++ without_flag FINAL new.frame ∷ []) (tally_of all) sound named within) refl
      ∙ sym (ap of_turn (turn_ends_fragment shortest id last new c chain lists tally sized final not_last)) in
      let ends : is_final new.frame ≡ true → last ≡ true → size_fault all ≡ None → Goal =
      λ final is_last sized. ⊎_elim
      (λ given. step_ends shortest id last new s frames of_chain sized final is_last ∙ completes shortest new.at new.at all (record s { place = Between; chains = without id s.chains }) c refl given
      ∙ rw (without-removed id 0 c.chains.items end lists chain [] sound named) refl
      ∙ sym (ap of_turn (turn_ends shortest id last new c chain lists tally sized final is_last given)))
      (λ failed. step_ends shortest id last new s frames of_chain sized final is_last ∙ completion_fails shortest new.at new.at all (record s { place = Between; chains = without id s.chains }) c refl (failed.0) (failed.1)
      ∙ sym (ap of_turn (turn_ends_badly shortest id last new c chain lists tally (failed.0) sized final is_last failed.1)))
      (none_or_some (completion_fault shortest new.at new.at (tally_of all) c)) in
      ⊎_elim
      (λ sized. ⊎_elim
      (λ final. ⊎_elim (λ is_last. ends final is_last sized) (λ not_last. ends_fragment final not_last sized) (cases_Bool last))
      (λ not_final. goes_on not_final sized)
      (cases_Bool (is_final new.frame)))
      (λ sized. step_fails shortest id last new s frames of_chain (sized.0) (sized.1) ∙ sym (ap of_turn (turn_fails shortest id last new c chain lists tally (sized.0) sized.1)))
      (none_or_some (size_fault all))

-- a header

module _ (new : PlacedFrame) (c : Control) (lists : List (List Frame)) (unused : list_at lists c.lists ≡ []) where
  known_here : (b : Bool) → is_known (chain_id new.frame) c.chains.items ≡ b → is_open (chain_id new.frame) (assembly_of c lists).chains ≡ b
  known_here b known = is_open-chains (chain_id new.frame) lists c.chains.items ∙ known

  many_here : (b : Bool) → (length c.chains.items == most_chains) ≡ b → (length (assembly_of c lists).chains == most_chains) ≡ b
  many_here b many = ap (λ n. n == most_chains) (length-map c.chains.items (chain_of lists)) ∙ many

  header_opens : is_header new.frame ≡ true → begins_chain new.frame ≡ true → is_known (chain_id new.frame) c.chains.items ≡ false → (length c.chains.items == most_chains) ≡ false →
      at_header new (assembly_of c lists) ≡ step_of (header_turn new c) lists new.frame
  header_opens header begins unknown few =
      rw (header, begins, known_here false unknown, many_here false few, at_header) (rw (unknown, few, map-append, unused) refl)

  pub header_step : at_header new (assembly_of c lists) ≡ step_of (header_turn new c) lists new.frame
  header_step =
      let Goal : Type 0 = at_header new (assembly_of c lists) ≡ step_of (header_turn new c) lists new.frame in
      let not_header : is_header new.frame ≡ false → Goal = λ none. rw (none, at_header) refl in
      let begins_known : is_header new.frame ≡ true → begins_chain new.frame ≡ true → is_known (chain_id new.frame) c.chains.items ≡ true → Goal =
      λ header begins known. rw (header, begins, known_here true known, at_header) (rw known refl) in
      let begins_seventeenth : is_header new.frame ≡ true → begins_chain new.frame ≡ true → is_known (chain_id new.frame) c.chains.items ≡ false → (length c.chains.items == most_chains) ≡ true → Goal =
      λ header begins unknown many. rw (header, begins, known_here false unknown, many_here true many, at_header) (rw (unknown, many) refl) in
      let continues : is_header new.frame ≡ true → begins_chain new.frame ≡ false → is_known (chain_id new.frame) c.chains.items ≡ true → Goal =
      λ header continues known. rw (header, continues, known_here true known, at_header) (rw known refl) in
      let continues_none : is_header new.frame ≡ true → begins_chain new.frame ≡ false → is_known (chain_id new.frame) c.chains.items ≡ false → Goal =
      λ header continues unknown. rw (header, continues, known_here false unknown, at_header) (rw unknown refl) in
      ⊎_elim
      (λ header. ⊎_elim
      (λ begins. ⊎_elim
      (λ known. begins_known header begins known)
      (λ unknown. ⊎_elim (λ many. begins_seventeenth header begins unknown many) (λ few. header_opens header begins unknown few) (cases_Bool (length c.chains.items == most_chains)))
      (cases_Bool (is_known (chain_id new.frame) c.chains.items)))
      (λ goes_on. ⊎_elim (λ known. continues header goes_on known) (λ unknown. continues_none header goes_on unknown) (cases_Bool (is_known (chain_id new.frame) c.chains.items)))
      (cases_Bool (begins_chain new.frame)))
      not_header
      (cases_Bool (is_header new.frame))
