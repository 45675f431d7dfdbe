-- Lists that later frames can join: those of open messages, and those that aren't used yet.
use Rattle.std.proofs.Common.{◌≡◌, ◌≢◌, ℕ, suc, ◌+◌, ◌<◌, ◌≤◌, Bool, true, false, List, [], ◌∷◌, ◌++◌, length, get_or, sym, ◌∙◌, ap, subst, ◌⊎◌, inl, inr, ⊎_elim, Some, arith}
use Rattle.std.proofs.lemmas.Bool.{cases_Bool}
use Rattle.frame_codec.specs.declared.frames.Frame.{Frame}
use Rattle.frame_codec.specs.declared.frames.PlacedFrame.{PlacedFrame}
use Rattle.message_frames.specs.Turns.{Turned, is_named, chain_named, with_tally, without_chain, turned, HasRoom, HaveRoom}
use Rattle.message_frames.specs.Lists.{AreSound, IsSound}
use Rattle.message_frames.specs.declared.control.Begun.{Begun}
use Rattle.message_frames.specs.declared.control.OpenChain.{OpenChain}
use Rattle.message_frames.specs.declared.control.Spot.{Spot}
use Rattle.message_frames.specs.declared.control.Spot.TheVariants.{Free, OfMessage, OfFragment}
use Rattle.message_frames.specs.declared.control.Ending.TheVariants.{GoesOn, EndsFragment, EndsMessage}
use Rattle.message_frames.specs.declared.control.Turn.{Turn}
use Rattle.message_frames.specs.declared.control.Turn.TheVariants.{Fails, Heads, Joins}
use Rattle.message_frames.specs.declared.control.Control.{Control}
use Rattle.message_frames.specs.declared.tally.Tally.{Tally}
use Rattle.message_frames.proofs.ListsOfChains.{named_within, bounds}
use Rattle.message_frames.proofs.SoundChains.{opened}
use Rattle.message_frames.proofs.TurnForms.{IsNext, Begins, Follows, Form, Failing, Opening, Continuing, MessageOn, MessageEnds, FragmentOn, FragmentEnds, ChainEnds, turned_form}
use Rattle.message_frames.proofs.Planning.{HasLists, lists_after_turn}
use Rattle.message_frames.proofs.SoundTurns.{NextIsSound, next_is_sound, end_of}

abbrev pub IsOfChain : ℕ → List OpenChain → Type 0
IsOfChain k [] = ⊥
IsOfChain k (chain ∷ chains) = (chain.list ≡ k) ⊎ IsOfChain k chains

named_is_of : (id : ℕ) (chains : List OpenChain) (chain : OpenChain) → chain_named id chains ≡ Some chain → IsOfChain chain.list chains
named_is_of id [] chain is = absurd (cc is)
named_is_of id (first ∷ chains) chain is = go (cases_Bool (is_named id first)) (named_is_of id chains chain)
  where
    go : (is_named id first ≡ true) ⊎ (is_named id first ≡ false) → (chain_named id chains ≡ Some chain → IsOfChain chain.list chains) → IsOfChain chain.list (first ∷ chains)
    go (inl here) later = let same : first ≡ chain = cc (rw here at is) in inl (ap (λ (c : OpenChain). c.list) same)
    go (inr other) later = inr (later (rw other at is))

of_changed : (k id : ℕ) (tally : Tally) (chains : List OpenChain) → IsOfChain k (with_tally id tally chains) → IsOfChain k chains
of_changed k id tally [] of = of
of_changed k id tally (first ∷ chains) of = go (cases_Bool (is_named id first)) (of_changed k id tally chains)
  where
    go : (is_named id first ≡ true) ⊎ (is_named id first ≡ false) → (IsOfChain k (with_tally id tally chains) → IsOfChain k chains) → IsOfChain k (first ∷ chains)
    go (inl here) later = let found : IsOfChain k (record first { tally = tally } ∷ chains) = rw here at of in found
    go (inr other) later = let found : IsOfChain k (first ∷ with_tally id tally chains) = rw other at of in ⊎_elim inl (λ rest. inr (later rest)) found

of_fewer : (k id : ℕ) (chains : List OpenChain) → IsOfChain k (without_chain id chains) → IsOfChain k chains
of_fewer k id [] of = of
of_fewer k id (first ∷ chains) of = go (cases_Bool (is_named id first)) (of_fewer k id chains)
  where
    go : (is_named id first ≡ true) ⊎ (is_named id first ≡ false) → (IsOfChain k (without_chain id chains) → IsOfChain k chains) → IsOfChain k (first ∷ chains)
    go (inl here) later = inr (rw here at of)
    go (inr other) later = let found : IsOfChain k (first ∷ without_chain id chains) = rw other at of in ⊎_elim inl (λ rest. inr (later rest)) found

of_more : (k id list : ℕ) (chains : List OpenChain) → IsOfChain k (chains ++ opened id list ∷ []) → IsOfChain k chains ⊎ (list ≡ k)
of_more k id list [] (inl here) = inr here
of_more k id list [] (inr none) = inl none
of_more k id list (first ∷ chains) (inl here) = inl (inl here)
of_more k id list (first ∷ chains) (inr rest) = ⊎_elim (λ of. inl (inr of)) inr (of_more k id list chains rest)

-- a chain's list lies within the bounds

pub of_within : (k from : ℕ) (chains : List OpenChain) (end : ℕ) (lists : List (List Frame)) → AreSound from chains end lists → IsOfChain k chains → (from ≤ k) × (k < end)
of_within k from [] end lists sound of = absurd of
of_within k from (first ∷ chains) end lists sound (inl here) =
    let above : from ≤ first.list = sound.0 in
    let rest : suc first.list ≤ end = bounds (suc first.list) chains end lists sound.3 in
    (omega arith, omega arith)
of_within k from (first ∷ chains) end lists sound (inr rest) =
    let above : from ≤ first.list = sound.0 in
    let later = of_within k (suc first.list) chains end lists sound.3 rest in
    (omega (arith, later.0), later.1)

apart_removed : (k id from : ℕ) (chains : List OpenChain) (end : ℕ) (lists : List (List Frame)) (chain : OpenChain) → AreSound from chains end lists → chain_named id chains ≡ Some chain →
    IsOfChain k (without_chain id chains) → k ≢ chain.list
apart_removed k id from [] end lists chain sound is of = absurd of
apart_removed k id from (first ∷ chains) end lists chain sound is of =
    go (cases_Bool (is_named id first)) (apart_removed k id (suc first.list) chains end lists chain sound.3)
  where
    go : (is_named id first ≡ true) ⊎ (is_named id first ≡ false) → (chain_named id chains ≡ Some chain → IsOfChain k (without_chain id chains) → k ≢ chain.list) → k ≢ chain.list
    go (inl here) later =
        let same : first ≡ chain = cc (rw here at is) in
        let same_list : first.list ≡ chain.list = ap (λ (c : OpenChain). c.list) same in
        let rest = of_within k (suc first.list) chains end lists sound.3 (rw here at of) in
        λ equal. absurd (omega (arith, rest.0))
    go (inr other) later =
        let found : IsOfChain k (first ∷ without_chain id chains) = rw other at of in
        let after : suc first.list ≤ chain.list = (named_within id (suc first.list) chains end lists chain sound.3 (rw other at is)).above in
        let first_apart : first.list ≡ k → k ≢ chain.list = λ here equal. absurd (omega arith) in
        ⊎_elim first_apart (later (rw other at is)) found

-- what a list can be that is joined later
pub data IsLive (c : Control) : ℕ → Type 0 where
  Unused : (k : ℕ) → c.lists ≤ k → IsLive c k
  OfChain : (k : ℕ) → IsOfChain k c.chains.items → IsLive c k
  OfBegun : (begun : Begun) → c.spot ≡ OfMessage begun → IsLive c begun.list

-- A turn joins such a list.

next_is_live : (new : PlacedFrame) (c : Control) (begun : Begun) (more : ℕ) → IsNext new c begun more → IsLive c begun.list
next_is_live new c _ _ (Begins free) = Unused c.lists (omega arith)
next_is_live new c _ _ (Follows begun is) = OfBegun begun is

abbrev pub JoinsLive : Turn → Control → Type 0
JoinsLive (Fails fault) c = Unit {0}
JoinsLive Heads c = Unit {0}
JoinsLive (Joins list count ending) c = IsLive c list

form_joins_live : (new : PlacedFrame) (c : Control) (t : Turned) → Form new c t → JoinsLive t.turn c
form_joins_live new c _ (Failing fault) = tt
form_joins_live new c _ (Opening id free unknown) = tt
form_joins_live new c _ (Continuing id last free known) = tt
form_joins_live new c _ (MessageOn begun more next) = next_is_live new c begun more next
form_joins_live new c _ (MessageEnds begun more next) = next_is_live new c begun more next
form_joins_live new c _ (FragmentOn id last chain spot named) = OfChain chain.list (named_is_of id c.chains.items chain named)
form_joins_live new c _ (FragmentEnds id last chain spot named) = OfChain chain.list (named_is_of id c.chains.items chain named)
form_joins_live new c _ (ChainEnds id last chain spot named) = OfChain chain.list (named_is_of id c.chains.items chain named)

pub joins_live : (shortest : ℕ) (new : PlacedFrame) (c : Control) → JoinsLive (turned shortest new c).turn c
joins_live shortest new c = form_joins_live new c (turned shortest new c) (turned_form shortest new c)

-- What is live after a turn was so before it, and isn't the list of a message that the turn ended.

abbrev pub IsStillLive : Turn → Control → ℕ → Type 0
IsStillLive (Fails fault) c k = IsLive c k
IsStillLive Heads c k = IsLive c k
IsStillLive (Joins list count GoesOn) c k = IsLive c k
IsStillLive (Joins list count EndsFragment) c k = IsLive c k
IsStillLive (Joins list count EndsMessage) c k = IsLive c k × (k ≢ list)

module _ (new : PlacedFrame) (c : Control) (lists : List (List Frame)) (sound : IsSound c lists) where
  live_of_chains : (after : Control) → c.lists ≤ after.lists → ((k : ℕ) → IsOfChain k after.chains.items → IsLive c k) → ((begun : Begun) → after.spot ≡ OfMessage begun → IsLive c begun.list) →
      (k : ℕ) → IsLive after k → IsLive c k
  live_of_chains after more of_chains of_begun _ (Unused k above) = Unused k (omega arith)
  live_of_chains after more of_chains of_begun _ (OfChain k of) = of_chains k of
  live_of_chains after more of_chains of_begun _ (OfBegun begun is) = of_begun begun is

  live_after_opening : (id : ℕ) (k : ℕ) → IsLive (record c { spot = OfFragment id false; chains = record { items = c.chains.items ++ opened id c.lists ∷ [] }; lists = c.lists + 1 }) k → IsLive c k
  live_after_opening id =
      live_of_chains (record c { spot = OfFragment id false; chains = record { items = c.chains.items ++ opened id c.lists ∷ [] }; lists = c.lists + 1 }) (omega arith)
      (λ k of. ⊎_elim (λ old. OfChain k old) (λ new_list. Unused k (omega arith)) (of_more k id c.lists c.chains.items of))
      (λ begun is. absurd (cc is))

  live_after_message : (begun : Begun) (more : ℕ) (tally : Tally) → IsNext new c begun more → (k : ℕ) → IsLive (record c { spot = OfMessage (record begun { tally = tally }); lists = more }) k → IsLive c k
  live_after_message begun more tally next =
      let known = next_is_sound new c lists begun more next sound in
      live_of_chains (record c { spot = OfMessage (record begun { tally = tally }); lists = more }) known.no_less (λ k of. OfChain k of)
      (λ later is. let same : record begun { tally = tally } ≡ later = cc is in subst (λ (b : Begun). IsLive c b.list) same (next_is_live new c begun more next))

  live_after_message_end : (begun : Begun) (more complete : ℕ) → IsNext new c begun more → (k : ℕ) → IsLive (record c { spot = Free; lists = more; complete = complete }) k → IsLive c k × (k ≢ begun.list)
  live_after_message_end begun more complete next k live =
      (live_of_chains (record c { spot = Free; lists = more; complete = complete }) known.no_less (λ j of. OfChain j of) (λ later is. absurd (cc is)) k live, apart k live)
    where
      known : NextIsSound c lists begun more
      known = next_is_sound new c lists begun more next sound

      apart : (j : ℕ) → IsLive (record c { spot = Free; lists = more; complete = complete }) j → j ≢ begun.list
      apart _ (Unused j above) = let below : begun.list < more = (next_is_sound new c lists begun more next sound).list in λ equal. absurd (omega arith)
      apart _ (OfChain j of) =
          let within = of_within j 0 c.chains.items begun.list lists (next_is_sound new c lists begun more next sound).chains of in λ equal. absurd (omega (arith, within.1))
      apart _ (OfBegun later is) = absurd (cc is)

  live_after_frame : (spot : Spot) (id : ℕ) (tally : Tally) → ((begun : Begun) → spot ≡ OfMessage begun → ⊥) →
      (k : ℕ) → IsLive (record c { spot = spot; chains = record { items = with_tally id tally c.chains.items } }) k → IsLive c k
  live_after_frame spot id tally none =
      live_of_chains (record c { spot = spot; chains = record { items = with_tally id tally c.chains.items } }) (omega arith)
      (λ k of. OfChain k (of_changed k id tally c.chains.items of)) (λ begun is. absurd (none begun is))

  live_after_chain_end : (id : ℕ) (last : Bool) (chain : OpenChain) (complete : ℕ) → c.spot ≡ OfFragment id last → chain_named id c.chains.items ≡ Some chain →
      (k : ℕ) → IsLive (record c { spot = Free; chains = record { items = without_chain id c.chains.items }; complete = complete }) k → IsLive c k × (k ≢ chain.list)
  live_after_chain_end id last chain complete spot named k live = (
    live_of_chains (record c { spot = Free; chains = record { items = without_chain id c.chains.items }; complete = complete }) (omega arith)
        (λ j of. OfChain j (of_fewer j id c.chains.items of)) (λ begun is. absurd (cc is)) k live,
    apart k live,
  )
    where
      apart : (j : ℕ) → IsLive (record c { spot = Free; chains = record { items = without_chain id c.chains.items }; complete = complete }) j → j ≢ chain.list
      apart _ (Unused j above) = let below : chain.list < c.lists = (named_within id 0 c.chains.items c.lists lists chain (end_of spot sound) named).below in λ equal. absurd (omega arith)
      apart _ (OfChain j of) = apart_removed j id 0 c.chains.items c.lists lists chain (end_of spot sound) named of
      apart _ (OfBegun later is) = absurd (cc is)

  form_still_live : (t : Turned) → Form new c t → (k : ℕ) → IsLive t.after k → IsStillLive t.turn c k
  form_still_live _ (Failing fault) k live = live
  form_still_live _ (Opening id free unknown) k live = live_after_opening id k live
  form_still_live _ (Continuing id last free known) k live =
      live_of_chains (record c { spot = OfFragment id last }) (omega arith) (λ j of. OfChain j of) (λ begun is. absurd (cc is)) k live
  form_still_live _ (MessageOn begun more next) k live = live_after_message begun more _ next k live
  form_still_live _ (MessageEnds begun more next) k live = live_after_message_end begun more _ next k live
  form_still_live _ (FragmentOn id last chain spot named) k live = live_after_frame c.spot id _ (λ begun is. let clash : OfFragment id last ≡ OfMessage begun = sym spot ∙ is in cc) k live
  form_still_live _ (FragmentEnds id last chain spot named) k live = live_after_frame Free id _ (λ begun is. cc is) k live
  form_still_live _ (ChainEnds id last chain spot named) k live = live_after_chain_end id last chain _ spot named k live

  pub still_live : (shortest k : ℕ) → IsLive (turned shortest new c).after k → IsStillLive (turned shortest new c).turn c k
  still_live shortest = form_still_live (turned shortest new c) (turned_form shortest new c)

still_is_live : (turn : Turn) (c : Control) (k : ℕ) → IsStillLive turn c k → IsLive c k
still_is_live (Fails fault) c k live = live
still_is_live Heads c k live = live
still_is_live (Joins list count GoesOn) c k live = live
still_is_live (Joins list count EndsFragment) c k live = live
still_is_live (Joins list count EndsMessage) c k live = live.0

-- Room in the lists that can be joined is enough.

room_if_live : (rooms more : List ℕ) (turn : Turn) (c : Control) → JoinsLive turn c → length rooms ≤ length more → ((k : ℕ) → IsLive c k → get_or rooms k 0 ≤ get_or more k 0) → HasRoom rooms turn → HasRoom more turn
room_if_live rooms more (Fails fault) c live longer wider room = tt
room_if_live rooms more Heads c live longer wider room = tt
room_if_live rooms more (Joins list count ending) c live longer wider room = (omega (arith, room.0), omega (arith, room.1, wider list live))

pub have_room_if_live : (shortest : ℕ) (rooms more : List ℕ) (frames : List PlacedFrame) (c : Control) → HasLists c → length rooms ≤ length more →
    ((k : ℕ) → IsLive c k → get_or rooms k 0 ≤ get_or more k 0) → HaveRoom shortest rooms frames c → HaveRoom shortest more frames c
have_room_if_live shortest rooms more [] c known longer wider room = let few : c.lists ≤ length rooms = room in omega arith
have_room_if_live shortest rooms more (new ∷ frames) c known longer wider room =
    let t = turned shortest new c in (
      omega (arith, room.0),
      room_if_live rooms more t.turn c (joins_live shortest new c) longer wider room.1,
      λ on. have_room_if_live shortest rooms more frames t.after (lists_after_turn shortest new c known) longer
          (λ k live. wider k (still_is_live t.turn c k (still_live new c (known.0) (known.1) shortest k live))) (room.2 on),
    )
