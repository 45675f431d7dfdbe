-- Where the chain of an id is among the open ones.
use Rattle.std.proofs.Common.{◌≡◌, ℕ, zero, suc, ◌<◌, ◌≤◌, Bool, true, false, cond, ltb, List, [], ◌∷◌, length, get_or, set, refl, sym, ◌∙◌, ap, ◌⊎◌, inl, inr, Some, None, arith}
use Rattle.std.specs.Prelude.{position}
use Rattle.std.specs.List.{position_or_len}
use Rattle.std.proofs.lemmas.Bool.{cases_Bool}
use Rattle.std.proofs.lemmas.Bool.Decides.{nat_tests}
use Rattle.std.proofs.lemmas.List.Quantifiers.{position-Some}
use Rattle.message_frames.specs.Turns.{IsAt, is_named, chain_named, with_tally, fails_at, fragment_turn, turned_at, turned}
use Rattle.message_frames.specs.declared.control.OpenChain.{OpenChain}
use Rattle.message_frames.specs.declared.control.Control.{Control}
use Rattle.message_frames.specs.declared.control.Spot.TheVariants.{OfFragment}
use Rattle.frame_codec.specs.declared.frames.PlacedFrame.{PlacedFrame}
use Rattle.frame_codec.specs.declared.malformed.Why.TheVariants.{BadFragment}
use Rattle.message_frames.specs.declared.tally.Tally.{Tally}

-- the chain after one of another id
after_another : (id : ℕ) (chain : OpenChain) (chains : List OpenChain) (i : ℕ) → is_named id chain ≡ false → IsAt id chains i → IsAt id (chain ∷ chains) (suc i)
after_another id chain chains i other found = record {
  within = let within : i < length chains = found.within in omega arith;
  named = λ default. rw other (found.named default);
  changed = λ tally named is. rw other (ap (λ cs. chain ∷ cs) (found.changed tally named (rw other at is)));
  removed = rw other (ap (λ cs. chain ∷ cs) (found.removed));
}

changed_first : (id : ℕ) (chain : OpenChain) (chains : List OpenChain) → is_named id chain ≡ true → (tally : Tally) (named : OpenChain) → chain_named id (chain ∷ chains) ≡ Some named →
    set (chain ∷ chains) zero (record named { tally = tally }) ≡ with_tally id tally (chain ∷ chains)
changed_first id chain chains this tally named is =
    let same : chain ≡ named = cc (rw this at is) in
    rw this (ap (λ (c : OpenChain). record c { tally = tally } ∷ chains) (sym same))

pub place_of_first : (id : ℕ) (chains : List OpenChain) (i : ℕ) → i < length chains →
    ((d : OpenChain) → is_named id (get_or chains i d) ≡ true) → ((k : ℕ) (d : OpenChain) → k < i → is_named id (get_or chains k d) ≡ false) → IsAt id chains i
place_of_first id [] i within here before = absurd (omega arith)
place_of_first id (chain ∷ chains) zero within here before =
    let this : is_named id chain ≡ true = here chain in
    record {
      within = within;
      named = λ default. rw this refl;
      changed = changed_first id chain chains this;
      removed = rw this refl;
    }
place_of_first id (chain ∷ chains) (suc i) within here before =
    let other : is_named id chain ≡ false = before zero chain (omega arith) in
    after_another id chain chains i other (place_of_first id chains i (omega arith) here (λ k d less. before (suc k) d (omega arith)))

pub place_found : (id : ℕ) (chains : List OpenChain) (i : ℕ) → position (is_named id) chains ≡ Some i → IsAt id chains i
place_found id [] i is = absurd (cc is)
place_found id (chain ∷ chains) i is =
    place_of_first id (chain ∷ chains) i (position-Some (is_named id) (chain ∷ chains) i chain is).0
    (λ d. (position-Some (is_named id) (chain ∷ chains) i d is).1)
    (λ k d less. (position-Some (is_named id) (chain ∷ chains) i d is).2 k less)

none_below : (n m : ℕ) → None ≡ cond (ltb n m) (Some n) None → m ≤ n
none_below n m is = go (cases_Bool (ltb n m))
  where
    go : (ltb n m ≡ true) ⊎ (ltb n m ≡ false) → m ≤ n
    go (inl less) = absurd (cc (rw less at is))
    go (inr not_less) = grind (arith, nat_tests)

none_in : (id : ℕ) (chains : List OpenChain) → length chains ≤ position_or_len (is_named id) chains → chain_named id chains ≡ None
none_in id [] all = refl
none_in id (chain ∷ chains) all = go (cases_Bool (is_named id chain)) (none_in id chains)
  where
    go : (is_named id chain ≡ true) ⊎ (is_named id chain ≡ false) → (length chains ≤ position_or_len (is_named id) chains → chain_named id chains ≡ None) → chain_named id (chain ∷ chains) ≡ None
    go (inl here) later = absurd (let none = rw here at all in omega arith)
    go (inr other) later = rw other (later (let more = rw other at all in omega arith))

pub none_found : (id : ℕ) (chains : List OpenChain) → None ≡ position (is_named id) chains → chain_named id chains ≡ None
none_found id chains is = none_in id chains (none_below (position_or_len (is_named id) chains) (length chains) is)

-- the turn of a fragment's frame

pub of_fragment_turned : (shortest id : ℕ) (last : Bool) (new : PlacedFrame) (c : Control) (chain : OpenChain) → c.spot ≡ OfFragment id last →
    chain_named id c.chains.items ≡ Some chain → turned shortest new c ≡ fragment_turn shortest id last new c chain
of_fragment_turned shortest id last new c chain spot named = ap (λ s. turned_at shortest s new c) spot ∙ rw (named, turned_at) refl

pub of_no_chain_turned : (shortest id : ℕ) (last : Bool) (new : PlacedFrame) (c : Control) → c.spot ≡ OfFragment id last →
    chain_named id c.chains.items ≡ None → turned shortest new c ≡ fails_at new BadFragment c
of_no_chain_turned shortest id last new c spot none = ap (λ s. turned_at shortest s new c) spot ∙ rw (none, turned_at) refl
