-- The forms that a turn can have, and what it leaves of the state.
use Rattle.std.proofs.Common.{◌≡◌, ℕ, ◌+◌, Bool, true, false, [], ◌∷◌, ◌++◌, length, refl, ap, ◌⊎◌, inl, inr, ⊎_elim, Some, None, Ok, Err}
use Rattle.std.specs.Prelude.{◌==◌}
use Rattle.std.proofs.lemmas.Bool.{cases_Bool}
use Rattle.frame_codec.specs.declared.frames.Frame.{Frame}
use Rattle.frame_codec.specs.declared.frames.PlacedFrame.{PlacedFrame}
use Rattle.frame_codec.specs.declared.malformed.Malformed.{Malformed}
use Rattle.frame_codec.specs.declared.malformed.Why.{Why}
use Rattle.frame_codec.specs.declared.malformed.Why.TheVariants.{BadFragment, OpenFragments}
use Rattle.message_frames.specs.Assembly.{most_chains, is_unfragmented, is_final, is_header, begins_chain, ends_chain, chain_id}
use Rattle.message_frames.specs.Tallies.{tally_with, counted, limit_fault}
use Rattle.message_frames.specs.Turns.{Turned, begun_at, fails, chain_named, is_known, with_tally, without_chain, completion_fault, message_turn, header_turn, fragment_turn, turned_at, turned}
use Rattle.message_frames.specs.declared.control.Begun.{Begun}
use Rattle.message_frames.specs.declared.control.OpenChain.{OpenChain}
use Rattle.message_frames.specs.declared.control.Spot.{Spot}
use Rattle.message_frames.specs.declared.control.Spot.TheVariants.{Free, OfMessage, OfFragment}
use Rattle.message_frames.specs.declared.control.Ending.TheVariants.{GoesOn, EndsFragment, EndsMessage}
use Rattle.message_frames.specs.declared.control.Turn.TheVariants.{Heads, Joins}
use Rattle.message_frames.specs.declared.control.Control.{Control}
use Rattle.message_frames.specs.declared.tally.Tally.{Tally}
use Rattle.message_frames.proofs.SoundChains.{opened}
use Rattle.message_frames.proofs.TurnSteps.{none_or_some, counted_of}

-- the message that a frame is of, and how many lists there are with it
pub data IsNext (new : PlacedFrame) (c : Control) : Begun → ℕ → Type 0 where
  Begins : c.spot ≡ Free → IsNext new c (begun_at new.at c.lists) (c.lists + 1)
  Follows : (begun : Begun) → c.spot ≡ OfMessage begun → IsNext new c begun c.lists

pub data Form (new : PlacedFrame) (c : Control) : Turned → Type 0 where
  Failing : (fault : Malformed) → Form new c (fails fault c)
  Opening : (id : ℕ) → c.spot ≡ Free → is_known id c.chains.items ≡ false →
      Form new c (record {
        turn = Heads;
        after = record c {
          spot = OfFragment id false;
          chains = record { items = c.chains.items ++ opened id c.lists ∷ [] };
          lists = c.lists + 1;
        };
      })
  Continuing : (id : ℕ) (last : Bool) → c.spot ≡ Free → is_known id c.chains.items ≡ true → Form new c (record { turn = Heads; after = record c { spot = OfFragment id last } })
  MessageOn : (begun : Begun) (more : ℕ) → IsNext new c begun more →
      Form new c (record {
        turn = Joins begun.list (begun.tally.count + 1) GoesOn;
        after = record c { spot = OfMessage (record begun { tally = tally_with new.frame begun.tally }); lists = more };
      })
  MessageEnds : (begun : Begun) (more : ℕ) → IsNext new c begun more →
      Form new c (record { turn = Joins begun.list (begun.tally.count + 1) EndsMessage; after = record c { spot = Free; lists = more; complete = c.complete + 1 } })
  FragmentOn : (id : ℕ) (last : Bool) (chain : OpenChain) → c.spot ≡ OfFragment id last → chain_named id c.chains.items ≡ Some chain →
      Form new c (record {
        turn = Joins chain.list (chain.tally.count + 1) GoesOn;
        after = record c { chains = record { items = with_tally id (tally_with new.frame chain.tally) c.chains.items } };
      })
  FragmentEnds : (id : ℕ) (last : Bool) (chain : OpenChain) → c.spot ≡ OfFragment id last → chain_named id c.chains.items ≡ Some chain →
      Form new c (record {
        turn = Joins chain.list (chain.tally.count + 1) EndsFragment;
        after = record c { spot = Free; chains = record { items = with_tally id (tally_with new.frame chain.tally) c.chains.items } };
      })
  ChainEnds : (id : ℕ) (last : Bool) (chain : OpenChain) → c.spot ≡ OfFragment id last → chain_named id c.chains.items ≡ Some chain →
      Form new c (record {
        turn = Joins chain.list (chain.tally.count + 1) EndsMessage;
        after = record c { spot = Free; chains = record { items = without_chain id c.chains.items }; complete = c.complete + 1 };
      })

counted_none : (frame : Frame) (tally : Tally) → limit_fault (tally_with frame tally) ≡ None → counted frame tally ≡ Ok (tally_with frame tally)
counted_none frame tally none = ap (λ fault. counted_of fault (tally_with frame tally)) none

counted_some : (frame : Frame) (tally : Tally) (why : Why) → limit_fault (tally_with frame tally) ≡ Some why → counted frame tally ≡ Err why
counted_some frame tally why some = ap (λ fault. counted_of fault (tally_with frame tally)) some

-- a frame of an unfragmented message

module _ (shortest : ℕ) (new : PlacedFrame) (c : Control) (begun : Begun) (more : ℕ) (next : IsNext new c begun more) where
  message_passes : (why : Why) → limit_fault (tally_with new.frame begun.tally) ≡ Some why → Form new c (message_turn shortest begun more new c)
  message_passes why some = rw (counted_some new.frame begun.tally why some, message_turn) (Failing (record { at = new.at; why = why }))

  message_goes_on : limit_fault (tally_with new.frame begun.tally) ≡ None → is_final new.frame ≡ false → Form new c (message_turn shortest begun more new c)
  message_goes_on none not_final = rw (counted_none new.frame begun.tally none, message_turn, not_final) (MessageOn begun more next)

  message_ends : limit_fault (tally_with new.frame begun.tally) ≡ None → is_final new.frame ≡ true →
      completion_fault shortest begun.at new.at (tally_with new.frame begun.tally) c ≡ None → Form new c (message_turn shortest begun more new c)
  message_ends none final given = rw (counted_none new.frame begun.tally none, message_turn, final, given) (MessageEnds begun more next)

  message_ends_badly : limit_fault (tally_with new.frame begun.tally) ≡ None → is_final new.frame ≡ true → (fault : Malformed) →
      completion_fault shortest begun.at new.at (tally_with new.frame begun.tally) c ≡ Some fault → Form new c (message_turn shortest begun more new c)
  message_ends_badly none final fault failed = rw (counted_none new.frame begun.tally none, message_turn, final, failed) (Failing fault)

  pub message_form : Form new c (message_turn shortest begun more new c)
  message_form =
      ⊎_elim
      (λ none. ⊎_elim
      (λ final. ⊎_elim
      (λ given. message_ends none final given)
      (λ failed. message_ends_badly none final (failed.0) failed.1)
      (none_or_some (completion_fault shortest begun.at new.at (tally_with new.frame begun.tally) c)))
      (λ not_final. message_goes_on none not_final)
      (cases_Bool (is_final new.frame)))
      (λ past. message_passes (past.0) past.1)
      (none_or_some (limit_fault (tally_with new.frame begun.tally)))

-- a frame of a fragment

module _ (shortest : ℕ) (new : PlacedFrame) (c : Control) (id : ℕ) (last : Bool) (chain : OpenChain) (spot : c.spot ≡ OfFragment id last) (named : chain_named id c.chains.items ≡ Some chain) where
  fragment_passes : (why : Why) → limit_fault (tally_with new.frame chain.tally) ≡ Some why → Form new c (fragment_turn shortest id last new c chain)
  fragment_passes why some = rw (counted_some new.frame chain.tally why some, fragment_turn) (Failing (record { at = new.at; why = why }))

  fragment_goes_on : limit_fault (tally_with new.frame chain.tally) ≡ None → is_final new.frame ≡ false → Form new c (fragment_turn shortest id last new c chain)
  fragment_goes_on none not_final = rw (counted_none new.frame chain.tally none, fragment_turn, not_final) (FragmentOn id last chain spot named)

  fragment_ends : limit_fault (tally_with new.frame chain.tally) ≡ None → is_final new.frame ≡ true → last ≡ false → Form new c (fragment_turn shortest id last new c chain)
  fragment_ends none final not_last = rw (counted_none new.frame chain.tally none, fragment_turn, final, not_last) (FragmentEnds id last chain spot named)

  chain_ends : limit_fault (tally_with new.frame chain.tally) ≡ None → is_final new.frame ≡ true → last ≡ true →
      completion_fault shortest new.at new.at (tally_with new.frame chain.tally) c ≡ None → Form new c (fragment_turn shortest id last new c chain)
  chain_ends none final is_last given = rw (counted_none new.frame chain.tally none, fragment_turn, final, is_last, given) (ChainEnds id last chain spot named)

  chain_ends_badly : limit_fault (tally_with new.frame chain.tally) ≡ None → is_final new.frame ≡ true → last ≡ true → (fault : Malformed) →
      completion_fault shortest new.at new.at (tally_with new.frame chain.tally) c ≡ Some fault → Form new c (fragment_turn shortest id last new c chain)
  chain_ends_badly none final is_last fault failed = rw (counted_none new.frame chain.tally none, fragment_turn, final, is_last, failed) (Failing fault)

  pub fragment_form : Form new c (fragment_turn shortest id last new c chain)
  fragment_form =
      ⊎_elim
      (λ none. ⊎_elim
      (λ final. ⊎_elim
      (λ is_last. ⊎_elim
      (λ given. chain_ends none final is_last given)
      (λ failed. chain_ends_badly none final is_last (failed.0) failed.1)
      (none_or_some (completion_fault shortest new.at new.at (tally_with new.frame chain.tally) c)))
      (λ not_last. fragment_ends none final not_last)
      (cases_Bool last))
      (λ not_final. fragment_goes_on none not_final)
      (cases_Bool (is_final new.frame)))
      (λ past. fragment_passes (past.0) past.1)
      (none_or_some (limit_fault (tally_with new.frame chain.tally)))

-- a header

module _ (new : PlacedFrame) (c : Control) (free : c.spot ≡ Free) where
  bad_header : is_header new.frame ≡ false → Form new c (header_turn new c)
  bad_header none = rw (none, header_turn) (Failing (record { at = new.at; why = BadFragment }))

  header_begins_known : is_header new.frame ≡ true → begins_chain new.frame ≡ true → is_known (chain_id new.frame) c.chains.items ≡ true → Form new c (header_turn new c)
  header_begins_known header begins known = rw (header, header_turn, begins, known) (Failing (record { at = new.at; why = BadFragment }))

  header_past : is_header new.frame ≡ true → begins_chain new.frame ≡ true → is_known (chain_id new.frame) c.chains.items ≡ false → (length c.chains.items == most_chains) ≡ true → Form new c (header_turn new c)
  header_past header begins unknown many = rw (header, header_turn, begins, unknown, many) (Failing (record { at = new.at; why = OpenFragments }))

  header_begins : is_header new.frame ≡ true → begins_chain new.frame ≡ true → is_known (chain_id new.frame) c.chains.items ≡ false → (length c.chains.items == most_chains) ≡ false → Form new c (header_turn new c)
  header_begins header begins unknown few = rw (header, header_turn, begins, unknown, few) (Opening (chain_id new.frame) free unknown)

  header_goes_on : is_header new.frame ≡ true → begins_chain new.frame ≡ false → is_known (chain_id new.frame) c.chains.items ≡ true → Form new c (header_turn new c)
  header_goes_on header goes_on known = rw (header, header_turn, goes_on, known) (Continuing (chain_id new.frame) (ends_chain new.frame) free known)

  header_of_none : is_header new.frame ≡ true → begins_chain new.frame ≡ false → is_known (chain_id new.frame) c.chains.items ≡ false → Form new c (header_turn new c)
  header_of_none header goes_on unknown = rw (header, header_turn, goes_on, unknown) (Failing (record { at = new.at; why = BadFragment }))

  pub header_form : Form new c (header_turn new c)
  header_form =
      ⊎_elim
      (λ header. ⊎_elim
      (λ begins. ⊎_elim
      (λ known. header_begins_known header begins known)
      (λ unknown. ⊎_elim (λ many. header_past header begins unknown many) (λ few. header_begins header begins unknown few) (cases_Bool (length c.chains.items == most_chains)))
      (cases_Bool (is_known (chain_id new.frame) c.chains.items)))
      (λ goes_on. ⊎_elim (λ known. header_goes_on header goes_on known) (λ unknown. header_of_none header goes_on unknown) (cases_Bool (is_known (chain_id new.frame) c.chains.items)))
      (cases_Bool (begins_chain new.frame)))
      (λ none. bad_header none)
      (cases_Bool (is_header new.frame))

-- any frame

free_form : (shortest : ℕ) (new : PlacedFrame) (c : Control) → c.spot ≡ Free → Form new c (turned_at shortest Free new c)
free_form shortest new c free = go (cases_Bool (is_unfragmented new.frame))
  where
    go : (is_unfragmented new.frame ≡ true) ⊎ (is_unfragmented new.frame ≡ false) → Form new c (turned_at shortest Free new c)
    go (inl whole) = rw (whole, turned_at) (message_form shortest new c (begun_at new.at c.lists) (c.lists + 1) (Begins free))
    go (inr part) = rw (part, turned_at) (header_form new c free)

of_fragment_form : (shortest : ℕ) (new : PlacedFrame) (c : Control) (id : ℕ) (last : Bool) → c.spot ≡ OfFragment id last → Form new c (turned_at shortest (OfFragment id last) new c)
of_fragment_form shortest new c id last spot = go (none_or_some (chain_named id c.chains.items))
  where
    go : (chain_named id c.chains.items ≡ None) ⊎ ((chain : OpenChain) × (chain_named id c.chains.items ≡ Some chain)) → Form new c (turned_at shortest (OfFragment id last) new c)
    go (inl none) = rw (none, turned_at) (Failing (record { at = new.at; why = BadFragment }))
    go (inr found) = rw (found.1, turned_at) (fragment_form shortest new c id last found.0 spot found.1)

form_at : (shortest : ℕ) (new : PlacedFrame) (c : Control) (spot : Spot) → c.spot ≡ spot → Form new c (turned_at shortest spot new c)
form_at shortest new c Free is = free_form shortest new c is
form_at shortest new c (OfMessage begun) is = message_form shortest new c begun c.lists (Follows begun is)
form_at shortest new c (OfFragment id last) is = of_fragment_form shortest new c id last is

pub turned_form : (shortest : ℕ) (new : PlacedFrame) (c : Control) → Form new c (turned shortest new c)
turned_form shortest new c = form_at shortest new c c.spot refl
