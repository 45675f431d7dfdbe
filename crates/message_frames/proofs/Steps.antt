-- What one frame does, where the tests of its step are known.
use Rattle.std.proofs.Common.{◌≡◌, ℕ, ◌+◌, Bool, true, false, List, [], ◌∷◌, ◌++◌, length, Some, None, refl, ◌⊎◌, inl, inr, arith, eqb, nat_lt}
use Rattle.std.proofs.lemmas.Bool.{cases_Bool, and_parts, not-true}
use Rattle.std.proofs.lemmas.Bool.Decides.{nat_tests}
use Rattle.frame_codec.specs.Flags.{without_flag}
use Rattle.frame_codec.specs.declared.frames.Frame.{Frame}
use Rattle.frame_codec.specs.declared.frames.PlacedFrame.{PlacedFrame}
use Rattle.frame_codec.specs.declared.flags.TheConstants.{FINAL}
use Rattle.frame_codec.specs.declared.malformed.Why.{Why}
use Rattle.message_frames.specs.Assembly.{faulty, most_messages, most_chains, Chain, Assembly, Between, InMessage, InFragment, Goes, Gives, size_fault, first_payload, completed, in_message, in_fragment, at_header, between, is_unfragmented, is_final, is_header, begins_chain, ends_chain, chain_id, is_open, frames_of, with_frames, without}
use Rattle.message_frames.specs.Merging.{may_complete, may_follow, opened}
use Rattle.message_frames.specs.Grammar.{Fragment}

pub completes_well : (shortest began ended : ℕ) (frames : List Frame) (s : Assembly) → may_complete shortest s.complete frames ≡ true →
    completed shortest began ended frames s ≡ Gives (record { frames = frames }) (record s { complete = s.complete + 1 })
completes_well shortest began ended frames s e =
    let long : nat_lt (length (first_payload frames)) shortest ≡ false = grind (arith, nat_tests, e) in
    let numbered : eqb s.complete most_messages ≡ false = grind (arith, nat_tests, e) in
    rw (long, numbered) refl

-- in a message

pub message_ends : (shortest began : ℕ) (frames : List Frame) (x : PlacedFrame) (s : Assembly) → size_fault frames ≡ None → is_final x.frame ≡ true →
    in_message shortest began frames x s ≡ completed shortest began x.at frames (record s { place = Between })
message_ends shortest began frames x s small final = rw (in_message, small) (rw final refl)

pub message_goes : (shortest began : ℕ) (frames : List Frame) (x : PlacedFrame) (s : Assembly) → size_fault frames ≡ None → is_final x.frame ≡ false →
    in_message shortest began frames x s ≡ Goes (record s { place = InMessage began frames })
message_goes shortest began frames x s small final = rw (in_message, small) (rw final refl)

pub message_large : (shortest began : ℕ) (frames : List Frame) (x : PlacedFrame) (s : Assembly) (why : Why) → size_fault frames ≡ Some why →
    in_message shortest began frames x s ≡ faulty x.at why
message_large shortest began frames x s why fault = rw (in_message, fault) refl

-- in a fragment

pub fragment_large : (shortest id : ℕ) (last : Bool) (x : PlacedFrame) (s : Assembly) (why : Why) → size_fault (frames_of id s.chains ++ x.frame ∷ []) ≡ Some why →
    in_fragment shortest id last x s ≡ faulty x.at why
fragment_large shortest id last x s why fault = rw (in_fragment, fault) refl

pub fragment_goes : (shortest id : ℕ) (last : Bool) (x : PlacedFrame) (s : Assembly) →
    size_fault (frames_of id s.chains ++ x.frame ∷ []) ≡ None → is_final x.frame ≡ false →
    in_fragment shortest id last x s ≡ Goes (record s { chains = with_frames id (frames_of id s.chains ++ x.frame ∷ []) s.chains })
fragment_goes shortest id last x s small final = rw (in_fragment, small) (rw final refl)

pub fragment_ends : (shortest id : ℕ) (x : PlacedFrame) (s : Assembly) →
    size_fault (frames_of id s.chains ++ x.frame ∷ []) ≡ None → is_final x.frame ≡ true →
    in_fragment shortest id false x s ≡ Goes (record s { place = Between; chains = with_frames id (frames_of id s.chains ++ without_flag FINAL x.frame ∷ []) s.chains })
fragment_ends shortest id x s small final = rw (in_fragment, small) (rw final refl)

pub chain_ends : (shortest id : ℕ) (x : PlacedFrame) (s : Assembly) →
    size_fault (frames_of id s.chains ++ x.frame ∷ []) ≡ None → is_final x.frame ≡ true →
    in_fragment shortest id true x s ≡ completed shortest x.at x.at (frames_of id s.chains ++ x.frame ∷ []) (record s { place = Between; chains = without id s.chains })
chain_ends shortest id x s small final = rw (in_fragment, small) (rw final refl)

-- between two pieces

pub begins_message : (shortest : ℕ) (x : PlacedFrame) (s : Assembly) → is_unfragmented x.frame ≡ true →
    between shortest x s ≡ in_message shortest x.at (x.frame ∷ []) x s
begins_message shortest x s e = rw e refl

pub begins_fragment : (shortest : ℕ) (x : PlacedFrame) (s : Assembly) → is_unfragmented x.frame ≡ false → between shortest x s ≡ at_header x s
begins_fragment shortest x s e = rw e refl

-- whether a chain may have a further fragment with that header
abbrev pub header_may_come : Frame → List Chain → Bool
header_may_come header chains = may_follow (Fragment header []) chains

pub header_goes : (x : PlacedFrame) (s : Assembly) → is_unfragmented x.frame ≡ false → is_header x.frame ≡ true → header_may_come x.frame s.chains ≡ true →
    at_header x s ≡ Goes (record s { place = InFragment (chain_id x.frame) (ends_chain x.frame); chains = opened x.frame s.chains })
header_goes x s apart header may = go (cases_Bool (begins_chain x.frame))
  where
    go : (begins_chain x.frame ≡ true) ⊎ (begins_chain x.frame ≡ false) →
        at_header x s ≡ Goes (record s { place = InFragment (chain_id x.frame) (ends_chain x.frame); chains = opened x.frame s.chains })
    go (inl begins) =
        let rules = and_parts _ _ (rw begins at may) in
        let closed : is_open (chain_id x.frame) s.chains ≡ false = not-true _ rules.0 in
        let room : eqb (length s.chains) most_chains ≡ false = grind (arith, nat_tests, rules.1) in
        let middle : ends_chain x.frame ≡ false = rw begins at apart in
        rw (header, begins, closed, room, middle) refl
    go (inr continues) =
        let open_now : is_open (chain_id x.frame) s.chains ≡ true = rw continues at may in
        rw (header, continues, open_now) refl
