-- A fault shows at one of the frames that came, or at the first one of the message in progress.
use Rattle.std.proofs.Common.{◌≡◌, ℕ, ◌<◌, ◌≤◌, Bool, not, eqb, nat_lt, List, [], ◌∷◌, ◌++◌, length, Option, Some, None, refl}
use Rattle.std.proofs.lemmas.Bool.{cond_both}
use Rattle.frame_codec.specs.declared.frames.Frame.{Frame}
use Rattle.frame_codec.specs.declared.frames.PlacedFrame.{PlacedFrame}
use Rattle.frame_codec.specs.declared.malformed.Malformed.{Malformed}
use Rattle.frame_codec.specs.declared.malformed.Why.{Why}
use Rattle.message_frames.specs.Assembly.{most_chains, most_messages, Place, Between, InMessage, InFragment, Assembly, Step, Faulty, Goes, Gives, completed, first_payload, size_fault, in_message, in_fragment, at_header, stepped, step, assembled, is_unfragmented, is_final, is_header, is_open, begins_chain, chain_id, frames_of, without}
use Rattle.message_frames.proofs.Composition.{after_step}

module _ (low high : ℕ) where
  abbrev pub IsInRange : ℕ → Type 0
  IsInRange at = (low ≤ at) × (at < high)

  abbrev pub AreInRange : List PlacedFrame → Type 0
  AreInRange [] = Unit {0}
  AreInRange (x ∷ xs) = IsInRange x.at × AreInRange xs

  abbrev pub PlaceInRange : Place → Type 0
  PlaceInRange Between = Unit {0}
  PlaceInRange (InMessage at frames) = IsInRange at
  PlaceInRange (InFragment id last) = Unit {0}

  abbrev StepInRange : Step → Type 0
  StepInRange (Faulty fault) = IsInRange fault.at
  StepInRange (Goes next) = PlaceInRange next.place
  StepInRange (Gives message next) = PlaceInRange next.place

  completed_in_range : (shortest began ended : ℕ) (frames : List Frame) (s : Assembly) → IsInRange began → IsInRange ended → PlaceInRange s.place → StepInRange (completed shortest began ended frames s)
  completed_in_range shortest began ended frames s b e p =
      cond_both (nat_lt (length (first_payload frames)) shortest) _ _ StepInRange (λ short. b)
      (λ long. cond_both (eqb s.complete most_messages) _ _ StepInRange (λ spent. e) (λ fresh. p))

  message_in_range : (shortest began : ℕ) (frames : List Frame) (x : PlacedFrame) (s : Assembly) → IsInRange began → IsInRange x.at → StepInRange (in_message shortest began frames x s)
  message_in_range shortest began frames x s b i = go (size_fault frames) refl
    where
      go : (fault : Option Why) → size_fault frames ≡ fault → StepInRange (in_message shortest began frames x s)
      go (Some why) e = rw (in_message, e) i
      go None e =
          rw (in_message, e)
          (cond_both (is_final x.frame) _ _ StepInRange (λ final. completed_in_range shortest began x.at frames (record s { place = Between }) b i tt) (λ more. b))

  fragment_in_range : (shortest id : ℕ) (last : Bool) (x : PlacedFrame) (s : Assembly) → IsInRange x.at → PlaceInRange s.place → StepInRange (in_fragment shortest id last x s)
  fragment_in_range shortest id last x s i p = go (size_fault (frames_of id s.chains ++ x.frame ∷ [])) refl
    where
      go : (fault : Option Why) → size_fault (frames_of id s.chains ++ x.frame ∷ []) ≡ fault → StepInRange (in_fragment shortest id last x s)
      go (Some why) e = rw (in_fragment, e) i
      go None e =
          rw (in_fragment, e)
          (cond_both (not (is_final x.frame)) _ _ StepInRange (λ more. p)
          (λ final. cond_both last _ _ StepInRange
          (λ ends. completed_in_range shortest x.at x.at (frames_of id s.chains ++ x.frame ∷ []) (record s { place = Between; chains = without id s.chains }) i i tt) (λ middle. tt)))

  header_in_range : (x : PlacedFrame) (s : Assembly) → IsInRange x.at → StepInRange (at_header x s)
  header_in_range x s i =
      cond_both (not (is_header x.frame)) _ _ StepInRange (λ wrong. i)
      (λ header. cond_both (begins_chain x.frame) _ _ StepInRange
      (λ begins. cond_both (is_open (chain_id x.frame) s.chains) _ _ StepInRange (λ again. i)
      (λ closed. cond_both (eqb (length s.chains) most_chains) _ _ StepInRange (λ full. i) (λ room. tt)))
      (λ continues. cond_both (is_open (chain_id x.frame) s.chains) _ _ StepInRange (λ open_now. tt) (λ closed. i)))

  stepped_in_range : (shortest : ℕ) (place : Place) (x : PlacedFrame) (s : Assembly) → s.place ≡ place → PlaceInRange place → IsInRange x.at → StepInRange (stepped shortest place x s)
  stepped_in_range shortest Between x s e p i =
      cond_both (is_unfragmented x.frame) _ _ StepInRange (λ begins. message_in_range shortest x.at (x.frame ∷ []) x s i i) (λ header. header_in_range x s i)
  stepped_in_range shortest (InMessage began frames) x s e p i = message_in_range shortest began (frames ++ x.frame ∷ []) x s p i
  stepped_in_range shortest (InFragment id last) x s e p i = fragment_in_range shortest id last x s i (rw e tt)

  after_step_in_range : (shortest : ℕ) (xs : List PlacedFrame) (s : Assembly) (fault : Malformed) (t : Step) → StepInRange t →
      ((next : Assembly) → PlaceInRange next.place → (assembled shortest xs next).fault ≡ Some fault → IsInRange fault.at) →
      (after_step shortest xs s t).fault ≡ Some fault → IsInRange fault.at
  after_step_in_range shortest xs s fault (Faulty found) i later e = let same : found ≡ fault = cc in rw (← same) i
  after_step_in_range shortest xs s fault (Goes next) i later e = later next i e
  after_step_in_range shortest xs s fault (Gives message next) i later e = later next i e

  -- Where frames and the message in progress are in a range, so is the fault.
  pub fault_in_range : (shortest : ℕ) (xs : List PlacedFrame) (s : Assembly) (fault : Malformed) → AreInRange xs → PlaceInRange s.place →
      (assembled shortest xs s).fault ≡ Some fault → IsInRange fault.at
  fault_in_range shortest [] s fault i p e = absurd (cc)
  fault_in_range shortest (x ∷ xs) s fault i p e =
      after_step_in_range shortest xs s fault (step shortest x s) (stepped_in_range shortest s.place x s refl p i.0) (λ next q f. fault_in_range shortest xs next fault i.1 q f) e
