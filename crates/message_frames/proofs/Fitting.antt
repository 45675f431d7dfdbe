-- Frames that are read have payloads within the limit, and so have the frames of the messages that they make.
use Rattle.std.proofs.Common.{◌≡◌, ℕ, zero, suc, ◌+◌, ◌≤◌, Bool, true, false, cond, List, [], ◌∷◌, ◌++◌, length, take, drop, Option, Some, None, refl, subst, arith, length-drop}
use Rattle.std.specs.Prelude.{nat_lt, not, ◌==◌}
use Rattle.std.proofs.lemmas.Bool.{ltb-false}
use Rattle.std.proofs.lemmas.List.{length-take}
use Rattle.frame_codec.specs.Flags.{without_flag}
use Rattle.frame_codec.specs.Frames.{frame_length}
use Rattle.frame_codec.specs.Reading.{Front, Partial, Whole, Wrong, Reading, stated_length, frame_of, front, with_frame, reading_within, reading}
use Rattle.frame_codec.specs.declared.flags.TheConstants.{FINAL}
use Rattle.frame_codec.specs.declared.frames.Frame.{Frame}
use Rattle.frame_codec.specs.declared.frames.PlacedFrame.{PlacedFrame}
use Rattle.frame_codec.specs.declared.frames.TheConstants.{HEADER_LENGTH, MAX_FRAME_LENGTH, MAX_PAYLOAD}
use Rattle.frame_codec.specs.declared.malformed.Why.{Why}
use Rattle.frame_codec.specs.declared.malformed.Why.TheVariants.{TooShort, TooLong, BadFragment, OpenFragments, ShortStart, Spent, Prefix}
use Rattle.message_frames.specs.declared.message.Message.{Message}
use Rattle.message_frames.specs.Assembly.{Chain, Place, Between, InMessage, InFragment, Assembly, Assembled, Step, Faulty, Goes, Gives, faulty, giving, assembled, completed, size_fault, is_final, is_unfragmented, is_header, begins_chain, ends_chain, is_open, chain_id, has_id, frames_of, with_frames, without, in_message, at_header, in_fragment, between, stepped, step, most_chains, most_messages, first_payload, nothing_yet}
use Rattle.message_frames.specs.Messages.{prefix_of, shortest_start, differing, Heard, heard_after_prefix, heard, messages_of}

-- frames

abbrev pub Fits : Frame → Type 0
Fits frame = length frame.payload ≤ MAX_PAYLOAD

abbrev pub AllFit : List Frame → Type 0
AllFit [] = Unit {0}
AllFit (frame ∷ frames) = Fits frame × AllFit frames

abbrev AllRead : List PlacedFrame → Type 0
AllRead [] = Unit {0}
AllRead (placed ∷ more) = Fits placed.frame × AllRead more

fits-append : (xs ys : List Frame) → AllFit xs → AllFit ys → AllFit (xs ++ ys)
fits-append [] ys a b = b
fits-append (x ∷ xs) ys a b = (a.0, fits-append xs ys a.1 b)

-- reading

frame_fits : (text : List ℕ) → nat_lt MAX_FRAME_LENGTH (stated_length text) ≡ false → Fits (frame_of text)
frame_fits text sound =
    let limit : stated_length text ≤ MAX_FRAME_LENGTH = ltb-false MAX_FRAME_LENGTH (stated_length text) sound in
    let taken = length-take (stated_length text) text in
    let rest = length-drop HEADER_LENGTH (take (stated_length text) text) in
    omega (arith, limit, taken, rest)

whole_fits : (text : List ℕ) (frame : Frame) → front text ≡ Whole frame → Fits frame
whole_fits text frame e = go (nat_lt (length text) 4) (nat_lt (stated_length text) HEADER_LENGTH) (nat_lt MAX_FRAME_LENGTH (stated_length text)) (nat_lt (length text) (stated_length text)) refl e
  where
    go : (a b c d : Bool) → nat_lt MAX_FRAME_LENGTH (stated_length text) ≡ c → cond a Partial (cond b (Wrong TooShort) (cond c (Wrong TooLong) (cond d Partial (Whole (frame_of text))))) ≡ Whole frame → Fits frame
    go true b c d p s = absurd cc
    go false true c d p s = absurd cc
    go false false true d p s = absurd cc
    go false false false true p s = absurd cc
    go false false false false p s = let same : frame_of text ≡ frame = cc in subst Fits same (frame_fits text p)

abbrev read_on : ℕ → ℕ → List ℕ → Front → Reading
read_on bound at text f = elim f [
  | Partial ↦ record { frames = []; fault = None; rest = text }
  | Wrong why ↦ record { frames = []; fault = Some (record { at = at; why = why }); rest = text }
  | Whole frame ↦ with_frame at frame (reading_within bound (at + frame_length frame) (drop (frame_length frame) text))
]

read_fit : (bound at : ℕ) (text : List ℕ) → AllRead (reading_within bound at text).frames
read_fit zero at text = tt
read_fit (suc bound) at text = go (front text) refl (λ frame. read_fit bound (at + frame_length frame) (drop (frame_length frame) text))
  where
    go : (f : Front) → front text ≡ f → ((frame : Frame) → AllRead (reading_within bound (at + frame_length frame) (drop (frame_length frame) text)).frames) → AllRead (read_on bound at text f).frames
    go Partial e h = tt
    go (Wrong why) e h = tt
    go (Whole frame) e h = (whole_fits text frame e, h frame)

-- the state between two frames

abbrev ChainsFit : List Chain → Type 0
ChainsFit [] = Unit {0}
ChainsFit (chain ∷ chains) = AllFit chain.frames × ChainsFit chains

abbrev PlaceFits : Place → Type 0
PlaceFits Between = Unit {0}
PlaceFits (InMessage at frames) = AllFit frames
PlaceFits (InFragment id last) = Unit {0}

record StateFits (s : Assembly) : Type 0 where
  place : PlaceFits s.place
  chains : ChainsFit s.chains

abbrev StepFits : Step → Type 0
StepFits (Faulty fault) = Unit {0}
StepFits (Goes next) = StateFits next
StepFits (Gives message next) = AllFit message.frames × StateFits next

-- chains

frames_of_fit : (id : ℕ) (chains : List Chain) → ChainsFit chains → AllFit (frames_of id chains)
frames_of_fit id [] h = tt
frames_of_fit id (chain ∷ chains) h = go (has_id id chain) (frames_of_fit id chains h.1)
  where
    go : (b : Bool) → AllFit (frames_of id chains) → AllFit (cond b chain.frames (frames_of id chains))
    go true rest = h.0
    go false rest = rest

with_frames_fit : (id : ℕ) (frames : List Frame) (chains : List Chain) → AllFit frames → ChainsFit chains → ChainsFit (with_frames id frames chains)
with_frames_fit id frames [] f h = tt
with_frames_fit id frames (chain ∷ chains) f h = (go (has_id id chain), with_frames_fit id frames chains f h.1)
  where
    go : (b : Bool) → AllFit (cond b (record { id = id; frames = frames }) chain).frames
    go true = f
    go false = h.0

without_fit : (id : ℕ) (chains : List Chain) → ChainsFit chains → ChainsFit (without id chains)
without_fit id [] h = tt
without_fit id (chain ∷ chains) h = go (not (has_id id chain)) (without_fit id chains h.1)
  where
    go : (b : Bool) → ChainsFit (without id chains) → ChainsFit (cond b (chain ∷ without id chains) (without id chains))
    go true rest = (h.0, rest)
    go false rest = rest

opened_fit : (id : ℕ) (chains : List Chain) → ChainsFit chains → ChainsFit (chains ++ record { id = id; frames = [] } ∷ [])
opened_fit id [] h = (tt, tt)
opened_fit id (chain ∷ chains) h = (h.0, opened_fit id chains h.1)

-- one frame more

completed_fits : (shortest began ended : ℕ) (frames : List Frame) (s : Assembly) → AllFit frames → StateFits s → StepFits (completed shortest began ended frames s)
completed_fits shortest began ended frames s f h = go (nat_lt (length (first_payload frames)) shortest) (s.complete == most_messages)
  where
    go : (a b : Bool) → StepFits (cond a (faulty began ShortStart) (cond b (faulty ended Spent) (Gives (record { frames = frames }) (record s { complete = s.complete + 1 }))))
    go true b = tt
    go false true = tt
    go false false = (f, record { place = h.place; chains = h.chains })

in_message_fits : (shortest began : ℕ) (frames : List Frame) (new : PlacedFrame) (s : Assembly) → AllFit frames → StateFits s → StepFits (in_message shortest began frames new s)
in_message_fits shortest began frames new s f h = go (size_fault frames) (is_final new.frame)
  where
    go : (fault : Option Why) (last : Bool) → StepFits (elim fault [
      | Some why ↦ faulty new.at why
      | None ↦ cond last (completed shortest began new.at frames (record s { place = Between })) (Goes (record s { place = InMessage began frames }))
    ])
    go (Some why) last = tt
    go None true = completed_fits shortest began new.at frames (record s { place = Between }) f (record { place = tt; chains = h.chains })
    go None false = record { place = f; chains = h.chains }

at_header_fits : (new : PlacedFrame) (s : Assembly) → StateFits s → StepFits (at_header new s)
at_header_fits new s h = go (not (is_header new.frame)) (begins_chain new.frame) (is_open (chain_id new.frame) s.chains) (length s.chains == most_chains)
  where
    go : (a b c d : Bool) → StepFits (cond a (faulty new.at BadFragment)
        (cond b (cond c (faulty new.at BadFragment) (cond d (faulty new.at OpenFragments) (Goes (record s { place = InFragment (chain_id new.frame) false; chains = s.chains ++ record { id = chain_id new.frame; frames = [] } ∷ [] }))))
        (cond c (Goes (record s { place = InFragment (chain_id new.frame) (ends_chain new.frame) })) (faulty new.at BadFragment))))
    go true b c d = tt
    go false true true d = tt
    go false true false true = tt
    go false true false false = record { place = tt; chains = opened_fit (chain_id new.frame) s.chains h.chains }
    go false false true d = record { place = tt; chains = h.chains }
    go false false false d = tt

in_fragment_fits : (shortest id : ℕ) (last : Bool) (new : PlacedFrame) (s : Assembly) → Fits new.frame → StateFits s → StepFits (in_fragment shortest id last new s)
in_fragment_fits shortest id last new s f h = go (size_fault all) (not (is_final new.frame)) last
  where
    frames : List Frame
    frames = frames_of id s.chains

    all : List Frame
    all = frames_of id s.chains ++ new.frame ∷ []

    so_far : AllFit (frames_of id s.chains)
    so_far = frames_of_fit id s.chains h.chains

    all_fit : AllFit (frames_of id s.chains ++ new.frame ∷ [])
    all_fit = fits-append (frames_of id s.chains) (new.frame ∷ []) so_far (f, tt)

    cut_fit : AllFit (frames_of id s.chains ++ without_flag FINAL new.frame ∷ [])
    cut_fit = fits-append (frames_of id s.chains) (without_flag FINAL new.frame ∷ []) so_far (f, tt)

    go : (fault : Option Why) (a b : Bool) → StepFits (elim fault [
      | Some why ↦ faulty new.at why
      | None ↦ cond a (Goes (record s { chains = with_frames id (frames_of id s.chains ++ new.frame ∷ []) s.chains }))
          (cond b (completed shortest new.at new.at (frames_of id s.chains ++ new.frame ∷ []) (record s { place = Between; chains = without id s.chains }))
          (Goes (record s { place = Between; chains = with_frames id (frames_of id s.chains ++ without_flag FINAL new.frame ∷ []) s.chains })))
    ])
    go (Some why) a b = tt
    go None true b = record { place = h.place; chains = with_frames_fit id (frames_of id s.chains ++ new.frame ∷ []) s.chains all_fit h.chains }
    go None false true = completed_fits shortest new.at new.at (frames_of id s.chains ++ new.frame ∷ []) (record s { place = Between; chains = without id s.chains }) all_fit (record { place = tt; chains = without_fit id s.chains h.chains })
    go None false false = record { place = tt; chains = with_frames_fit id (frames_of id s.chains ++ without_flag FINAL new.frame ∷ []) s.chains cut_fit h.chains }

between_fits : (shortest : ℕ) (new : PlacedFrame) (s : Assembly) → Fits new.frame → StateFits s → StepFits (between shortest new s)
between_fits shortest new s f h = go (is_unfragmented new.frame)
  where
    go : (b : Bool) → StepFits (cond b (in_message shortest new.at (new.frame ∷ []) new s) (at_header new s))
    go true = in_message_fits shortest new.at (new.frame ∷ []) new s (f, tt) h
    go false = at_header_fits new s h

stepped_fits : (shortest : ℕ) (place : Place) (new : PlacedFrame) (s : Assembly) → Fits new.frame → PlaceFits place → StateFits s → StepFits (stepped shortest place new s)
stepped_fits shortest Between new s f p h = between_fits shortest new s f h
stepped_fits shortest (InMessage began frames) new s f p h = in_message_fits shortest began (frames ++ new.frame ∷ []) new s (fits-append frames (new.frame ∷ []) p (f, tt)) h
stepped_fits shortest (InFragment id last) new s f p h = in_fragment_fits shortest id last new s f h

-- messages

abbrev pub MessagesFit : List Message → Type 0
MessagesFit [] = Unit {0}
MessagesFit (message ∷ messages) = AllFit message.frames × MessagesFit messages

abbrev assembled_on : ℕ → List PlacedFrame → Assembly → Step → Assembled
assembled_on shortest frames s t = elim t [
  | Faulty fault ↦ record { messages = []; fault = Some fault; after = s }
  | Goes next ↦ assembled shortest frames next
  | Gives message next ↦ giving message (assembled shortest frames next)
]

assembled_fit : (shortest : ℕ) (frames : List PlacedFrame) (s : Assembly) → AllRead frames → StateFits s → MessagesFit (assembled shortest frames s).messages
assembled_fit shortest [] s f h = tt
assembled_fit shortest (frame ∷ frames) s f h = go (step shortest frame s) (stepped_fits shortest s.place frame s f.0 h.place h) (λ next n. assembled_fit shortest frames next f.1 n)
  where
    go : (t : Step) → StepFits t → ((next : Assembly) → StateFits next → MessagesFit (assembled shortest frames next).messages) → MessagesFit (assembled_on shortest frames s t).messages
    go (Faulty fault) k more = tt
    go (Goes next) k more = more next k
    go (Gives message next) k more = (k.0, more next k.1)

abbrev heard_on : Bool → List ℕ → Option ℕ → Heard
heard_on prefix text found = elim found [
  | Some at ↦ record { messages = []; fault = Some (record { at = at; why = Prefix }) }
  | None ↦ heard_after_prefix prefix text
]

-- The frames of every message of a text have payloads within the limit.
pub messages_fit : (prefix : Bool) (text : List ℕ) → MessagesFit (messages_of prefix text)
unfolding heard reading
messages_fit prefix text = go (differing 0 (prefix_of prefix) text)
  where
    go : (found : Option ℕ) → MessagesFit (heard_on prefix text found).messages
    go (Some at) = tt
    go None =
        let n = length (prefix_of prefix) in
        assembled_fit (shortest_start prefix) (reading n (drop n text)).frames nothing_yet (read_fit (length (drop n text)) n (drop n text)) (record { place = tt; chains = tt })
