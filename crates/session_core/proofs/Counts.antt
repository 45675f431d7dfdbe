-- How many messages a connection has: no more than there are numbers for.
use Rattle.std.proofs.Common.{ℕ, ◌+◌, ◌==◌, ◌≤◌, Bool, true, false, cond, not, List, [], ◌∷◌, ◌++◌, length, drop, Option, Some, None, arith}
use Rattle.std.specs.Prelude.{nat_lt}
use Rattle.frame_codec.specs.Flags.{without_flag}
use Rattle.frame_codec.specs.Reading.{reading}
use Rattle.frame_codec.specs.declared.flags.TheConstants.{FINAL}
use Rattle.frame_codec.specs.declared.frames.Frame.{Frame}
use Rattle.frame_codec.specs.declared.frames.PlacedFrame.{PlacedFrame}
use Rattle.frame_codec.specs.declared.malformed.Why.{Why}
use Rattle.frame_codec.specs.declared.malformed.Why.TheVariants.{Prefix, BadFragment, OpenFragments, ShortStart, Spent}
use Rattle.message_frames.specs.Assembly.{Place, Between, InMessage, InFragment, Assembly, Assembled, Step, Faulty, Goes, Gives, faulty, giving, assembled, stepped, step, nothing_yet, completed, in_message, at_header, in_fragment, between, size_fault, is_final, is_header, is_open, is_unfragmented, begins_chain, ends_chain, chain_id, frames_of, with_frames, without, first_payload, most_chains, most_messages}
use Rattle.message_frames.specs.Messages.{prefix_of, shortest_start, differing, Heard, heard_after_prefix, heard, messages_of}
use Rattle.message_frames.proofs.Bounds.{assembled_sound}
use Rattle.message_frames.proofs.Soundness.{nothing_is_sound}

-- A frame leads to no smaller count, and to a greater one where it completes a message.
abbrev CountsOn : ℕ → Step → Type 0
CountsOn count (Faulty fault) = Unit {0}
CountsOn count (Goes next) = count ≤ next.complete
CountsOn count (Gives message next) = count + 1 ≤ next.complete

completed_counts : (shortest began ended : ℕ) (frames : List Frame) (s : Assembly) → CountsOn s.complete (completed shortest began ended frames s)
completed_counts shortest began ended frames s = go (nat_lt (length (first_payload frames)) shortest) (s.complete == most_messages)
  where
    go : (a b : Bool) → CountsOn s.complete (cond a (faulty began ShortStart) (cond b (faulty ended Spent) (Gives (record { frames = frames }) (record s { complete = s.complete + 1 }))))
    go true b = tt
    go false true = tt
    go false false = omega arith

message_counts : (shortest began : ℕ) (frames : List Frame) (new : PlacedFrame) (s : Assembly) → CountsOn s.complete (in_message shortest began frames new s)
message_counts shortest began frames new s = go (size_fault frames) (is_final new.frame)
  where
    done : CountsOn s.complete (completed shortest began new.at frames (record s { place = Between }))
    done = completed_counts shortest began new.at frames (record s { place = Between })

    go : (why : Option Why) (b : Bool) → CountsOn s.complete (elim why [
      | Some why ↦ faulty new.at why
      | None ↦ cond b (completed shortest began new.at frames (record s { place = Between })) (Goes (record s { place = InMessage began frames }))
    ])
    go (Some why) b = tt
    go None true = done
    go None false = omega arith

header_counts : (new : PlacedFrame) (s : Assembly) → CountsOn s.complete (at_header new s)
header_counts new s = go (not (is_header new.frame)) (begins_chain new.frame) (is_open (chain_id new.frame) s.chains) (length s.chains == most_chains)
  where
    go : (a b o m : Bool) → CountsOn s.complete (cond a (faulty new.at BadFragment) (cond b
        (cond o (faulty new.at BadFragment) (cond m (faulty new.at OpenFragments) (Goes (record s { place = InFragment (chain_id new.frame) false; chains = s.chains ++ record { id = chain_id new.frame; frames = [] } ∷ [] }))))
        (cond o (Goes (record s { place = InFragment (chain_id new.frame) (ends_chain new.frame) })) (faulty new.at BadFragment))))
    go true b o m = tt
    go false true true m = tt
    go false true false true = tt
    go false true false false = omega arith
    go false false true m = omega arith
    go false false false m = tt

fragment_counts : (shortest id : ℕ) (last : Bool) (new : PlacedFrame) (s : Assembly) → CountsOn s.complete (in_fragment shortest id last new s)
fragment_counts shortest id last new s = go (size_fault all) (not (is_final new.frame)) last
  where
    frames : List Frame
    frames = frames_of id s.chains

    all : List Frame
    all = frames_of id s.chains ++ new.frame ∷ []

    done : CountsOn s.complete (completed shortest new.at new.at (frames_of id s.chains ++ new.frame ∷ []) (record s { place = Between; chains = without id s.chains }))
    done = completed_counts shortest new.at new.at (frames_of id s.chains ++ new.frame ∷ []) (record s { place = Between; chains = without id s.chains })

    go : (why : Option Why) (a b : Bool) → CountsOn s.complete (elim why [
      | Some why ↦ faulty new.at why
      | None ↦ cond a (Goes (record s { chains = with_frames id (frames_of id s.chains ++ new.frame ∷ []) s.chains }))
          (cond b (completed shortest new.at new.at (frames_of id s.chains ++ new.frame ∷ []) (record s { place = Between; chains = without id s.chains }))
          (Goes (record s { place = Between; chains = with_frames id (frames_of id s.chains ++ without_flag FINAL new.frame ∷ []) s.chains })))
    ])
    go (Some why) a b = tt
    go None true b = omega arith
    go None false true = done
    go None false false = omega arith

between_counts : (shortest : ℕ) (new : PlacedFrame) (s : Assembly) → CountsOn s.complete (between shortest new s)
between_counts shortest new s = go (is_unfragmented new.frame)
  where
    go : (b : Bool) → CountsOn s.complete (cond b (in_message shortest new.at (new.frame ∷ []) new s) (at_header new s))
    go true = message_counts shortest new.at (new.frame ∷ []) new s
    go false = header_counts new s

stepped_counts : (shortest : ℕ) (place : Place) (new : PlacedFrame) (s : Assembly) → CountsOn s.complete (stepped shortest place new s)
stepped_counts shortest Between new s = between_counts shortest new s
stepped_counts shortest (InMessage began frames) new s = message_counts shortest began (frames ++ new.frame ∷ []) new s
stepped_counts shortest (InFragment id last) new s = fragment_counts shortest id last new s

abbrev assembled_on : ℕ → List PlacedFrame → Assembly → Step → Assembled
assembled_on shortest frames s t = elim t [
  | Faulty fault ↦ record { messages = []; fault = Some fault; after = s }
  | Goes next ↦ assembled shortest frames next
  | Gives message next ↦ giving message (assembled shortest frames next)
]

-- the count after frames has each of their messages
assembled_counts : (shortest : ℕ) (frames : List PlacedFrame) (s : Assembly) → s.complete + length (assembled shortest frames s).messages ≤ (assembled shortest frames s).after.complete
assembled_counts shortest [] s = omega arith
assembled_counts shortest (frame ∷ frames) s = go (step shortest frame s) (stepped_counts shortest s.place frame s) (λ next. assembled_counts shortest frames next)
  where
    go : (t : Step) → CountsOn s.complete t → ((next : Assembly) → next.complete + length (assembled shortest frames next).messages ≤ (assembled shortest frames next).after.complete)
        → s.complete + length (assembled_on shortest frames s t).messages ≤ (assembled_on shortest frames s t).after.complete
    go (Faulty fault) h later = omega arith
    go (Goes next) h later = let on = later next in omega (arith, on, h)
    go (Gives message next) h later = let on = later next in omega (arith, on, h)

few_assembled : (shortest : ℕ) (frames : List PlacedFrame) → length (assembled shortest frames nothing_yet).messages ≤ most_messages
few_assembled shortest frames =
    let counts = assembled_counts shortest frames nothing_yet in
    let sound = assembled_sound shortest frames nothing_yet nothing_is_sound in
    let counted = sound.counted in
    omega (arith, counts, counted)

abbrev heard_on : Bool → List ℕ → Option ℕ → Heard
heard_on prefix text found = elim found [
  | Some at ↦ record { messages = []; fault = Some (record { at = at; why = Prefix }) }
  | None ↦ heard_after_prefix prefix text
]

-- Each message of a text has a number of four bytes, and one number is left out.
pub messages_few : (prefix : Bool) (text : List ℕ) → length (messages_of prefix text) ≤ most_messages
unfolding heard
messages_few prefix text = go (differing 0 (prefix_of prefix) text)
  where
    go : (found : Option ℕ) → length (heard_on prefix text found).messages ≤ most_messages
    go (Some at) = omega arith
    go None = few_assembled (shortest_start prefix) (reading (length (prefix_of prefix)) (drop (length (prefix_of prefix)) text)).frames
