-- How frames make messages, one frame after the other.
use Rattle.std.specs.Prelude.{ℕ, ◌+◌, ◌==◌, ◌&&◌, Bool, false, not, if◌then◌else◌, List, [], ◌∷◌, ◌++◌, length, map, sum_by, filter, Option, Some, None, nat_lt}
use Rattle.std.specs.List.{list_any}
use Rattle.std.specs.Int.{w64, from_le_bytes}
use Rattle.frame_codec.specs.Flags.{has_flag, without_flag}
use Rattle.frame_codec.specs.Frames.{frame_length}
use Rattle.frame_codec.specs.declared.frames.Frame.{Frame}
use Rattle.frame_codec.specs.declared.frames.PlacedFrame.{PlacedFrame}
use Rattle.frame_codec.specs.declared.flags.TheConstants.{BEGIN_FRAGMENT, END_FRAGMENT, FINAL}
use Rattle.frame_codec.specs.declared.malformed.Malformed.{Malformed}
use Rattle.frame_codec.specs.declared.malformed.Why.{Why}
use Rattle.frame_codec.specs.declared.malformed.Why.TheVariants.{BadFragment, OpenFragments, ManyFrames, LongMessage, ShortStart, Spent}
use Rattle.message_frames.specs.declared.message.Message.{Message}

-- limits

abbrev pub most_frames : ℕ
most_frames = 4096

-- of the lengths of a message's frames together; the headers of its fragments aren't counted
abbrev pub most_length : ℕ
most_length = 2097152

abbrev pub most_chains : ℕ
most_chains = 16

-- Messages are numbered by four bytes from 0 on, and one number is left out.
abbrev pub most_messages : ℕ
most_messages = 4294967295

-- frames by their flags

-- A message of one fragment begins with a frame that has both bits.
abbrev pub is_unfragmented : Frame → Bool
is_unfragmented frame = has_flag BEGIN_FRAGMENT frame && has_flag END_FRAGMENT frame

abbrev pub is_final : Frame → Bool
is_final frame = has_flag FINAL frame

abbrev pub begins_chain : Frame → Bool
begins_chain header = has_flag BEGIN_FRAGMENT header

abbrev pub ends_chain : Frame → Bool
ends_chain header = has_flag END_FRAGMENT header

-- A fragment's header has the chain's id as its payload, eight bytes, and isn't final.
abbrev pub is_header : Frame → Bool
is_header frame = not (is_final frame) && (length frame.payload == 8)

abbrev pub chain_id : Frame → ℕ
chain_id header = from_le_bytes w64 header.payload

-- the state between two frames

-- a chain whose last fragment hasn't ended: its id, and the frames of its fragments so far, without the headers
pub record Chain : Type 0 where
  pub id : ℕ
  pub frames : List Frame

-- what the next frame is a part of
pub data Place : Type 0 where
  -- it is the first of a message or the header of a fragment
  Between : Place
  -- an unfragmented message, with its first byte's place and its frames so far
  InMessage : (at : ℕ) (frames : List Frame) → Place
  -- a fragment of the chain with that id, its last one or not
  InFragment : (id : ℕ) (last : Bool) → Place

pub record Assembly : Type 0 where
  pub place : Place
  pub chains : List Chain  -- the open ones, in the order in which they were opened
  pub complete : ℕ  -- how many messages were complete so far

abbrev pub nothing_yet : Assembly
nothing_yet = record { place = Between; chains = []; complete = 0 }

-- chains

abbrev pub has_id : ℕ → Chain → Bool
has_id id chain = chain.id == id

abbrev pub is_open : ℕ → List Chain → Bool
is_open id chains = list_any (has_id id) chains

-- the frames of a chain so far; none of a chain that isn't open
abbrev pub frames_of : ℕ → List Chain → List Frame
frames_of id [] = []
frames_of id (chain ∷ chains) = if has_id id chain then chain.frames else frames_of id chains

abbrev pub with_frames : ℕ → List Frame → List Chain → List Chain
with_frames id frames chains = map (λ (chain : Chain). if has_id id chain then (record { id = id; frames = frames }) else chain) chains

abbrev pub without : ℕ → List Chain → List Chain
without id chains = filter (λ (chain : Chain). not (has_id id chain)) chains

-- faults of one frame

-- the first fault of a message's frames, of which the last is new
abbrev pub size_fault : List Frame → Option Why
size_fault frames =
    if nat_lt most_frames (length frames) then Some ManyFrames
    else if nat_lt most_length (sum_by frame_length frames) then Some LongMessage
    else None

abbrev pub first_payload : List Frame → List ℕ
first_payload [] = []
first_payload (frame ∷ frames) = frame.payload

-- one frame more

-- what a frame does: it shows a fault, or the state goes on, with a message where it completes one
pub data Step : Type 0 where
  Faulty : (fault : Malformed) → Step
  Goes : (next : Assembly) → Step
  Gives : (message : Message) (next : Assembly) → Step

abbrev pub faulty : ℕ → Why → Step
faulty at why = Faulty (record { at = at; why = why })

-- A message with all its frames: its first payload has at least as many bytes as a head needs, and there is a number for it.
-- `began` is where a first payload that is too short shows, `ended` the place of its last frame.
abbrev pub completed : ℕ → ℕ → ℕ → List Frame → Assembly → Step
completed shortest began ended frames s =
    if nat_lt (length (first_payload frames)) shortest then faulty began ShortStart
    else if s.complete == most_messages then faulty ended Spent
    else Gives (record { frames = frames }) (record s { complete = s.complete + 1 })

-- the frames of an unfragmented message, of which the last is new
abbrev pub in_message : ℕ → ℕ → List Frame → PlacedFrame → Assembly → Step
in_message shortest began frames new s =
    elim (size_fault frames) [
      | Some why ↦ faulty new.at why
      | None ↦ if is_final new.frame then completed shortest began new.at frames (record s { place = Between }) else Goes (record s { place = InMessage began frames })
    ]

-- A header opens a chain or continues one.
abbrev pub at_header : PlacedFrame → Assembly → Step
at_header new s =
    let id = chain_id new.frame in
    if not (is_header new.frame) then faulty new.at BadFragment
    else if begins_chain new.frame then
    (if is_open id s.chains then faulty new.at BadFragment
    else if length s.chains == most_chains then faulty new.at OpenFragments
    else Goes (record s { place = InFragment id false; chains = s.chains ++ record { id = id; frames = [] } ∷ [] }))
    else if is_open id s.chains then Goes (record s { place = InFragment id (ends_chain new.frame) })
    else faulty new.at BadFragment

-- A fragment's last frame ends it: its chain goes on without that frame's final flag, or is a message.
abbrev pub in_fragment : ℕ → ℕ → Bool → PlacedFrame → Assembly → Step
in_fragment shortest id last new s =
    let frames = frames_of id s.chains in
    let all = frames ++ new.frame ∷ [] in
    elim (size_fault all) [
      | Some why ↦ faulty new.at why
      | None ↦
          if not (is_final new.frame) then Goes (record s { chains = with_frames id all s.chains })
          else if last then completed shortest new.at new.at all (record s { place = Between; chains = without id s.chains })
          else Goes (record s { place = Between; chains = with_frames id (frames ++ without_flag FINAL new.frame ∷ []) s.chains })
    ]

abbrev pub between : ℕ → PlacedFrame → Assembly → Step
between shortest new s = if is_unfragmented new.frame then in_message shortest new.at (new.frame ∷ []) new s else at_header new s

-- one frame more, where a first payload has at least so many bytes
abbrev pub stepped : ℕ → Place → PlacedFrame → Assembly → Step
stepped shortest Between new s = between shortest new s
stepped shortest (InMessage began frames) new s = in_message shortest began (frames ++ new.frame ∷ []) new s
stepped shortest (InFragment id last) new s = in_fragment shortest id last new s

abbrev pub step : ℕ → PlacedFrame → Assembly → Step
step shortest new s = stepped shortest s.place new s

-- frames in order

-- the messages that frames complete, up to the first fault, and the state after them
pub record Assembled : Type 0 where
  pub messages : List Message
  pub fault : Option Malformed
  pub after : Assembly

abbrev pub giving : Message → Assembled → Assembled
giving message assembled = record assembled { messages = message ∷ assembled.messages }

abbrev pub assembled : ℕ → List PlacedFrame → Assembly → Assembled
assembled shortest [] s = record { messages = []; fault = None; after = s }
assembled shortest (frame ∷ frames) s =
    elim (step shortest frame s) [
      | Faulty fault ↦ record { messages = []; fault = Some fault; after = s }
      | Goes next ↦ assembled shortest frames next
      | Gives message next ↦ giving message (assembled shortest frames next)
    ]
