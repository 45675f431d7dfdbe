-- The state of a reader of messages, and the way back over one piece.
use Rattle.std.specs.Prelude.{◌≡◌, ℕ, ◌≤◌, Bool, List, [], length, Option, Some, None, All, vec_len}
use Rattle.std.specs.Global.{Box}
use Rattle.frame_codec.specs.FrameReaders.{InProgress, StandsFor as FramesStandFor}
use Rattle.frame_codec.specs.Marks.{IsMarkOf, back_at}
use Rattle.frame_codec.specs.declared.marks.FrameMark.{FrameMark}
use Rattle.message_frames.specs.Messages.{prefix_of, shortest_start}
use Rattle.message_frames.specs.Lists.{assembly_of, IsSound}
use Rattle.message_frames.specs.Assemblers.{state_of, IsSoundAssembler, HoldsLists, HasFewLists, most_lists}
use Rattle.message_frames.specs.MessageReaders.{Hearing, hearing, standing}
use Rattle.message_frames.specs.Tracks.{Held, held_in, taken_back, first_back, LeadsBelow}
use Rattle.message_frames.specs.declared.assembler.Assembler.{Assembler}
use Rattle.message_frames.specs.declared.assembler.Taken.{Taken}
use Rattle.message_frames.specs.declared.message.Message.{Message}
use Rattle.message_frames.specs.declared.stream.Stream.{Stream}
use Rattle.message_frames.specs.declared.stream.StreamMark.{StreamMark}
use Rattle.message_frames.specs.declared.stream.MarkedStream.{MarkedStream}

abbrev pub heard_by : Stream → Hearing
heard_by s = hearing s.fault s.prefix s.begun s.frames (state_of s.assembler)

-- What a reader keeps of its state: there is a text that it stands for, so that its places are small.
pub record IsHearing (s : Stream) : Type 0 where
  pub sound : IsSoundAssembler s.assembler
  pub shortest : s.assembler.shortest ≡ shortest_start s.prefix
  pub within : s.begun ≤ length (prefix_of s.prefix)
  pub text : List ℕ
  pub stands : heard_by s ≡ standing s.prefix text

-- Between pieces it keeps few lists.
pub record IsAtRest (s : Stream) : Type 0 where
  pub hearing : IsHearing s
  pub few : HasFewLists s.assembler

-- what a reader has heard: nothing where it has no stream yet
abbrev pub heard_in : Bool → Option (Box MarkedStream) → Hearing
heard_in prefix None = standing prefix []
heard_in prefix (Some heard) = heard_by heard.value.stream

-- The stream that a reader keeps is at rest, and begins as the reader says.
abbrev pub RestsIn : Bool → Option (Box MarkedStream) → Type 0
RestsIn prefix None = Unit {0}
RestsIn prefix (Some heard) = IsAtRest heard.value.stream × (heard.value.stream.prefix ≡ prefix)

-- the way back

pub record IsMarkOfStream (mark : StreamMark) (s : Stream) : Type 0 where
  pub begun : mark.begun ≡ s.begun
  pub frames : IsMarkOf mark.frames s.frames
  pub control : mark.control ≡ s.assembler.control
  pub fault : mark.fault ≡ s.fault

-- the lists and the messages after a piece
abbrev pub held_after : Assembler → Taken → Held
held_after assembler taken = held_in assembler.lists.items taken.messages.items

-- the lists before it
abbrev pub lists_before : Assembler → Taken → Held
lists_before assembler taken = taken_back taken.track.items (held_after assembler taken)

-- the frame in progress before it, of which there is a mark
abbrev pub frame_before : InProgress → Assembler → FrameMark → Taken → InProgress
frame_before frames assembler mark taken = back_at mark (first_back None taken.track.items (held_after assembler taken)) frames

-- What was taken leads back from a reader of frames and an assembler to those before.
pub record LeadsBack (old : InProgress) (before : Assembler) (new : InProgress) (after : Assembler) (taken : Taken) : Type 0 where
  pub frames : (mark : FrameMark) (at : ℕ) (text : List ℕ) → FramesStandFor old at text → IsMarkOf mark old → frame_before new after mark taken ≡ old
  pub state : assembly_of before.control (lists_before after taken).lists ≡ state_of before
  pub sound : IsSound before.control (lists_before after taken).lists
  pub count : before.control.lists ≤ vec_len after.lists
  pub below : All (LeadsBelow (vec_len after.lists)) taken.track.items

-- what was heard before a piece, of which there is a mark
abbrev pub heard_before : Stream → StreamMark → Taken → Hearing
heard_before s mark taken =
    hearing mark.fault s.prefix mark.begun (frame_before s.frames s.assembler mark.frames taken) (assembly_of mark.control (lists_before s.assembler taken).lists)

-- A mark and what was taken lead back to a state that a reader can have.
pub record GoesBack (s : Stream) (mark : StreamMark) (taken : Taken) : Type 0 where
  pub sound : IsSound mark.control (lists_before s.assembler taken).lists
  pub count : mark.control.lists ≤ vec_len s.assembler.lists
  pub few : mark.control.lists ≤ most_lists
  pub below : All (LeadsBelow (vec_len s.assembler.lists)) taken.track.items
  pub within : mark.begun ≤ length (prefix_of s.prefix)
  pub text : List ℕ
  pub stands : heard_before s mark taken ≡ standing s.prefix text

-- a feed that isn't settled: what was heard before it and after it, and the messages that it gives
pub record Pending : Type 0 where
  pub before : Hearing
  pub after : Hearing
  pub messages : List Message

abbrev pub pending : Stream → StreamMark → Taken → Pending
pending s mark taken = record { before = heard_before s mark taken; after = heard_by s; messages = taken.messages.items }

pub record IsPending (s : Stream) (mark : StreamMark) (taken : Taken) : Type 0 where
  pub hearing : IsHearing s
  pub back : GoesBack s mark taken
  pub kept : HoldsLists s.assembler taken.kept
