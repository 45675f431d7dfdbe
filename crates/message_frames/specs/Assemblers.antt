-- An assembler of messages: the state that it has, and the room that frames need in it.
use Rattle.std.specs.Prelude.{◌≡◌, ℕ, ◌+◌, ◌-◌, ◌<◌, ◌≤◌, List, [], length, Option, Some, None, vec_len, vec_capacity}
use Rattle.std.specs.Global.{Vec}
use Rattle.frame_codec.specs.declared.frames.Frame.{Frame}
use Rattle.frame_codec.specs.declared.frames.PlacedFrame.{PlacedFrame}
use Rattle.message_frames.specs.Assembly.{Assembly, most_chains}
use Rattle.message_frames.specs.Turns.{after_all, HaveRoom}
use Rattle.message_frames.specs.Lists.{assembly_of, IsSound, frames_in, rooms_in}
use Rattle.message_frames.specs.declared.control.Control.{Control}
use Rattle.message_frames.specs.declared.assembler.Assembler.{Assembler}
use Rattle.message_frames.specs.declared.assembler.Room.{Room}

abbrev pub state_of : Assembler → Assembly
state_of a = assembly_of a.control (frames_in a.lists.items)

pub record IsSoundAssembler (a : Assembler) : Type 0 where
  pub control : IsSound a.control (frames_in a.lists.items)
  pub count : a.control.lists ≤ vec_len a.lists

-- Between pieces there is a list for each open chain at most, and one for a message in progress.
abbrev pub most_lists : ℕ
most_lists = most_chains + 1

abbrev pub HasFewLists : Assembler → Type 0
HasFewLists a = vec_len a.lists ≤ most_lists

-- room for the lists of all open messages, which are to be moved
pub record IsRoomForLists (after : Control) (kept : Vec (Vec Frame)) : Type 0 where
  pub none : kept.items ≡ []
  pub room : length after.chains.items < vec_capacity kept

-- Of so many lists there is room for those of all open messages, or they are few and needn't be moved.
abbrev pub HoldsAfter : ℕ → Control → Option (Vec (Vec Frame)) → Type 0
HoldsAfter lists after None = lists ≤ most_lists
HoldsAfter lists after (Some kept) = IsRoomForLists after kept

abbrev pub HoldsLists : Assembler → Option (Vec (Vec Frame)) → Type 0
HoldsLists a kept = HoldsAfter (vec_len a.lists) a.control kept

-- room for the messages that are complete between two states of control, and for so many lists
pub record IsRoomAfter (lists : ℕ) (before after : Control) (room : Room) : Type 0 where
  pub none : room.messages.items ≡ []
  pub empty : vec_len room.messages ≡ 0
  pub numbers : after.complete - before.complete ≤ vec_capacity room.messages
  pub kept : HoldsAfter lists after room.kept

-- room for where each frame goes
pub record IsRoomForTrack (room : Room) (frames : List PlacedFrame) : Type 0 where
  pub none : room.track.items ≡ []
  pub ways : length frames ≤ vec_capacity room.track

pub record IsRoomFor (a : Assembler) (room : Room) (frames : List PlacedFrame) : Type 0 where
  pub lists : HaveRoom a.shortest (rooms_in a.lists.items) frames a.control
  pub rest : IsRoomAfter (vec_len a.lists) a.control (after_all a.shortest frames a.control) room
  pub track : IsRoomForTrack room frames
