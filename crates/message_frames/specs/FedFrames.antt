-- Frames that a piece completes, and the messages that they complete in turn.
use Rattle.std.specs.Prelude.{◌≡◌, ℕ, List, ◌++◌, Option}
use Rattle.frame_codec.specs.FrameReaders.{frames_of, fault_of}
use Rattle.frame_codec.specs.declared.frames.PlacedFrame.{PlacedFrame}
use Rattle.frame_codec.specs.declared.malformed.Malformed.{Malformed}
use Rattle.message_frames.specs.declared.message.Message.{Message}
use Rattle.message_frames.specs.Assembly.{Assembly, assembled}
use Rattle.message_frames.specs.Messages.{or_else}

-- After a text whose first byte has that place, a piece completes frames. Assembled from one state on they leave another, with these messages and that fault.
pub record Gives (at : ℕ) (text piece : List ℕ) (shortest : ℕ) (before after : Assembly) (messages : List Message) (fault : Option Malformed) : Type 0 where
  pub fed : List PlacedFrame
  pub frames : frames_of at text ++ fed ≡ frames_of at (text ++ piece)
  pub given : messages ≡ (assembled shortest fed before).messages
  pub first : fault ≡ or_else (assembled shortest fed before).fault (fault_of at (text ++ piece))
  pub left : after ≡ (assembled shortest fed before).after
