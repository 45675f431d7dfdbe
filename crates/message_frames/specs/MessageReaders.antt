-- What a reader of messages stands for: all bytes of its connection so far, however they were cut.
use Rattle.std.specs.Prelude.{◌≡◌, ℕ, Bool, List, drop, length, min, Option, Some, None}
use Rattle.frame_codec.specs.FrameReaders.{InProgress, standing as frames_standing}
use Rattle.frame_codec.specs.Reading.{reading}
use Rattle.frame_codec.specs.declared.malformed.Malformed.{Malformed}
use Rattle.message_frames.specs.Assembly.{Assembly, assembled, nothing_yet}
use Rattle.message_frames.specs.Messages.{prefix_of, shortest_start, fault_of}

pub data Hearing : Type 0 where
  -- Without a fault so far: how many bytes of the prefix have come, the frame in progress, and the messages in progress.
  Live : (prefix : Bool) (begun : ℕ) (frame : InProgress) (assembly : Assembly) → Hearing
  -- after the first fault
  Failed : (prefix : Bool) (fault : Malformed) → Hearing

-- the bytes after the prefix, whose first has the prefix's length as its place
abbrev pub after_prefix : Bool → List ℕ → List ℕ
after_prefix prefix text = drop (length (prefix_of prefix)) text

-- what a text comes to in which no fault shows
abbrev pub live : Bool → List ℕ → Hearing
live prefix text =
    let at = length (prefix_of prefix) in
    let rest = after_prefix prefix text in
    Live prefix (min at (length text)) (frames_standing at rest) (assembled (shortest_start prefix) (reading at rest).frames nothing_yet).after

-- a reader after a text
unfoldable pub standing : Bool → List ℕ → Hearing
standing prefix text = elim (fault_of prefix text) [ None ↦ live prefix text | Some fault ↦ Failed prefix fault ]

abbrev pub StandsFor : Hearing → Bool → List ℕ → Type 0
StandsFor reader prefix text = reader ≡ standing prefix text

-- a reader with these fields
abbrev pub hearing : Option Malformed → Bool → ℕ → InProgress → Assembly → Hearing
hearing None prefix begun frame assembly = Live prefix begun frame assembly
hearing (Some fault) prefix begun frame assembly = Failed prefix fault

-- the fault shown so far
abbrev pub shown_fault : Hearing → Option Malformed
shown_fault (Live prefix begun frame assembly) = None
shown_fault (Failed prefix fault) = Some fault
