-- The messages of a connection: a function of all the bytes that arrived on it, however they were cut.
use Rattle.std.specs.Prelude.{ℕ, ◌+◌, ◌==◌, Bool, true, false, if◌then◌else◌, List, [], ◌∷◌, drop, Option, Some, None, length}
use Rattle.frame_codec.specs.Reading.{Reading, reading}
use Rattle.frame_codec.specs.declared.malformed.Malformed.{Malformed}
use Rattle.frame_codec.specs.declared.malformed.Why.TheVariants.{Prefix}
use Rattle.message_frames.specs.declared.message.Message.{Message}
use Rattle.message_frames.specs.Assembly.{assembled, nothing_yet}

-- A stream to a member begins with `CP2`; one to a client has no prefix.
abbrev pub prefix_of : Bool → List ℕ
prefix_of true = 67 ∷ 80 ∷ 50 ∷ []
prefix_of false = []

-- A request's head has the type, the correlation and the partition; a response's has a count of one byte in place of the last.
abbrev pub shortest_start : Bool → ℕ
shortest_start true = 16
shortest_start false = 13

-- the place of the first byte that differs from the prefix, if one does
abbrev pub differing : ℕ → List ℕ → List ℕ → Option ℕ
differing at [] text = None
differing at (p ∷ ps) [] = None
differing at (p ∷ ps) (b ∷ text) = if p == b then differing (at + 1) ps text else Some at

-- the messages that a text completes, and its first fault
pub record Heard : Type 0 where
  pub messages : List Message
  pub fault : Option Malformed

-- the frames' fault shows after all frames before it
abbrev pub or_else : Option Malformed → Option Malformed → Option Malformed
or_else None later = later
or_else (Some fault) later = Some fault

abbrev pub heard_of_frames : ℕ → Reading → Heard
heard_of_frames shortest r =
    let a = assembled shortest r.frames nothing_yet in
    record { messages = a.messages; fault = or_else a.fault r.fault }

abbrev pub heard_after_prefix : Bool → List ℕ → Heard
heard_after_prefix prefix text =
    let n = length (prefix_of prefix) in
    heard_of_frames (shortest_start prefix) (reading n (drop n text))

-- what is heard of all the bytes of a stream so far
unfoldable pub heard : Bool → List ℕ → Heard
heard prefix text =
    elim (differing 0 (prefix_of prefix) text) [
      | Some at ↦ record { messages = []; fault = Some (record { at = at; why = Prefix }) }
      | None ↦ heard_after_prefix prefix text
    ]

abbrev pub messages_of : Bool → List ℕ → List Message
messages_of prefix text = (heard prefix text).messages

abbrev pub fault_of : Bool → List ℕ → Option Malformed
fault_of prefix text = (heard prefix text).fault
