-- The way back of frames that went to their lists: the last one goes back first.
use Rattle.std.specs.Prelude.{◌≡◌, ℕ, ◌<◌, List, [], ◌∷◌, length, slice_set, All, Option, Some, None}
use Rattle.std.specs.Global.{Vec}
use Rattle.frame_codec.specs.declared.frames.Frame.{Frame}
use Rattle.frame_codec.specs.declared.frames.PlacedFrame.{PlacedFrame}
use Rattle.message_frames.specs.Lists.{list_at, frames_in}
use Rattle.message_frames.specs.declared.control.Ending.{Ending}
use Rattle.message_frames.specs.declared.control.Ending.TheVariants.{GoesOn, EndsFragment, EndsMessage}
use Rattle.message_frames.specs.declared.message.Message.{Message}
use Rattle.message_frames.specs.declared.assembler.Way.{Way}
use Rattle.message_frames.specs.declared.assembler.Way.TheVariants.{Listed, Given, Apart}

-- the last of a list, and the others

abbrev pub last_of : {A : Type 0} → List A → Option A
last_of [] = None
last_of (x ∷ []) = Some x
last_of (x ∷ y ∷ xs) = last_of (y ∷ xs)

abbrev pub without_last : {A : Type 0} → List A → List A
without_last [] = []
without_last (x ∷ []) = []
without_last (x ∷ y ∷ xs) = x ∷ without_last (y ∷ xs)

-- lists of frames, and the messages that were given of them
pub record Held : Type 0 where
  pub lists : List (List Frame)
  pub given : List Message

abbrev pub held_in : List (Vec Frame) → List Message → Held
held_in lists given = record { lists = frames_in lists; given = given }

-- A message that goes back to its list leaves its last frame.
abbrev pub without_message : ℕ → Held → Option Message → Held
without_message list h None = h
without_message list h (Some message) = record { lists = slice_set h.lists list (without_last message.frames); given = without_last h.given }

abbrev pub way_to : ℕ → Ending → Way
way_to list GoesOn = Listed list
way_to list EndsFragment = Listed list
way_to list EndsMessage = Given list

-- One frame goes back from where it went: the end of its list, or that of the message that was given last.
abbrev pub without_frame : Way → Held → Held
without_frame (Listed list) h = record h { lists = slice_set h.lists list (without_last (list_at h.lists list)) }
without_frame (Given list) h = without_message list h (last_of h.given)
without_frame (Apart frame) h = h

-- What was there before frames went these ways.
abbrev pub taken_back : List Way → Held → Held
taken_back [] h = h
taken_back (way ∷ track) h = without_frame way (taken_back track h)

-- the frame that goes back

abbrev pub last_frame : Option Message → Option Frame
last_frame None = None
last_frame (Some message) = last_of message.frames

abbrev pub frame_back : Way → Held → Option Frame
frame_back (Listed list) h = last_of (list_at h.lists list)
frame_back (Given list) h = last_frame (last_of h.given)
frame_back (Apart frame) h = Some frame

-- the frame that went first of all, or another where none went
abbrev pub first_back : Option Frame → List Way → Held → Option Frame
first_back other [] h = other
first_back other (way ∷ track) h = frame_back way (taken_back track h)

-- A way leads to one of so many lists.
abbrev pub LeadsBelow : ℕ → Way → Type 0
LeadsBelow count (Listed list) = list < count
LeadsBelow count (Given list) = list < count
LeadsBelow count (Apart frame) = Unit {0}

-- A frame has the payload of the first of these, and there is one where there are any.
abbrev pub IsPayloadOf : Option Frame → List PlacedFrame → Type 0
IsPayloadOf frame [] = frame ≡ None
IsPayloadOf None (first ∷ frames) = ⊥
IsPayloadOf (Some frame) (first ∷ frames) = frame.payload ≡ first.frame.payload

-- Between two states of lists and given messages frames went these ways.
pub record IsTrackOf (frames : List PlacedFrame) (old : List (Vec Frame)) (before : List Message) (new : List (Vec Frame)) (after : List Message) (track : List Way) : Type 0 where
  pub back : taken_back track (held_in new after) ≡ held_in old before
  pub first : IsPayloadOf (first_back None track (held_in new after)) frames
  pub below : All (LeadsBelow (length new)) track
  pub count : length new ≡ length old
