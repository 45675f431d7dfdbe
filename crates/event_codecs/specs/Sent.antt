-- What a client makes of the bytes of an event that it is sent.
use Rattle.std.specs.Prelude.{◌≡◌, false, List, [], ◌∷◌, All, IsTrue, None, Ok}
use Rattle.frame_codec.specs.Laws.{IsWithinLimits, spelled}
use Rattle.frame_codec.specs.declared.frames.Frame.{Frame}
use Rattle.message_frames.specs.Merging.{fits}
use Rattle.message_frames.specs.Messages.{heard}
use Rattle.event_codecs.specs.Events.{event_of}
use Rattle.event_codecs.specs.declared.events.ClientEvent.{ClientEvent}

-- Each frame is within its limits, and all together within those of a message.
pub record FitMessage (frames : List Frame) : Type 0 where
  pub each : All IsWithinLimits frames
  pub all : IsTrue (fits frames)

-- A client that is sent the bytes of these frames hears one message, of these frames, and reads it as the event.
pub record AreHeardAs (frames : List Frame) (event : ClientEvent) : Type 0 where
  pub heard : heard false (spelled frames) ≡ record { messages = record { frames = frames } ∷ []; fault = None }
  pub read : event_of (record { frames = frames }) ≡ Ok event
