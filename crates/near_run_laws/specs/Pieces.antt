-- What a near client makes of a piece of its connection's output.
use Rattle.std.specs.Prelude.{◌≡◌, ℕ, ◌+◌, false, ◌||◌, ◌==◌, ℤ, List, [], ◌∷◌, Option, Some, None, Err}
use Rattle.grid_base.specs.declared.refusal.CallRefused.TheVariants.{UnknownType}
use Rattle.frame_codec.specs.declared.frames.Frame.{Frame}
use Rattle.message_frames.specs.declared.message.Message.{Message}
use Rattle.map_codecs.specs.Calls.{get_kind}
use Rattle.event_codecs.specs.Events.{event_of}
use Rattle.call_engine.specs.Calls.{Settings}
use Rattle.near_protocol.specs.Client.{Client, Said, handled}
use Rattle.grid_client.specs.Nears.{Value}
use Rattle.grid_client.specs.States.{State}
use Rattle.grid_client.specs.Hearing.{told_by_piece}
use Rattle.near_run_laws.specs.Maps.{keyed}
use Rattle.near_run_laws.specs.Readings.{messages_sent, HearsNext}
use Rattle.near_run_laws.specs.Hearings.{HasHead}
use Rattle.near_run_laws.specs.Clients.{GoesWith, SaysIt}

-- The machine doesn't speak of a message that answers no get and is no event, as the answers to the opening.
pub record IsQuiet (message : Message) : Type 0 where
  pub kind : ℕ
  pub correlation : ℤ
  pub head : HasHead message kind correlation
  pub apart : ((kind == 0) || (kind == get_kind + 1)) ≡ false
  pub unknown : event_of message ≡ Err UnknownType

-- what a message says to the machine, if anything
abbrev pub Means : List ℕ → Message → Option (Said (List ℕ)) → Type 0
Means name message None = IsQuiet message
Means name message (Some said) = SaysIt name message said

abbrev pub AllMean : List ℕ → List Message → List (Option (Said (List ℕ))) → Type 0
AllMean name [] [] = Unit {0}
AllMean name [] (said ∷ more) = ⊥
AllMean name (message ∷ messages) [] = ⊥
AllMean name (message ∷ messages) (said ∷ more) = Means name message said × AllMean name messages more

-- what the machine's client makes of all of it
abbrev pub all_handled : Settings → ℕ → ℕ → List ℕ → List (Option (Said (List ℕ))) → Client (List ℕ) Value → Client (List ℕ) Value
all_handled settings client c name [] m = m
all_handled settings client c name (None ∷ more) m = all_handled settings client c name more m
all_handled settings client c name (Some said ∷ more) m = all_handled settings client c name more (handled (keyed settings c name client) said m)

-- A piece tells the client what its messages say, one after the other.
abbrev pub EveryPieceIsHeard : Type 0
EveryPieceIsHeard = (settings : Settings) (client c : ℕ) (name : List ℕ) (s : State) (m : Client (List ℕ) Value) (sent : List (List Frame)) (text piece : List ℕ) (says : List (Option (Said (List ℕ))))
    → GoesWith c name s m → (h : HearsNext sent text piece) → AllMean name (messages_sent h.new) says
    → GoesWith c name (told_by_piece c text piece s).after (all_handled settings client c name says m)
