-- What a client hears that reads an output piece by piece.
use Rattle.std.specs.Prelude.{◌≡◌, ℕ, false, List, ◌++◌, map, None}
use Rattle.std.specs.List.{flat_map}
use Rattle.frame_codec.specs.Laws.{spelled}
use Rattle.frame_codec.specs.declared.frames.Frame.{Frame}
use Rattle.message_frames.specs.Grammar.{Piece, Unfragmented}
use Rattle.message_frames.specs.Laws.{IsStream}
use Rattle.message_frames.specs.Messages.{shortest_start, messages_of, fault_of}
use Rattle.message_frames.specs.declared.message.Message.{Message}
use Rattle.grid_client.specs.Hearing.{messages_by}

-- messages that were sent to a client, by their frames

abbrev pub output : List (List Frame) → List ℕ
output sent = flat_map spelled sent

abbrev pub pieces_sent : List (List Frame) → List Piece
pieces_sent sent = map (λ frames. Unfragmented frames) sent

abbrev pub messages_sent : List (List Frame) → List Message
messages_sent sent = map (λ frames. record { frames = frames }) sent

-- what a piece of an output completes, behind a text
pub record HearsNext (sent : List (List Frame)) (text piece : List ℕ) : Type 0 where
  pub done : List (List Frame)
  pub new : List (List Frame)
  pub later : List (List Frame)
  pub order : sent ≡ (done ++ new) ++ later
  pub before : messages_of false text ≡ messages_sent done
  pub now : messages_by text piece ≡ messages_sent new
  pub whole : fault_of false (text ++ piece) ≡ None

-- However an output is cut, its messages are heard in their order, each once, and without a fault.
abbrev pub EveryOutputIsHeard : Type 0
EveryOutputIsHeard = (sent : List (List Frame)) (text piece rest : List ℕ) → IsStream (shortest_start false) (pieces_sent sent) → (text ++ piece) ++ rest ≡ output sent → HearsNext sent text piece
