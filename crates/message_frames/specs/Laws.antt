-- What holds of the bytes of a connection and of the messages that are heard of them.
use Rattle.std.specs.Prelude.{◌≡◌, ◌≢◌, ℕ, ◌+◌, ◌*◌, ◌<◌, ◌≤◌, Bool, List, [], ◌∷◌, ◌++◌, length, All, IsTrue, Some, None}
use Rattle.frame_codec.specs.Laws.{IsBytes, IsWithinLimits}
use Rattle.frame_codec.specs.declared.frames.TheConstants.{MAX_FRAME_LENGTH}
use Rattle.frame_codec.specs.declared.malformed.Malformed.{Malformed}
use Rattle.message_frames.specs.declared.message.Message.{Message}
use Rattle.message_frames.specs.Assembly.{most_frames, most_length, most_chains, most_messages}
use Rattle.message_frames.specs.Messages.{prefix_of, shortest_start, heard, messages_of, fault_of}
use Rattle.message_frames.specs.Grammar.{Piece, is_piece, piece_frames, piece_bytes, stream_of}
use Rattle.message_frames.specs.Merging.{merged, keeps_rules}

-- Pieces that a connection takes, one after the other, from its first.
pub record IsStream (shortest : ℕ) (pieces : List Piece) : Type 0 where
  pub frames : All (λ piece. All IsWithinLimits (piece_frames piece)) pieces
  pub rules : IsTrue (keeps_rules shortest [] 0 pieces)

abbrev pub messages_in : List Piece → List Message
messages_in pieces = merged [] pieces

-- A stream of the grammar is heard as its messages, without a fault.
abbrev pub the_grammar_is_heard : Type 0
the_grammar_is_heard =
    (prefix : Bool) (pieces : List Piece) → IsStream (shortest_start prefix) pieces →
    heard prefix (stream_of prefix pieces) ≡ record { messages = messages_in pieces; fault = None }

-- So is a stream that breaks off in the midst of a further piece.
abbrev pub a_stream_is_heard_so_far : Type 0
a_stream_is_heard_so_far =
    (prefix : Bool) (pieces : List Piece) (piece : Piece) (begun more : List ℕ) → IsStream (shortest_start prefix) (pieces ++ piece ∷ []) →
    begun ++ more ≡ piece_bytes piece → more ≢ [] →
    heard prefix (stream_of prefix pieces ++ begun) ≡ record { messages = messages_in pieces; fault = None }

-- No further piece that the connection takes begins a rest.
abbrev pub NoPieceBegins : ℕ → List Piece → List ℕ → Type 0
NoPieceBegins shortest pieces rest = (piece : Piece) (more : List ℕ) → IsStream shortest (pieces ++ piece ∷ []) → rest ≢ piece_bytes piece ++ more

-- A text is these pieces and a rest that none begins, and its messages are those of the pieces. A fault stands in the rest.
-- Without one no whole piece is in the rest, not even one that the connection wouldn't take.
pub record IsHeardAs (prefix : Bool) (text : List ℕ) (pieces : List Piece) (rest : List ℕ) : Type 0 where
  pub whole : text ≡ stream_of prefix pieces ++ rest
  pub stream : IsStream (shortest_start prefix) pieces
  pub messages : messages_of prefix text ≡ messages_in pieces
  pub complete : NoPieceBegins (shortest_start prefix) pieces rest
  pub fault : (fault : Malformed) → fault_of prefix text ≡ Some fault → (length (stream_of prefix pieces) ≤ fault.at) × (fault.at < length text)
  pub sound : fault_of prefix text ≡ None → (piece : Piece) (more : List ℕ) → All IsWithinLimits (piece_frames piece) → IsTrue (is_piece piece) → rest ≢ piece_bytes piece ++ more

-- Of pieces and a rest that no further one begins exactly the messages of the pieces are heard.
abbrev pub exactly_the_pieces_are_heard : Type 0
exactly_the_pieces_are_heard =
    (prefix : Bool) (pieces : List Piece) (rest : List ℕ) → IsStream (shortest_start prefix) pieces → IsBytes rest → NoPieceBegins (shortest_start prefix) pieces rest →
    messages_of prefix (stream_of prefix pieces ++ rest) ≡ messages_in pieces

-- What is heard of a text is in the grammar. Of a text without the prefix nothing is heard.
abbrev pub what_is_heard_is_in_the_grammar : Type 0
what_is_heard_is_in_the_grammar =
    (prefix : Bool) (bytes : List ℕ) → IsBytes bytes →
    (pieces : List Piece) × (rest : List ℕ) × IsHeardAs prefix (prefix_of prefix ++ bytes) pieces rest

abbrev pub nothing_is_heard_without_the_prefix : Type 0
nothing_is_heard_without_the_prefix =
    (prefix : Bool) (text : List ℕ) → ((bytes : List ℕ) → text ≢ prefix_of prefix ++ bytes) → messages_of prefix text ≡ []

-- A fault stays, and nothing is heard after it.
abbrev pub a_fault_stays : Type 0
a_fault_stays =
    (prefix : Bool) (text more : List ℕ) (fault : Malformed) → fault_of prefix text ≡ Some fault → heard prefix (text ++ more) ≡ heard prefix text

-- Messages that were heard stay, and later ones follow them.
abbrev pub messages_stay : Type 0
messages_stay =
    (prefix : Bool) (text more : List ℕ) → (later : List Message) × (messages_of prefix (text ++ more) ≡ messages_of prefix text ++ later)

-- A text that shows a fault begins no stream of the grammar, however it goes on.
abbrev pub a_fault_is_outside_the_grammar : Type 0
a_fault_is_outside_the_grammar =
    (prefix : Bool) (text more : List ℕ) (pieces : List Piece) → fault_of prefix text ≢ None → IsStream (shortest_start prefix) pieces →
    text ++ more ≢ stream_of prefix pieces

-- The most bytes that a message may have come in: its frames, and a header of fourteen bytes for each.
abbrev pub most_bytes : ℕ
most_bytes = most_length + 14 * most_frames

-- the most bytes of a text without a fault: the prefix, the complete messages, the open chains, the message and the frame in progress
abbrev pub longest_text : ℕ
longest_text = 3 + most_bytes * (most_messages + most_chains + 1) + MAX_FRAME_LENGTH

-- Places stay small: a text without a fault is no longer than that.
abbrev pub texts_without_fault_are_bounded : Type 0
texts_without_fault_are_bounded = (prefix : Bool) (text : List ℕ) → fault_of prefix text ≡ None → length text ≤ longest_text
