-- What is said, and the message that says it.
use Rattle.std.specs.Prelude.{ℕ, ◌<◌, ◌≤◌, ℤ, pos, negsuc, List, [], ◌∷◌, ◌++◌, length, All, IsTrue, ⊤}
use Rattle.std.specs.Str.{IsUtf8}
use Rattle.grid_base.specs.Names.{map_of, key_of, queue_of}
use Rattle.grid_base.specs.declared.TheConstants.{PARTITIONS}
use Rattle.frame_codec.specs.Laws.{IsWithinLimits}
use Rattle.frame_codec.specs.declared.frames.Frame.{Frame}
use Rattle.fixed_fields.specs.Responses.{single, unfragmented}
use Rattle.fixed_fields.specs.Spelled.{request_head, with_parts}
use Rattle.message_frames.specs.Grammar.{Unfragmented, piece_bytes}
use Rattle.message_frames.specs.Merging.{fits}
use Rattle.message_frames.specs.declared.message.Message.{Message}
use Rattle.client_codecs.specs.Authentications.{ping_kind}
use Rattle.client_codecs.specs.SpelledAuthentications.{authentication_message}
use Rattle.map_codecs.specs.SpelledCalls as maps
use Rattle.map_codecs.specs.SpelledWaits as map_waits
use Rattle.queue_codecs.specs.SpelledCalls as queues
use Rattle.queue_codecs.specs.SpelledWaits as queue_waits
use Rattle.session_core.specs.Places.{partition_of_key}
use Rattle.compose_words.specs.declared.saying.Saying.{Saying}
use Rattle.compose_words.specs.declared.saying.Saying.TheVariants.{Hello, Ping, OnMap, OnQueue, WaitOnMap, WaitOnQueue, Listen}
use Rattle.compose_words.specs.declared.saying.Listening.{Listening}
use Rattle.compose_words.specs.Waits.{plain_of, plain_of_queue, kind_of_map_wait, kind_of_queue_wait}
use Rattle.compose_words.specs.Listenings.{kind_of_listening, listening_fields, listening_parts, IsNamedListening}

-- where a message states no partition
abbrev pub no_partition : ℤ
no_partition = negsuc 0

-- A message of one frame begins and ends with it.
abbrev pub first_flags : List (List ℕ) → ℕ
first_flags [] = single
first_flags (part ∷ parts) = unfragmented

-- the version of a client's serialization
abbrev pub version : ℕ
version = 1

-- a registration's message, of one frame where it is about no map
abbrev pub listening_message : ℤ → Listening → Message
listening_message correlation listening =
    let payload = request_head (kind_of_listening listening) correlation no_partition ++ listening_fields listening in
    record { frames = record { flags = first_flags (listening_parts listening); payload = payload } ∷ with_parts (listening_parts listening) [] }

-- The message that a client sends, with nothing behind its fields and its parts. A call on an entry states the partition of its key.
abbrev pub message_of : ℤ → Saying → Message
message_of correlation (Hello authentication) = authentication_message correlation no_partition version authentication [] []
message_of correlation Ping = record { frames = record { flags = single; payload = request_head ping_kind correlation no_partition } ∷ [] }
message_of correlation (OnMap call) = maps.call_message correlation (pos (partition_of_key (key_of call))) call [] []
message_of correlation (OnQueue partition call) = queues.call_message correlation partition call [] []
message_of correlation (WaitOnMap wait timeout) =
    map_waits.wait_message correlation (pos (partition_of_key (key_of (plain_of wait)))) (kind_of_map_wait wait) (plain_of wait, timeout) [] []
message_of correlation (WaitOnQueue partition wait timeout) =
    queue_waits.wait_message correlation partition (kind_of_queue_wait wait) (plain_of_queue wait, timeout) [] []
message_of correlation (Listen listening) = listening_message correlation listening

-- as bytes, in one piece
abbrev pub bytes_of : ℤ → Saying → List ℕ
bytes_of correlation saying = piece_bytes (Unfragmented (message_of correlation saying).frames)

-- ---- what can be said

-- A queue is in one of the grid's partitions.
abbrev pub IsPlaced : Saying → Type 0
IsPlaced (OnQueue partition call) = partition < PARTITIONS
IsPlaced (WaitOnQueue partition wait timeout) = partition < PARTITIONS
IsPlaced saying = ⊤

-- A name, of the cluster, the map or the queue, is a text.
abbrev pub IsNamed : Saying → Type 0
IsNamed (Hello authentication) = IsUtf8 authentication.name
IsNamed Ping = ⊤
IsNamed (OnMap call) = IsUtf8 (map_of call)
IsNamed (OnQueue partition call) = IsUtf8 (queue_of call)
IsNamed (WaitOnMap wait timeout) = IsUtf8 (map_of (plain_of wait))
IsNamed (WaitOnQueue partition wait timeout) = IsUtf8 (queue_of (plain_of_queue wait))
IsNamed (Listen listening) = IsNamedListening listening

-- A key has at least the eight bytes before its content.
abbrev pub IsKeyed : Saying → Type 0
IsKeyed (OnMap call) = 8 ≤ length (key_of call)
IsKeyed (WaitOnMap wait timeout) = 8 ≤ length (key_of (plain_of wait))
IsKeyed saying = ⊤

-- Each frame is within its limits, and all together within those of a message.
pub record FitMessage (frames : List Frame) : Type 0 where
  pub each : All IsWithinLimits frames
  pub all : IsTrue (fits frames)
