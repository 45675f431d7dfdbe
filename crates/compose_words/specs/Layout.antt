-- How a message is laid out: its first payload, and the parts of the frames behind it.
use Rattle.std.specs.Prelude.{◌≡◌, ℕ, ◌^◌, ◌<◌, ◌≤◌, ℤ, pos, List, [], ◌∷◌, ◌++◌, length, All, IfSome, ⊤}
use Rattle.std.specs.Int.{w32, w64}
use Rattle.std.specs.Int.RustNames.{FitsSigned}
use Rattle.grid_base.specs.Names.{key_of}
use Rattle.frame_codec.specs.Laws.{IsWithinLimits, spelled}
use Rattle.frame_codec.specs.declared.frames.Frame.{Frame}
use Rattle.frame_codec.specs.declared.frames.TheConstants.{MAX_PAYLOAD}
use Rattle.fixed_fields.specs.Fields.{int64_bytes, uuid_bytes}
use Rattle.fixed_fields.specs.Spelled.{request_head, with_parts}
use Rattle.client_codecs.specs.Authentications.{authentication_kind, ping_kind}
use Rattle.map_codecs.specs.SpelledCalls as maps
use Rattle.map_codecs.specs.SpelledWaits.{wait_fields}
use Rattle.queue_codecs.specs.SpelledCalls as queues
use Rattle.session_core.specs.Places.{partition_of_key}
use Rattle.compose_words.specs.Sayings.{no_partition, version, first_flags}
use Rattle.compose_words.specs.declared.saying.Saying.{Saying}
use Rattle.compose_words.specs.declared.saying.Saying.TheVariants.{Hello, Ping, OnMap, OnQueue, WaitOnMap, WaitOnQueue, Listen}
use Rattle.compose_words.specs.Waits.{plain_of, plain_of_queue, kind_of_map_wait, kind_of_queue_wait}
use Rattle.compose_words.specs.Listenings.{kind_of_listening, listening_fields, listening_parts}

abbrev pub kind_of : Saying → ℕ
kind_of (Hello authentication) = authentication_kind
kind_of Ping = ping_kind
kind_of (OnMap call) = maps.kind_of_call call
kind_of (OnQueue partition call) = queues.kind_of_call call
kind_of (WaitOnMap wait timeout) = kind_of_map_wait wait
kind_of (WaitOnQueue partition wait timeout) = kind_of_queue_wait wait
kind_of (Listen listening) = kind_of_listening listening

abbrev pub partition_of : Saying → ℤ
partition_of (Hello authentication) = no_partition
partition_of Ping = no_partition
partition_of (OnMap call) = pos (partition_of_key (key_of call))
partition_of (OnQueue partition call) = pos partition
partition_of (WaitOnMap wait timeout) = pos (partition_of_key (key_of (plain_of wait)))
partition_of (WaitOnQueue partition wait timeout) = pos partition
partition_of (Listen listening) = no_partition

-- the fields behind the head of a request
abbrev pub fields_of : Saying → List ℕ
fields_of (Hello authentication) = uuid_bytes authentication.client ++ version ∷ []
fields_of Ping = []
fields_of (OnMap call) = maps.call_fields call
fields_of (OnQueue partition call) = []
fields_of (WaitOnMap wait timeout) = wait_fields (plain_of wait, timeout)
fields_of (WaitOnQueue partition wait timeout) = int64_bytes timeout
fields_of (Listen listening) = listening_fields listening

-- what the frames behind the first hold
abbrev pub parts_of : Saying → List (List ℕ)
parts_of (Hello authentication) = authentication.name ∷ []
parts_of Ping = []
parts_of (OnMap call) = maps.parts_of call
parts_of (OnQueue partition call) = queues.parts_of call
parts_of (WaitOnMap wait timeout) = maps.parts_of (plain_of wait)
parts_of (WaitOnQueue partition wait timeout) = queues.parts_of (plain_of_queue wait)
parts_of (Listen listening) = listening_parts listening

abbrev pub payload_of : ℤ → Saying → List ℕ
payload_of correlation saying = request_head (kind_of saying) correlation (partition_of saying) ++ fields_of saying

abbrev pub frames_with : List ℕ → List (List ℕ) → List Frame
frames_with payload parts = record { flags = first_flags parts; payload = payload } ∷ with_parts parts []

abbrev pub inner_frame : List ℕ → Frame
inner_frame part = record { flags = 0; payload = part }

-- ---- what a message of its layout keeps to

-- The numbers of a saying are those of their types.
abbrev pub NumbersFit : Saying → Type 0
NumbersFit (Hello authentication) = IfSome authentication.client (λ number. number < 2 ^ 128)
NumbersFit Ping = ⊤
NumbersFit (OnMap call) = All (FitsSigned w64) (maps.numbers_of call) × IfSome (maps.processor_of call) (FitsSigned w32)
NumbersFit (OnQueue partition call) = ⊤
NumbersFit (WaitOnMap wait timeout) = All (FitsSigned w64) (maps.numbers_of (plain_of wait)) × FitsSigned w64 timeout
NumbersFit (WaitOnQueue partition wait timeout) = FitsSigned w64 timeout
NumbersFit (Listen listening) = ⊤

-- These frames were appended, each within the limits of a frame.
pub record Appended (old new : List ℕ) (frames : List Frame) : Type 0 where
  pub bytes : new ≡ old ++ spelled frames
  pub limits : All IsWithinLimits frames

-- A part is no longer than a frame can be.
abbrev pub IsShort : List ℕ → Type 0
IsShort part = length part ≤ MAX_PAYLOAD
