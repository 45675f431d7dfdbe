-- Calls as the messages that ask for them.
use Rattle.std.specs.Prelude.{ℕ, ℤ, pos, List, []}
use Rattle.grid_base.specs.declared.names.ClientKey.TheVariants.{Known}
use Rattle.grid_base.specs.declared.calls.GridCall.{GridCall}
use Rattle.grid_base.specs.declared.calls.GridCall.TheVariants.{Map, Queue}
use Rattle.frame_codec.specs.Laws.{spelled}
use Rattle.message_frames.specs.Writing.{IsWritable}
use Rattle.message_frames.specs.declared.message.Message.{Message}
use Rattle.map_codecs.specs.SpelledCalls as map
use Rattle.queue_codecs.specs.SpelledCalls as queue
use Rattle.session_core.specs.Places.{BelongsTo}

-- the message type
abbrev pub kind_of_call : GridCall → ℕ
kind_of_call (Map call) = map.kind_of_call call
kind_of_call (Queue call) = queue.kind_of_call call

-- the message that asks for a call in a partition
abbrev pub request : ℤ → ℕ → GridCall → Message
request correlation partition (Map call) = map.call_message correlation (pos partition) call [] []
request correlation partition (Queue call) = queue.call_message correlation partition call [] []

abbrev pub request_bytes : ℤ → ℕ → GridCall → List ℕ
request_bytes correlation partition call = spelled (request correlation partition call).frames

-- a call that the grid reads as it is
abbrev pub IsReadFrom : ℕ → GridCall → Type 0
IsReadFrom client (Map call) = map.IsCallOf (Known client) call
IsReadFrom client (Queue call) = queue.IsCall call

-- A client may ask for a call in a partition: its message fits, the grid reads it as this call, and it belongs there.
pub record MayBeAsked (client partition : ℕ) (call : GridCall) : Type 0 where
  pub fits : (correlation : ℤ) → IsWritable (request correlation partition call).frames
  pub read : IsReadFrom client call
  pub placed : BelongsTo call partition
