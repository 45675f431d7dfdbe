-- How a client hears the answer to a get, and a refusal.
use Rattle.std.specs.Prelude.{◌≡◌, ℕ, ◌+◌, ◌<◌, ℤ, pos, false, List, [], ◌∷◌, ◌++◌, Some, None}
use Rattle.std.specs.Int.{w32}
use Rattle.std.specs.Int.RustNames.{FitsSigned}
use Rattle.grid_base.specs.declared.calls.Answer.TheVariants.{Maybe}
use Rattle.frame_codec.specs.declared.frames.Frame.{Frame}
use Rattle.fixed_fields.specs.Fields.{int32_at, int64_at, int32_bytes}
use Rattle.fixed_fields.specs.Replies.{reply_bytes}
use Rattle.fixed_fields.specs.Requests.{kind_of}
use Rattle.fixed_fields.specs.Responses.{unfragmented, final, last_null, single, head_bytes, response_head, error_bytes}
use Rattle.message_frames.specs.Assembly.{most_messages, first_payload}
use Rattle.message_frames.specs.Messages.{heard}
use Rattle.message_frames.specs.Writing.{IsWritable}
use Rattle.message_frames.specs.declared.message.Message.{Message}
use Rattle.map_codecs.specs.Calls.{get_kind}
use Rattle.grid_client.specs.Nears.{Value}
use Rattle.grid_client.specs.Calls.{correlation_of}
use Rattle.grid_client.specs.Messages.{value_of}
use Rattle.near_run_laws.specs.Maps.{value_in}

-- its type and its correlation
pub record HasHead (message : Message) (kind : ℕ) (correlation : ℤ) : Type 0 where
  pub kind_is : kind_of (first_payload message.frames) ≡ Some kind
  pub correlation_is : int64_at (first_payload message.frames) 4 ≡ Some correlation

abbrev pub IsOnly : List ℕ → Message → Type 0
IsOnly bytes message = heard false bytes ≡ record { messages = message ∷ []; fault = None }

-- ---- the answer to a get

abbrev pub value_frame : Value → Frame
value_frame None = record { flags = last_null; payload = [] }
value_frame (Some value) = record { flags = final; payload = value }

abbrev pub answer_frames : ℕ → Value → List Frame
answer_frames number value = record { flags = unfragmented; payload = response_head get_kind (correlation_of number) } ∷ value_frame value ∷ []

pub record IsAnswer (number : ℕ) (value : Value) (reply : List ℕ) (message : Message) : Type 0 where
  pub only : IsOnly reply message
  pub head : HasHead message (get_kind + 1) (correlation_of number)
  pub brings : value_of message ≡ Some value
  pub read : value_in reply ≡ Some value

-- The reply to a get is heard as one message, under its correlation, which brings the value.
abbrev pub EveryAnswerIsHeard : Type 0
EveryAnswerIsHeard = (number : ℕ) (value : Value) → number < most_messages → IsWritable (answer_frames number value)
    → IsAnswer number value (reply_bytes get_kind (correlation_of number) (Maybe value)) (record { frames = answer_frames number value })

-- ---- a refusal

abbrev pub refusal_frames : ℕ → ℤ → ℤ → List Frame
refusal_frames number code first = record { flags = single; payload = head_bytes 0 (correlation_of number) ++ int32_bytes code ++ int32_bytes first ++ int32_bytes (pos 0) } ∷ []

pub record IsRefusal (number : ℕ) (code : ℤ) (bytes : List ℕ) (message : Message) : Type 0 where
  pub only : IsOnly bytes message
  pub head : HasHead message 0 (correlation_of number)
  pub code_is : int32_at (first_payload message.frames) 13 ≡ Some code

abbrev pub EveryRefusalIsHeard : Type 0
EveryRefusalIsHeard = (number : ℕ) (code first : ℤ) → number < most_messages → FitsSigned w32 code
    → IsRefusal number code (error_bytes (correlation_of number) code first (pos 0)) (record { frames = refusal_frames number code first })
