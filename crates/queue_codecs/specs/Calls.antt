-- How a message is read as a call on a queue.
use Rattle.std.specs.Prelude.{ℕ, nat_lt, if◌then◌else◌, ℤ, pos, negsuc, List, [], ◌∷◌, drop, Option, Some, None, Result, Err}
use Rattle.std.specs.Option.{ok_or}
use Rattle.grid_base.specs.declared.TheConstants.{PARTITIONS}
use Rattle.grid_base.specs.declared.calls.QueueCall.{QueueCall}
use Rattle.grid_base.specs.declared.calls.QueueCall.TheVariants.{Offer, Poll, Peek, Size, RemainingCapacity, Clear}
use Rattle.grid_base.specs.declared.refusal.CallRefused.{CallRefused}
use Rattle.grid_base.specs.declared.refusal.CallRefused.TheVariants.{UnknownType, BadCall}
use Rattle.frame_codec.specs.declared.frames.Frame.{Frame}
use Rattle.fixed_fields.specs.Fields.{int32_at}
use Rattle.fixed_fields.specs.Requests.{◌>>=◌, Row, kind_of, data_in, text_in, reader_in}
use Rattle.message_frames.specs.Assembly.{first_payload}
use Rattle.message_frames.specs.declared.message.Message.{Message}

-- ---- types

-- A message type is service × 65,536 + method × 256 + kind: service 3 is that of queues, and kind 0 a request.
abbrev pub offer_kind : ℕ
offer_kind = 0x030100

abbrev pub size_kind : ℕ
size_kind = 0x030300

abbrev pub poll_kind : ℕ
poll_kind = 0x030500

abbrev pub peek_kind : ℕ
peek_kind = 0x030700

abbrev pub clear_kind : ℕ
clear_kind = 0x030f00

abbrev pub remaining_capacity_kind : ℕ
remaining_capacity_kind = 0x031300

-- ---- calls

-- the partition of a number, one from 0 to 270
abbrev pub partition_of : ℤ → Option ℕ
partition_of (pos number) = if nat_lt number PARTITIONS then Some number else None
partition_of (negsuc number) = None

-- A queue is in the partition that its calls state.
abbrev pub partition_in : List ℕ → Option ℕ
partition_in payload = do
  number ← int32_at payload 12
  partition_of number

-- what reads a call of one type, given the frames behind the first
abbrev pub Reader : Type 0
Reader = List Frame → Option QueueCall

-- The frames behind the first are the queue's name, and of an offer the value. Frames behind these are ignored.

abbrev pub named_in : (List ℕ → QueueCall) → Reader
named_in call frames = do
  name ← text_in frames
  Some (call name)

abbrev pub offer_in : Reader
offer_in frames = do
  name ← text_in frames
  value ← data_in (drop 1 frames)
  Some (Offer name value)

-- ---- the table of calls

abbrev row : ℕ → Reader → Row Reader
row kind reader = record { kind = kind; reader = reader }

abbrev pub queue_calls : List (Row Reader)
queue_calls =
    row offer_kind offer_in
    ∷ row size_kind (named_in Size)
    ∷ row poll_kind (named_in Poll)
    ∷ row peek_kind (named_in Peek)
    ∷ row clear_kind (named_in Clear)
    ∷ row remaining_capacity_kind (named_in RemainingCapacity)
    ∷ []

-- a call in its partition
abbrev pub placed_in : Reader → List ℕ → List Frame → Option QueueCall
placed_in reader payload frames = do
  partition ← partition_in payload
  reader frames

-- A call of which a part can't be read is a bad one.
abbrev pub call_by : List ℕ → List Frame → Option Reader → Result QueueCall CallRefused
call_by payload frames None = Err UnknownType
call_by payload frames (Some reader) = ok_or (placed_in reader payload frames) BadCall

-- the call which a message is, or why it is none
unfoldable pub queue_call_of : Message → Result QueueCall CallRefused
queue_call_of message =
    let payload = first_payload message.frames in
    call_by payload (drop 1 message.frames) (reader_in (kind_of payload) queue_calls)
