-- How a message is read as a call on a queue that may wait.
use Rattle.std.specs.Prelude.{ℕ, ℤ, List, [], ◌∷◌, drop, Option, Some, None, Result, Err}
use Rattle.std.specs.Option.{ok_or}
use Rattle.grid_base.specs.declared.calls.QueueCall.{QueueCall}
use Rattle.grid_base.specs.declared.calls.QueueCall.TheVariants.{Poll}
use Rattle.grid_base.specs.declared.refusal.CallRefused.{CallRefused}
use Rattle.grid_base.specs.declared.refusal.CallRefused.TheVariants.{UnknownType, BadCall}
use Rattle.frame_codec.specs.declared.frames.Frame.{Frame}
use Rattle.fixed_fields.specs.Fields.{int64_at}
use Rattle.fixed_fields.specs.Requests.{◌>>=◌, Row, kind_of, reader_in}
use Rattle.message_frames.specs.Assembly.{first_payload}
use Rattle.message_frames.specs.declared.message.Message.{Message}
use Rattle.queue_codecs.specs.Calls.{Reader, named_in, offer_in, placed_in}

abbrev pub offer_wait_kind : ℕ
offer_wait_kind = 0x038000

abbrev pub poll_wait_kind : ℕ
poll_wait_kind = 0x038100

-- a call, and for how long it may wait
abbrev pub Wait : Type 0
Wait = QueueCall × ℤ

abbrev row : ℕ → Reader → Row Reader
row kind reader = record { kind = kind; reader = reader }

-- each type, with what reads its plain call
abbrev pub queue_waits : List (Row Reader)
queue_waits = row offer_wait_kind offer_in ∷ row poll_wait_kind (named_in Poll) ∷ []

-- A waiting call has the frames of its plain call, and the timeout behind the partition.
abbrev pub waiting_in : Reader → List ℕ → List Frame → Option Wait
waiting_in reader payload frames = do
  timeout ← int64_at payload 16
  call ← placed_in reader payload frames
  Some (call, timeout)

-- One of which a part can't be read is a bad call.
abbrev pub wait_by : List ℕ → List Frame → Option Reader → Result Wait CallRefused
wait_by payload frames None = Err UnknownType
wait_by payload frames (Some reader) = ok_or (waiting_in reader payload frames) BadCall

-- the waiting call which a message is, or why it is none
unfoldable pub queue_wait_of : Message → Result Wait CallRefused
queue_wait_of message =
    let payload = first_payload message.frames in
    wait_by payload (drop 1 message.frames) (reader_in (kind_of payload) queue_waits)
