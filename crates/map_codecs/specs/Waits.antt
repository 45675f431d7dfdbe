-- How a message is read as a call on a map's entry that may wait.
use Rattle.std.specs.Prelude.{ℕ, ℤ, List, [], ◌∷◌, drop, Option, Some, None, Result, Err}
use Rattle.std.specs.Option.{ok_or}
use Rattle.grid_base.specs.declared.names.ClientKey.{ClientKey}
use Rattle.grid_base.specs.declared.calls.MapCall.{MapCall}
use Rattle.grid_base.specs.declared.calls.MapCall.TheVariants.{Put, TryLock}
use Rattle.grid_base.specs.declared.refusal.CallRefused.{CallRefused}
use Rattle.grid_base.specs.declared.refusal.CallRefused.TheVariants.{UnknownType, BadCall}
use Rattle.frame_codec.specs.declared.frames.Frame.{Frame}
use Rattle.fixed_fields.specs.Fields.{int64_at}
use Rattle.fixed_fields.specs.Requests.{◌>>=◌, Row, kind_of, reader_in}
use Rattle.message_frames.specs.Assembly.{first_payload}
use Rattle.message_frames.specs.declared.message.Message.{Message}
use Rattle.map_codecs.specs.Calls.{Reader, leased_in, stored_in}

abbrev pub lock_wait_kind : ℕ
lock_wait_kind = 0x018000

abbrev pub put_wait_kind : ℕ
put_wait_kind = 0x018100

-- a call, and for how long it may wait
abbrev pub Wait : Type 0
Wait = MapCall × ℤ

abbrev row : ℕ → Reader → Row Reader
row kind reader = record { kind = kind; reader = reader }

-- each type, with what reads its plain call
abbrev pub map_waits : List (Row Reader)
map_waits = row lock_wait_kind (leased_in TryLock) ∷ row put_wait_kind (stored_in Put) ∷ []

-- A waiting call has the fields and the frames of its plain call, and the timeout behind the fields.
abbrev pub waiting_in : Reader → ClientKey → List ℕ → List Frame → Option Wait
waiting_in reader client payload frames = do
  timeout ← int64_at payload 32
  call ← reader client payload frames
  Some (call, timeout)

-- One of which a part can't be read is a bad call.
abbrev pub wait_by : ClientKey → List ℕ → List Frame → Option Reader → Result Wait CallRefused
wait_by client payload frames None = Err UnknownType
wait_by client payload frames (Some reader) = ok_or (waiting_in reader client payload frames) BadCall

-- the waiting call of that client which a message is, or why it is none
unfoldable pub map_wait_of : ClientKey → Message → Result Wait CallRefused
map_wait_of client message =
    let payload = first_payload message.frames in
    wait_by client payload (drop 1 message.frames) (reader_in (kind_of payload) map_waits)
