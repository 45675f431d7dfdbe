-- How a message is read as a call on a map's entry.
use Rattle.std.specs.Prelude.{ℕ, if◌then◌else◌, ℤ, List, [], ◌∷◌, length, drop, Option, Some, None, Result, Err, nat_le}
use Rattle.std.specs.Option.{ok_or}
use Rattle.grid_base.specs.declared.names.ClientKey.{ClientKey}
use Rattle.grid_base.specs.declared.names.Owner.{Owner}
use Rattle.grid_base.specs.declared.calls.MapCall.{MapCall}
use Rattle.grid_base.specs.declared.calls.MapCall.TheVariants.{Put, Set, PutIfAbsent, Get, ContainsKey, Remove, Delete, Replace, ReplaceIfSame, RemoveIfSame, TryLock, Unlock, IsLocked, ForceUnlock, ExecuteOnKey, PutMaxIdle, SetMaxIdle}
use Rattle.grid_base.specs.declared.refusal.CallRefused.{CallRefused}
use Rattle.grid_base.specs.declared.refusal.CallRefused.TheVariants.{UnknownType, BadCall}
use Rattle.frame_codec.specs.declared.frames.Frame.{Frame}
use Rattle.fixed_fields.specs.Fields.{int32_at, int64_at}
use Rattle.fixed_fields.specs.Requests.{◌>>=◌, Row, kind_of, data_in, text_in, reader_in}
use Rattle.message_frames.specs.Assembly.{first_payload}
use Rattle.message_frames.specs.declared.message.Message.{Message}

-- ---- types

-- A message type is service × 65,536 + method × 256 + kind: service 1 is that of maps, and kind 0 a request.
abbrev pub put_kind : ℕ
put_kind = 0x010100

abbrev pub get_kind : ℕ
get_kind = 0x010200

abbrev pub remove_kind : ℕ
remove_kind = 0x010300

abbrev pub replace_kind : ℕ
replace_kind = 0x010400

abbrev pub replace_if_same_kind : ℕ
replace_if_same_kind = 0x010500

abbrev pub contains_key_kind : ℕ
contains_key_kind = 0x010600

abbrev pub remove_if_same_kind : ℕ
remove_if_same_kind = 0x010800

abbrev pub delete_kind : ℕ
delete_kind = 0x010900

abbrev pub put_if_absent_kind : ℕ
put_if_absent_kind = 0x010e00

abbrev pub set_kind : ℕ
set_kind = 0x010f00

abbrev pub try_lock_kind : ℕ
try_lock_kind = 0x011100

abbrev pub is_locked_kind : ℕ
is_locked_kind = 0x011200

abbrev pub unlock_kind : ℕ
unlock_kind = 0x011300

abbrev pub execute_on_key_kind : ℕ
execute_on_key_kind = 0x012e00

abbrev pub force_unlock_kind : ℕ
force_unlock_kind = 0x013300

abbrev pub put_max_idle_kind : ℕ
put_max_idle_kind = 0x016000

abbrev pub set_max_idle_kind : ℕ
set_max_idle_kind = 0x016100

-- ---- parts

-- A caller is a thread of the client whose connection it is.
abbrev pub owner_in : ClientKey → List ℕ → Option Owner
owner_in client payload = do
  thread ← int64_at payload 16
  Some (record { client = client; thread = thread })

-- A key has at least the eight bytes before its content.
abbrev pub key_in : List Frame → Option (List ℕ)
key_in frames = do
  key ← data_in frames
  if nat_le 8 (length key) then Some key else None

-- a processor's number, and what it is given
pub record Processor : Type 0 where
  pub number : ℤ
  pub argument : List ℕ

-- The number is the first four bytes of a frame, and the argument the others.
abbrev pub processor_in : List Frame → Option Processor
processor_in frames = do
  bytes ← data_in frames
  number ← int32_at bytes 0
  Some (record { number = number; argument = drop 4 bytes })

-- ---- calls

-- what reads a call of one type, given the client, the first payload and the frames behind it
abbrev pub Reader : Type 0
Reader = ClientKey → List ℕ → List Frame → Option MapCall

-- The frames behind the first are the map's name, the key, and what else the call brings.
-- The first payload has the caller's thread behind its head, then the time to live or the lease, then the max idle time.
-- Bytes behind the last field and frames behind the last part are ignored.

-- a call of an entry alone
abbrev pub bare_in : (List ℕ → List ℕ → MapCall) → Reader
bare_in call client payload frames = do
  name ← text_in frames
  key ← key_in (drop 1 frames)
  Some (call name key)

-- a caller's call
abbrev pub keyed_in : (List ℕ → List ℕ → Owner → MapCall) → Reader
keyed_in call client payload frames = do
  owner ← owner_in client payload
  name ← text_in frames
  key ← key_in (drop 1 frames)
  Some (call name key owner)

-- a lock's, with a lease
abbrev pub leased_in : (List ℕ → List ℕ → Owner → ℤ → MapCall) → Reader
leased_in call client payload frames = do
  owner ← owner_in client payload
  lease ← int64_at payload 24
  name ← text_in frames
  key ← key_in (drop 1 frames)
  Some (call name key owner lease)

-- with a value
abbrev pub valued_in : (List ℕ → List ℕ → Owner → List ℕ → MapCall) → Reader
valued_in call client payload frames = do
  owner ← owner_in client payload
  name ← text_in frames
  key ← key_in (drop 1 frames)
  value ← data_in (drop 1 (drop 1 frames))
  Some (call name key owner value)

-- with a value to compare with, and another one
abbrev pub compared_in : (List ℕ → List ℕ → Owner → List ℕ → List ℕ → MapCall) → Reader
compared_in call client payload frames = do
  owner ← owner_in client payload
  name ← text_in frames
  key ← key_in (drop 1 frames)
  test ← data_in (drop 1 (drop 1 frames))
  value ← data_in (drop 1 (drop 1 (drop 1 frames)))
  Some (call name key owner test value)

-- with a value and its time to live
abbrev pub stored_in : (List ℕ → List ℕ → Owner → List ℕ → ℤ → MapCall) → Reader
stored_in call client payload frames = do
  owner ← owner_in client payload
  ttl ← int64_at payload 24
  name ← text_in frames
  key ← key_in (drop 1 frames)
  value ← data_in (drop 1 (drop 1 frames))
  Some (call name key owner value ttl)

-- and with its max idle time
abbrev pub idle_in : (List ℕ → List ℕ → Owner → List ℕ → ℤ → ℤ → MapCall) → Reader
idle_in call client payload frames = do
  owner ← owner_in client payload
  ttl ← int64_at payload 24
  idle ← int64_at payload 32
  name ← text_in frames
  key ← key_in (drop 1 frames)
  value ← data_in (drop 1 (drop 1 frames))
  Some (call name key owner value ttl idle)

-- with a processor, which stands before the key
abbrev pub executed_in : Reader
executed_in client payload frames = do
  owner ← owner_in client payload
  name ← text_in frames
  processor ← processor_in (drop 1 frames)
  key ← key_in (drop 1 (drop 1 frames))
  Some (ExecuteOnKey name key owner processor.number processor.argument)

-- ---- the table of calls

abbrev row : ℕ → Reader → Row Reader
row kind reader = record { kind = kind; reader = reader }

abbrev pub map_calls : List (Row Reader)
map_calls =
    row put_kind (stored_in Put)
    ∷ row get_kind (keyed_in Get)
    ∷ row remove_kind (keyed_in Remove)
    ∷ row replace_kind (valued_in Replace)
    ∷ row replace_if_same_kind (compared_in ReplaceIfSame)
    ∷ row contains_key_kind (keyed_in ContainsKey)
    ∷ row remove_if_same_kind (valued_in RemoveIfSame)
    ∷ row delete_kind (keyed_in Delete)
    ∷ row put_if_absent_kind (stored_in PutIfAbsent)
    ∷ row set_kind (stored_in Set)
    ∷ row try_lock_kind (leased_in TryLock)
    ∷ row is_locked_kind (bare_in IsLocked)
    ∷ row unlock_kind (keyed_in Unlock)
    ∷ row execute_on_key_kind executed_in
    ∷ row force_unlock_kind (bare_in ForceUnlock)
    ∷ row put_max_idle_kind (idle_in PutMaxIdle)
    ∷ row set_max_idle_kind (idle_in SetMaxIdle)
    ∷ []

-- A call of which a part can't be read is a bad one.
abbrev pub call_by : ClientKey → List ℕ → List Frame → Option Reader → Result MapCall CallRefused
call_by client payload frames None = Err UnknownType
call_by client payload frames (Some reader) = ok_or (reader client payload frames) BadCall

-- the call of that client which a message is, or why it is none
unfoldable pub map_call_of : ClientKey → Message → Result MapCall CallRefused
map_call_of client message =
    let payload = first_payload message.frames in
    call_by client payload (drop 1 message.frames) (reader_in (kind_of payload) map_calls)
