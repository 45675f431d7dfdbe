-- How a message is read as an event that a client is sent unasked.
use Rattle.std.specs.Prelude.{ℕ, zero, suc, ◌==◌, ◌&&◌, Bool, true, false, if◌then◌else◌, List, [], ◌∷◌, length, drop, Option, Some, None, Result, Err, option_map, nat_lt, nat_le}
use Rattle.std.specs.Option.{ok_or}
use Rattle.std.specs.Result.{result_ok}
use Rattle.std.specs.Int.{w32, cast_unsigned}
use Rattle.grid_base.specs.declared.TheConstants.{PARTITIONS}
use Rattle.grid_base.specs.declared.refusal.CallRefused.{CallRefused}
use Rattle.grid_base.specs.declared.refusal.CallRefused.TheVariants.{UnknownType, BadCall}
use Rattle.frame_codec.specs.declared.frames.Frame.{Frame}
use Rattle.fixed_fields.specs.Fields.{byte_at, int32_at, int64_at}
use Rattle.fixed_fields.specs.Frames.{next_nullable}
use Rattle.fixed_fields.specs.Requests.{◌>>=◌, Row, kind_of, data_in, text_in, reader_in}
use Rattle.fixed_fields.specs.Structures.{opens, closes}
use Rattle.message_frames.specs.Assembly.{first_payload}
use Rattle.message_frames.specs.declared.message.Message.{Message}
use Rattle.event_codecs.specs.declared.events.ClientEvent.{ClientEvent}
use Rattle.event_codecs.specs.declared.events.ClientEvent.TheVariants.{Entry, Invalidation, Rows}
use Rattle.event_codecs.specs.declared.seen.SeenRow.{SeenRow}

-- ---- types

-- A message type is service × 65,536 + method × 256 + kind: service 0 is that of the client itself, service 1 that of maps.
-- Kinds 2 and 3 are events.
abbrev pub entry_kind : ℕ
entry_kind = 0x011902

abbrev pub invalidation_kind : ℕ
invalidation_kind = 0x013f02

abbrev pub rows_kind : ℕ
rows_kind = 0x000303

-- ---- parts

-- a number without a sign
abbrev pub number_at : List ℕ → ℕ → Option ℕ
number_at payload at = option_map (cast_unsigned w32) (int32_at payload at)

-- a mark is the byte 1 for yes, or 0 for no
abbrev pub mark_of : ℕ → Option Bool
mark_of zero = Some false
mark_of (suc zero) = Some true
mark_of (suc (suc more)) = None

abbrev pub mark_at : List ℕ → ℕ → Option Bool
mark_at payload at = byte_at payload at >>= mark_of

-- a value, or that there is none
abbrev pub value_in : List Frame → Option (Option (List ℕ))
value_in frames = result_ok (next_nullable frames)

-- A key has at least the eight bytes before its content.
abbrev pub key_in : List Frame → Option (List ℕ)
key_in frames = do
  key ← data_in frames
  if nat_le 8 (length key) then Some key else None

-- ---- rows

-- a partition that there is, and as many members as are counted
abbrev pub is_row : ℕ → ℕ → List ℕ → Bool
is_row partition count members = nat_lt partition PARTITIONS && (length members == count)

-- A row has its partition, its version, whether it is lost, how many members it has, and a byte for each of them.
abbrev pub row_of : List ℕ → Option SeenRow
row_of bytes = do
  partition ← number_at bytes 0
  version ← number_at bytes 4
  lost ← mark_at bytes 8
  count ← byte_at bytes 9
  let members = drop 10 bytes in
      if is_row partition count members then Some (record { partition = partition; version = version; lost = lost; members = members }) else None

-- The rows up to the frame that ends their list, one a frame.
abbrev pub rows_until_end : List Frame → Option (List SeenRow)
rows_until_end [] = None
rows_until_end (frame ∷ frames) = if closes frame then Some [] else do
  bytes ← data_in (frame ∷ frames)
  row ← row_of bytes
  rows ← rows_until_end frames
  Some (row ∷ rows)

-- the rows of the list that comes first
abbrev pub rows_in : List Frame → Option (List SeenRow)
rows_in [] = None
rows_in (frame ∷ frames) = if opens frame then rows_until_end frames else None

-- ---- events

-- what reads an event of one type, given the first payload and the frames behind it
abbrev pub Reader : Type 0
Reader = List ℕ → List Frame → Option ClientEvent

-- The first payload has the correlation and the partition, and then the fields of the event.
-- Bytes behind the last field and frames behind the last part are ignored.

abbrev pub entry_in : Reader
entry_in payload frames = do
  correlation ← int64_at payload 4
  partition ← int32_at payload 12
  kind ← int32_at payload 16
  key ← key_in frames
  new ← value_in (drop 1 frames)
  old ← value_in (drop 1 (drop 1 frames))
  Some (Entry correlation partition kind key new old)

abbrev pub invalidation_in : Reader
invalidation_in payload frames = do
  correlation ← int64_at payload 4
  partition ← int32_at payload 12
  version ← number_at payload 16
  number ← number_at payload 20
  name ← text_in frames
  key ← key_in (drop 1 frames)
  Some (Invalidation correlation partition version number name key)

-- The partition has to be there, and isn't looked at.
abbrev pub rows_event_in : Reader
rows_event_in payload frames = do
  correlation ← int64_at payload 4
  partition ← int32_at payload 12
  rows ← rows_in frames
  Some (Rows correlation rows)

-- ---- the table of events

abbrev row : ℕ → Reader → Row Reader
row kind reader = record { kind = kind; reader = reader }

abbrev pub events : List (Row Reader)
events = row entry_kind entry_in ∷ row invalidation_kind invalidation_in ∷ row rows_kind rows_event_in ∷ []

-- An event of which a part can't be read is a bad one.
abbrev pub event_by : List ℕ → List Frame → Option Reader → Result ClientEvent CallRefused
event_by payload frames None = Err UnknownType
event_by payload frames (Some reader) = ok_or (reader payload frames) BadCall

-- the event that a message is, or why it is none
unfoldable pub event_of : Message → Result ClientEvent CallRefused
event_of message =
    let payload = first_payload message.frames in
    event_by payload (drop 1 message.frames) (reader_in (kind_of payload) events)
