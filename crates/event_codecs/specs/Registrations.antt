-- How a message is read as a registration: what a client asks a member to tell it from now on.
use Rattle.std.specs.Prelude.{ℕ, ◌==◌, Bool, not, List, [], ◌∷◌, drop, Option, Some, None, Result, Err}
use Rattle.std.specs.Option.{ok_or}
use Rattle.grid_base.specs.declared.refusal.CallRefused.{CallRefused}
use Rattle.grid_base.specs.declared.refusal.CallRefused.TheVariants.{UnknownType, BadCall}
use Rattle.frame_codec.specs.declared.frames.Frame.{Frame}
use Rattle.fixed_fields.specs.Fields.{byte_at, int32_at, int64_at}
use Rattle.fixed_fields.specs.Requests.{◌>>=◌, Row, kind_of, text_in, reader_in}
use Rattle.message_frames.specs.Assembly.{first_payload}
use Rattle.message_frames.specs.declared.message.Message.{Message}
use Rattle.event_codecs.specs.declared.registration.Registration.{Registration}
use Rattle.event_codecs.specs.declared.registration.Registration.TheVariants.{Entries, Invalidations, Rows}

-- ---- types

-- As with the events, but for the kind: 0 is a request.
abbrev pub entry_listener_kind : ℕ
entry_listener_kind = 0x011900

abbrev pub invalidation_listener_kind : ℕ
invalidation_listener_kind = 0x013f00

abbrev pub cluster_view_kind : ℕ
cluster_view_kind = 0x000300

-- ---- registrations

-- Any byte but 0 says yes.
abbrev pub says_yes : ℕ → Bool
says_yes byte = not (byte == 0)

-- what reads a registration of one type, given the first payload and the frames behind it
abbrev pub Reader : Type 0
Reader = List ℕ → List Frame → Option Registration

-- The first payload has the correlation and the partition, which has to be there and isn't looked at, and the frame behind it the map's name.
-- Bytes and frames behind these are ignored.

-- with a byte that says whether the listener wants values
abbrev pub entries_in : Reader
entries_in payload frames = do
  correlation ← int64_at payload 4
  partition ← int32_at payload 12
  byte ← byte_at payload 16
  name ← text_in frames
  Some (Entries correlation name (says_yes byte))

abbrev pub invalidations_in : Reader
invalidations_in payload frames = do
  correlation ← int64_at payload 4
  partition ← int32_at payload 12
  name ← text_in frames
  Some (Invalidations correlation name)

-- Rows are of no map.
abbrev pub rows_in : Reader
rows_in payload frames = do
  correlation ← int64_at payload 4
  partition ← int32_at payload 12
  Some (Rows correlation)

-- ---- the table of registrations

abbrev row : ℕ → Reader → Row Reader
row kind reader = record { kind = kind; reader = reader }

abbrev pub registrations : List (Row Reader)
registrations = row entry_listener_kind entries_in ∷ row invalidation_listener_kind invalidations_in ∷ row cluster_view_kind rows_in ∷ []

-- A registration of which a part can't be read is a bad one.
abbrev pub registration_by : List ℕ → List Frame → Option Reader → Result Registration CallRefused
registration_by payload frames None = Err UnknownType
registration_by payload frames (Some reader) = ok_or (reader payload frames) BadCall

-- the registration that a message is, or why it is none
unfoldable pub registration_of : Message → Result Registration CallRefused
registration_of message =
    let payload = first_payload message.frames in
    registration_by payload (drop 1 message.frames) (reader_in (kind_of payload) registrations)
