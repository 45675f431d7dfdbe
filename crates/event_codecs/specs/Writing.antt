-- Events as frames, and so as bytes.
use Rattle.std.specs.Prelude.{◌≡◌, ℕ, ◌^◌, ◌<◌, ℤ, pos, negsuc, Bool, true, false, List, [], ◌∷◌, ◌++◌, length, map, All, bit_or, Option, Some, None}
use Rattle.std.specs.Int.{w32, to_le_bytes}
use Rattle.grid_base.specs.declared.calls.Change.{Change}
use Rattle.frame_codec.specs.Laws.{IsWithinLimits, spelled}
use Rattle.frame_codec.specs.declared.frames.Frame.{Frame}
use Rattle.frame_codec.specs.declared.flags.TheConstants.{NULL}
use Rattle.fixed_fields.specs.Fields.{int32_bytes}
use Rattle.fixed_fields.specs.Replies.{flag_byte}
use Rattle.fixed_fields.specs.Responses.{final}
use Rattle.fixed_fields.specs.Spelled.{request_head}
use Rattle.partition_table.specs.Rows.{numbers_of}
use Rattle.partition_table.specs.declared.Row.{Row}
use Rattle.event_codecs.specs.Events.{entry_kind, invalidation_kind, rows_kind}
use Rattle.event_codecs.specs.declared.events.ClientEvent.{ClientEvent}
use Rattle.event_codecs.specs.declared.events.ClientEvent.TheVariants.{Entry}
use Rattle.event_codecs.specs.declared.seen.SeenRow.{SeenRow}

-- ---- frames

-- the flags of an unfragmented event's first frame, and of the frames that begin and end a list, the last one of the message
abbrev pub unfragmented_event : ℕ
unfragmented_event = 0xC200

abbrev pub begin_list : ℕ
begin_list = 0x1000

abbrev pub final_end_list : ℕ
final_end_list = 0x2800

abbrev pub frame : ℕ → List ℕ → Frame
frame flags payload = record { flags = flags; payload = payload }

-- a value, or that there is none
abbrev pub value_frame : ℕ → Option (List ℕ) → Frame
value_frame flags (Some value) = frame flags value
value_frame flags None = frame (bit_or flags NULL) []

-- An event begins as a request does: with its type, the correlation of the registration that it answers, and a partition. Its fields follow.
abbrev pub first_frame : ℕ → ℤ → ℤ → List ℕ → Frame
first_frame kind correlation partition fields = frame unfragmented_event (request_head kind correlation partition ++ fields)

-- ---- an entry's change

-- where no value is left: it had expired, or was removed
abbrev pub gone_kind : Bool → ℕ
gone_kind true = 16
gone_kind false = 2

-- 1 says that a value was added, 4 that it was updated
abbrev pub change_kind : Option (List ℕ) → Option (List ℕ) → Bool → ℕ
change_kind None new expired = 1
change_kind (Some old) (Some new) expired = 4
change_kind (Some old) None expired = gone_kind expired

abbrev pub kind_of_change : Change → ℕ
kind_of_change change = change_kind change.old change.new change.expired

-- Without values a listener is told of none.
abbrev pub told : Bool → Option (List ℕ) → Option (List ℕ)
told true value = value
told false value = None

-- ---- events

-- how the value changed; the key, the new value and the old one
abbrev pub entry_frames : ℤ → ℕ → Change → Bool → List Frame
entry_frames correlation partition change with_value =
    first_frame entry_kind correlation (pos partition) (int32_bytes (pos (kind_of_change change)))
    ∷ frame 0 change.key
    ∷ value_frame 0 (told with_value change.new)
    ∷ value_frame final (told with_value change.old)
    ∷ []

-- the event that a client reads of it
abbrev pub entry_event : ℤ → ℕ → Change → Bool → ClientEvent
entry_event correlation partition change with_value =
    Entry correlation (pos partition) (pos (kind_of_change change)) change.key (told with_value change.new) (told with_value change.old)

-- the version and the number; the map's name and the key
abbrev pub invalidation_frames : ℤ → ℕ → ℕ → ℕ → List ℕ → List ℕ → List Frame
invalidation_frames correlation partition version number name key =
    first_frame invalidation_kind correlation (pos partition) (to_le_bytes w32 version ++ to_le_bytes w32 number)
    ∷ frame 0 name
    ∷ frame final key
    ∷ []

-- a partition's row as a client is told it
abbrev pub seen : ℕ × Row → SeenRow
seen placed = record { partition = placed.0; version = placed.1.version; lost = placed.1.lost; members = numbers_of placed.1 }

-- the partition, the version, whether it is lost, how many members it has, and each of them
abbrev pub row_bytes : SeenRow → List ℕ
row_bytes row = to_le_bytes w32 row.partition ++ to_le_bytes w32 row.version ++ flag_byte row.lost ∷ length row.members ∷ row.members

abbrev pub row_frame : ℕ × Row → Frame
row_frame placed = frame 0 (row_bytes (seen placed))

-- -1 stands for the partition; a list of the rows, one a frame
abbrev pub rows_frames : ℤ → List (ℕ × Row) → List Frame
rows_frames correlation rows =
    first_frame rows_kind correlation (negsuc 0) []
    ∷ frame begin_list []
    ∷ map row_frame rows ++ frame final_end_list [] ∷ []

-- a row whose members a byte counts
abbrev pub IsCounted : ℕ × Row → Type 0
IsCounted placed = length placed.1.members < 2 ^ 8

-- ---- appending

-- These frames were appended, each within the limits of a frame.
pub record Appended (old new : List ℕ) (frames : List Frame) : Type 0 where
  pub bytes : new ≡ old ++ spelled frames
  pub limits : All IsWithinLimits frames
