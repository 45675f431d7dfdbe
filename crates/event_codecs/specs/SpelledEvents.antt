-- Which events are read, and the messages that spell each of them.
use Rattle.std.specs.Prelude.{◌≡◌, ◌≢◌, ℕ, ◌^◌, ◌<◌, ◌≤◌, ℤ, List, [], ◌∷◌, ◌++◌, length, drop, map, All, Any, Option, Some, None, IfSome, IsTrue, ⊤}
use Rattle.std.specs.Str.{IsUtf8}
use Rattle.std.specs.Int.{w32, w64, to_le_bytes}
use Rattle.std.specs.Int.RustNames.{FitsSigned}
use Rattle.grid_base.specs.declared.TheConstants.{PARTITIONS}
use Rattle.frame_codec.specs.Laws.{IsBytes}
use Rattle.frame_codec.specs.declared.frames.Frame.{Frame}
use Rattle.fixed_fields.specs.Fields.{int32_bytes}
use Rattle.fixed_fields.specs.Frames.{content_of}
use Rattle.fixed_fields.specs.Requests.{kind_of, kinds_in}
use Rattle.fixed_fields.specs.Spelled.{request_head, Holds, HoldParts}
use Rattle.fixed_fields.specs.Structures.{opens, closes, is_plain}
use Rattle.message_frames.specs.Assembly.{first_payload}
use Rattle.message_frames.specs.declared.message.Message.{Message}
use Rattle.event_codecs.specs.Events.{entry_kind, invalidation_kind, rows_kind, events}
use Rattle.event_codecs.specs.Writing.{row_bytes}
use Rattle.event_codecs.specs.declared.events.ClientEvent.{ClientEvent}
use Rattle.event_codecs.specs.declared.events.ClientEvent.TheVariants.{Entry, Invalidation, Rows}
use Rattle.event_codecs.specs.declared.seen.SeenRow.{SeenRow}

-- ---- what an event says

abbrev pub kind_of_event : ClientEvent → ℕ
kind_of_event (Entry correlation partition kind key new old) = entry_kind
kind_of_event (Invalidation correlation partition version number name key) = invalidation_kind
kind_of_event (Rows correlation rows) = rows_kind

abbrev pub correlation_of : ClientEvent → ℤ
correlation_of (Entry correlation partition kind key new old) = correlation
correlation_of (Invalidation correlation partition version number name key) = correlation
correlation_of (Rows correlation rows) = correlation

-- the partition that is stated; rows may state any
abbrev pub partition_of : ClientEvent → Option ℤ
partition_of (Entry correlation partition kind key new old) = Some partition
partition_of (Invalidation correlation partition version number name key) = Some partition
partition_of (Rows correlation rows) = None

-- the fields behind the head
abbrev pub fields_of : ClientEvent → List ℕ
fields_of (Entry correlation partition kind key new old) = int32_bytes kind
fields_of (Invalidation correlation partition version number name key) = to_le_bytes w32 version ++ to_le_bytes w32 number
fields_of (Rows correlation rows) = []

-- ---- the events that are read

-- a key has at least the eight bytes before its content
abbrev pub IsKey : List ℕ → Type 0
IsKey key = 8 ≤ length key

-- a row of one of the partitions, whose members a byte counts
pub record IsSeenRow (row : SeenRow) : Type 0 where
  pub partition : row.partition < PARTITIONS
  pub version : row.version < 2 ^ 32
  pub members : length row.members < 2 ^ 8

abbrev pub HasParts : ClientEvent → Type 0
HasParts (Entry correlation partition kind key new old) = FitsSigned w32 kind × IsKey key
HasParts (Invalidation correlation partition version number name key) = (version < 2 ^ 32) × (number < 2 ^ 32) × IsUtf8 name × IsKey key
HasParts (Rows correlation rows) = All IsSeenRow rows

-- Each number is one of its size, and a name is a text.
pub record IsEvent (event : ClientEvent) : Type 0 where
  pub correlation : FitsSigned w64 (correlation_of event)
  pub partition : IfSome (partition_of event) (FitsSigned w32)
  pub parts : HasParts event

-- ---- the messages that spell an event

-- The first of these frames hold the values, one each: a payload, or none where the frame is null.
abbrev pub HoldValues : List Frame → List (Option (List ℕ)) → Type 0
HoldValues frames [] = ⊤
HoldValues [] (value ∷ values) = ⊥
HoldValues (frame ∷ frames) (value ∷ values) = IsTrue (is_plain frame) × (content_of frame ≡ value) × HoldValues frames values

-- These frames, and no others, hold the parts, one each.
abbrev pub HoldAll : List Frame → List (List ℕ) → Type 0
HoldAll [] [] = ⊤
HoldAll [] (part ∷ parts) = ⊥
HoldAll (frame ∷ frames) [] = ⊥
HoldAll (frame ∷ frames) (part ∷ parts) = Holds frame part × HoldAll frames parts

-- The first of these frames are a list of the parts: one that begins it, one for each part, and one that ends it.
pub record BeginsWithList (frames : List Frame) (parts : List (List ℕ)) : Type 0 where
  pub opening : Frame
  pub inside : List Frame
  pub closing : Frame
  pub rest : List Frame
  pub opened : IsTrue (opens opening)
  pub held : HoldAll inside parts
  pub closed : IsTrue (closes closing)
  pub spelled : frames ≡ opening ∷ inside ++ closing ∷ rest

abbrev pub HoldEvent : List Frame → ClientEvent → Type 0
HoldEvent frames (Entry correlation partition kind key new old) = HoldValues frames (Some key ∷ new ∷ old ∷ [])
HoldEvent frames (Invalidation correlation partition version number name key) = HoldParts frames (name ∷ key ∷ [])
HoldEvent frames (Rows correlation rows) = BeginsWithList frames (map row_bytes rows)

-- a message as it arrives: its frames hold bytes
abbrev pub HasArrived : Message → Type 0
HasArrived message = All (λ frame. IsBytes frame.payload) message.frames

-- The first payload begins with the type, the correlation and a partition, and the event's fields; the frames behind it hold the event.
-- What follows either doesn't count.
pub record Spells (message : Message) (event : ClientEvent) : Type 0 where
  pub partition : ℤ
  pub stated : IfSome (partition_of event) (λ its. its ≡ partition)
  pub more : List ℕ
  pub fields : first_payload message.frames ≡ (request_head (kind_of_event event) (correlation_of event) partition ++ fields_of event) ++ more
  pub frames : HoldEvent (drop 1 message.frames) event

-- the type is one of the three events'
abbrev pub HasEventKind : Message → Type 0
HasEventKind message = Any (λ kind. kind_of (first_payload message.frames) ≡ Some kind) (kinds_in events)

-- the type is none of them
abbrev pub HasOtherKind : Message → Type 0
HasOtherKind message = All (λ kind. kind_of (first_payload message.frames) ≢ Some kind) (kinds_in events)

-- one of them, whose event the message doesn't spell
pub record SpellsNone (message : Message) : Type 0 where
  pub kind : HasEventKind message
  pub none : (event : ClientEvent) → IsEvent event → ¬ Spells message event
