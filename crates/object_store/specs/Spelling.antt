-- The one spelling of each effect and of each snapshot, and which have one.
use Rattle.std.specs.Prelude.{◌≡◌, ℕ, ◌<◌, ◌^◌, ℤ, true, List, [], ◌∷◌, ◌++◌, length, Option, Some, None, All, IfSome}
use Rattle.std.specs.List.{flat_map}
use Rattle.std.specs.Int.{w64, w128, to_le_bytes, cast_unsigned}
use Rattle.grid_base.specs.declared.names.ClientKey.{ClientKey}
use Rattle.grid_base.specs.declared.names.ClientKey.TheVariants.{Known, OfConn}
use Rattle.grid_base.specs.declared.names.Owner.{Owner}
use Rattle.grid_base.specs.declared.names.ObjectKey.{ObjectKey}
use Rattle.grid_base.specs.declared.names.ObjectKey.TheVariants as object
use Rattle.grid_base.specs.Limits.{OwnerFits}
use Rattle.key_locks.specs.declared.locks.Lock.{Lock}
use Rattle.map_records.specs.declared.records.Idle.{Idle}
use Rattle.map_records.specs.declared.records.MapRecord.{MapRecord}
use Rattle.wire_parts.specs.Parts.{IsNumber, number, sized}
use Rattle.object_store.specs.declared.effects.Effect.{Effect}
use Rattle.object_store.specs.declared.effects.Effect.TheVariants.{SetEntry, DropEntry, Push, Pop, Clear}
use Rattle.object_store.specs.Records.{Record, Map, Queue, has_value_or_lock}
use Rattle.object_store.specs.Partitions.{Partition, stored_in}

-- An option is a byte 0, or a byte 1 and what is there.
abbrev pub option_bytes : {X : Type 0} → (X → List ℕ) → Option X → List ℕ
option_bytes spell None = 0 ∷ []
option_bytes spell (Some x) = 1 ∷ spell x

-- numbers of eight and of sixteen bytes, the low byte first, and signed ones in two's complement
abbrev pub long : ℕ → List ℕ
long n = to_le_bytes w64 n

abbrev pub wide : ℕ → List ℕ
wide n = to_le_bytes w128 n

abbrev pub signed : ℤ → List ℕ
signed z = long (cast_unsigned w64 z)

-- A client is a byte 0 and the number that it gave itself, or a byte 1 and its connection.
abbrev pub client_bytes : ClientKey → List ℕ
client_bytes (Known client) = 0 ∷ wide client
client_bytes (OfConn conn) = 1 ∷ wide conn

abbrev pub owner_bytes : Owner → List ℕ
owner_bytes owner = client_bytes owner.client ++ signed owner.thread

abbrev pub lock_bytes : Lock → List ℕ
lock_bytes lock = owner_bytes lock.owner ++ number lock.count ++ option_bytes long lock.until

abbrev pub idle_bytes : Idle → List ℕ
idle_bytes idle = long idle.span ++ long idle.end

-- a map's record: its value, its expiry, its idle span, its lock
abbrev pub entry_bytes : MapRecord → List ℕ
entry_bytes entry = option_bytes sized entry.value ++ option_bytes long entry.expires ++ option_bytes idle_bytes entry.idle ++ option_bytes lock_bytes entry.lock

-- a queue's record: how many values it has, and each of them
abbrev pub queue_bytes : List (List ℕ) → List ℕ
queue_bytes items = number (length items) ++ flat_map sized items

abbrev pub record_bytes : Record → List ℕ
record_bytes (Map entry) = entry_bytes entry
record_bytes (Queue items) = queue_bytes items

-- An object's kind is a byte 1 for a map's entry and 2 for a queue. Its name follows, and its key, which a queue has as no bytes.

abbrev pub entry_kind : ℕ
entry_kind = 1

abbrev pub queue_kind : ℕ
queue_kind = 2

abbrev pub object_bytes : ObjectKey → List ℕ
object_bytes (object.Entry map key) = entry_kind ∷ sized map ++ sized key
object_bytes (object.Queue name) = queue_kind ∷ sized name ++ sized []

-- An effect begins with its tag, and its object follows.
abbrev pub effect_bytes : Effect → List ℕ
effect_bytes (SetEntry map key entry) = 1 ∷ object_bytes (object.Entry map key) ++ entry_bytes entry
effect_bytes (DropEntry map key) = 2 ∷ object_bytes (object.Entry map key)
effect_bytes (Push queue value) = 3 ∷ object_bytes (object.Queue queue) ++ sized value
effect_bytes (Pop queue) = 4 ∷ object_bytes (object.Queue queue)
effect_bytes (Clear queue) = 5 ∷ object_bytes (object.Queue queue)

abbrev pub stored_bytes : ObjectKey × Record → List ℕ
stored_bytes stored = object_bytes stored.0 ++ record_bytes stored.1

-- A snapshot is the number of the objects, and each with its record, in their order.
abbrev pub snapshot_bytes : Partition → List ℕ
snapshot_bytes s = number (length (stored_in s)) ++ flat_map stored_bytes (stored_in s)

-- What has a spelling: numbers within their ranges, and lengths of four bytes.

abbrev pub IsLong : ℕ → Type 0
IsLong n = n < 2 ^ 64

abbrev pub IsSized : List ℕ → Type 0
IsSized bytes = IsNumber (length bytes)

pub record IsSpelledLock (lock : Lock) : Type 0 where
  pub owner : OwnerFits lock.owner
  pub count : IsNumber lock.count
  pub until : IfSome lock.until IsLong

abbrev pub IsSpelledIdle : Idle → Type 0
IsSpelledIdle idle = IsLong idle.span × IsLong idle.end

pub record IsSpelledEntry (entry : MapRecord) : Type 0 where
  pub value : IfSome entry.value IsSized
  pub expires : IfSome entry.expires IsLong
  pub idle : IfSome entry.idle IsSpelledIdle
  pub lock : IfSome entry.lock IsSpelledLock

abbrev pub IsSpelledQueue : List (List ℕ) → Type 0
IsSpelledQueue items = IsNumber (length items) × All IsSized items

abbrev pub IsSpelledObject : ObjectKey → Type 0
IsSpelledObject (object.Entry map key) = IsSized map × IsSized key
IsSpelledObject (object.Queue name) = IsSized name

-- An entry that is kept has a value or a lock.
abbrev pub IsSpelledRecord : Record → Type 0
IsSpelledRecord (Map entry) = IsSpelledEntry entry × (has_value_or_lock entry ≡ true)
IsSpelledRecord (Queue items) = IsSpelledQueue items

abbrev pub IsSpelledEffect : Effect → Type 0
IsSpelledEffect (SetEntry map key entry) = IsSized map × IsSized key × IsSpelledEntry entry × (has_value_or_lock entry ≡ true)
IsSpelledEffect (DropEntry map key) = IsSized map × IsSized key
IsSpelledEffect (Push queue value) = IsSized queue × IsSized value
IsSpelledEffect (Pop queue) = IsSized queue
IsSpelledEffect (Clear queue) = IsSized queue

pub record IsSpelledPartition (s : Partition) : Type 0 where
  pub count : IsNumber (length (stored_in s))
  pub each : All (λ (stored : ObjectKey × Record). IsSpelledObject stored.0 × IsSpelledRecord stored.1) (stored_in s)
