-- Reading effects and snapshots from left to right: what was read and the place behind it, or the first fault.
use Rattle.std.specs.Prelude.{ℕ, zero, suc, ◌^◌, ℤ, Bool, true, false, nat_lt, ◌==◌, List, [], ◌∷◌, ◌++◌, Option, Some, None, Result, Ok, Err, if◌then◌else◌}
use Rattle.std.specs.Int.{w32, w64, w128, cast_signed}
use Rattle.std.specs.Ordering.{is_lt}
use Rattle.grid_base.specs.declared.names.ClientKey.{ClientKey}
use Rattle.grid_base.specs.declared.names.ClientKey.TheVariants.{Known, OfConn}
use Rattle.grid_base.specs.declared.names.Owner.{Owner}
use Rattle.grid_base.specs.declared.names.ObjectKey.{ObjectKey}
use Rattle.grid_base.specs.declared.names.ObjectKey.TheVariants as object
use Rattle.key_locks.specs.declared.locks.Lock.{Lock}
use Rattle.map_records.specs.declared.records.Idle.{Idle}
use Rattle.map_records.specs.declared.records.MapRecord.{MapRecord}
use Rattle.wire_parts.specs.declared.refusal.WireRefused.{WireRefused}
use Rattle.wire_parts.specs.declared.refusal.WireRefused.TheVariants.{Tag, Order}
use Rattle.wire_parts.specs.Places.{Place, start}
use Rattle.wire_parts.specs.Parts.{◌>>=◌, byte_at, number_at, sized_at, mark_at, end_at}
use Rattle.object_store.specs.declared.effects.Effect.{Effect}
use Rattle.object_store.specs.declared.effects.Effect.TheVariants.{SetEntry, DropEntry, Push, Pop, Clear}
use Rattle.object_store.specs.Records.{Record, Map, Queue, has_value_or_lock}
use Rattle.object_store.specs.Partitions.{Partition, object_cmp, partition_of}
use Rattle.object_store.specs.Spelling.{entry_kind, queue_kind}

-- what reading gives of an X, with the place behind it
abbrev pub Read : Type 0 → Type 0
Read X = Result (X × Place) WireRefused

-- what is there, where the byte before it says that something is
abbrev pub present_at : {X : Type 0} → (Place → Read X) → Bool → Place → Read (Option X)
present_at read false p = Ok (None, p)
present_at read true p = do
  x ← read p
  Ok (Some x.0, x.1)

abbrev pub option_at : {X : Type 0} → (Place → Read X) → Place → Read (Option X)
option_at read p = do
  mark ← mark_at p
  present_at read mark.0 mark.1

unfoldable pub signed_at : Place → Read ℤ
signed_at p = do
  n ← number_at w64 p
  Ok (cast_signed w64 n.0, n.1)

-- A connection's number has 32 bits.
unfoldable pub conn_at : Place → Read ClientKey
conn_at p = do
  n ← number_at w128 p
  if nat_lt n.0 (2 ^ 32) then Ok (OfConn n.0, n.1) else Err (Tag p.at)

unfoldable pub known_at : Place → Read ClientKey
known_at p = do
  n ← number_at w128 p
  Ok (Known n.0, n.1)

abbrev pub client_behind : Bool → Place → Read ClientKey
client_behind false p = known_at p
client_behind true p = conn_at p

unfoldable pub owner_at : Place → Read Owner
owner_at p = do
  mark ← mark_at p
  client ← client_behind mark.0 mark.1
  thread ← signed_at client.1
  Ok (record { client = client.0; thread = thread.0 }, thread.1)

unfoldable pub lock_at : Place → Read Lock
lock_at p = do
  owner ← owner_at p
  count ← number_at w32 owner.1
  until ← option_at (number_at w64) count.1
  Ok (record { owner = owner.0; count = count.0; until = until.0 }, until.1)

unfoldable pub idle_at : Place → Read Idle
idle_at p = do
  span ← number_at w64 p
  end ← number_at w64 span.1
  Ok (record { span = span.0; end = end.0 }, end.1)

unfoldable pub entry_at : Place → Read MapRecord
entry_at p = do
  value ← option_at sized_at p
  expires ← option_at (number_at w64) value.1
  idle ← option_at idle_at expires.1
  lock ← option_at lock_at idle.1
  Ok (record { value = value.0; expires = expires.0; idle = idle.0; lock = lock.0 }, lock.1)

-- An entry that is kept has a value or a lock.
unfoldable pub kept_entry_at : Place → Read MapRecord
kept_entry_at p = do
  entry ← entry_at p
  if has_value_or_lock entry.0 then Ok entry else Err (Order p.at)

-- so many more values of a queue that has these already
unfoldable pub items_at : List (List ℕ) → ℕ → Place → Read (List (List ℕ))
items_at items zero p = Ok (items, p)
items_at items (suc count) p = do
  item ← sized_at p
  items_at (items ++ item.0 ∷ []) count item.1

-- A queue that is kept has a value.
unfoldable pub kept_queue_at : Place → Read (List (List ℕ))
kept_queue_at p = do
  count ← number_at w32 p
  if count.0 == 0 then Err (Order p.at) else items_at [] count.0 count.1

-- The names of an object stand behind its kind: of a map's entry the map and the key, and of a queue its name alone.

unfoldable pub names_at : Place → Read (List ℕ × List ℕ)
names_at p = do
  map ← sized_at p
  key ← sized_at map.1
  Ok ((map.0, key.0), key.1)

-- A queue has no key; the place is that of its key.
abbrev pub keyless : List ℕ → ℕ → List ℕ → Place → Read (List ℕ)
keyless name at [] p = Ok (name, p)
keyless name at (byte ∷ key) p = Err (Tag at)

unfoldable pub lone_name_at : Place → Read (List ℕ)
lone_name_at p = do
  name ← sized_at p
  key ← sized_at name.1
  keyless name.0 name.1.at key.0 key.1

-- an object of any kind

unfoldable pub entry_name_at : Place → Read ObjectKey
entry_name_at p = do
  names ← names_at p
  Ok (object.Entry names.0.0 names.0.1, names.1)

unfoldable pub queue_name_at : Place → Read ObjectKey
queue_name_at p = do
  name ← lone_name_at p
  Ok (object.Queue name.0, name.1)

abbrev pub name_behind : ℕ → ℕ → Place → Read ObjectKey
name_behind at kind p = if kind == entry_kind then entry_name_at p else if kind == queue_kind then queue_name_at p else Err (Tag at)

unfoldable pub object_at : Place → Read ObjectKey
object_at p = do
  kind ← byte_at p
  name_behind p.at kind.0 kind.1

-- an object whose kind has to be this one

unfoldable pub kind_at : ℕ → Place → Read ℕ
kind_at kind p = do
  byte ← byte_at p
  if byte.0 == kind then Ok byte else Err (Tag p.at)

unfoldable pub map_key_at : Place → Read (List ℕ × List ℕ)
map_key_at p = do
  kind ← kind_at entry_kind p
  names_at kind.1

unfoldable pub queue_at : Place → Read (List ℕ)
queue_at p = do
  kind ← kind_at queue_kind p
  lone_name_at kind.1

unfoldable pub set_entry_at : Place → Read Effect
set_entry_at p = do
  name ← map_key_at p
  entry ← kept_entry_at name.1
  Ok (SetEntry name.0.0 name.0.1 entry.0, entry.1)

unfoldable pub drop_entry_at : Place → Read Effect
drop_entry_at p = do
  name ← map_key_at p
  Ok (DropEntry name.0.0 name.0.1, name.1)

unfoldable pub push_at : Place → Read Effect
push_at p = do
  queue ← queue_at p
  value ← sized_at queue.1
  Ok (Push queue.0 value.0, value.1)

unfoldable pub pop_at : Place → Read Effect
pop_at p = do
  queue ← queue_at p
  Ok (Pop queue.0, queue.1)

unfoldable pub clear_at : Place → Read Effect
clear_at p = do
  queue ← queue_at p
  Ok (Clear queue.0, queue.1)

-- what stands behind an effect's tag, whose place is given
abbrev pub effect_behind : ℕ → ℕ → Place → Read Effect
effect_behind at tag p =
    if tag == 1 then set_entry_at p
    else if tag == 2 then drop_entry_at p
    else if tag == 3 then push_at p
    else if tag == 4 then pop_at p
    else if tag == 5 then clear_at p
    else Err (Tag at)

unfoldable pub effect_at : Place → Read Effect
effect_at p = do
  tag ← byte_at p
  effect_behind p.at tag.0 tag.1

-- the effect that the bytes are, all of them
unfoldable pub effect_in : List ℕ → Result Effect WireRefused
effect_in bytes = do
  effect ← effect_at (start bytes)
  end ← end_at effect.1
  Ok effect.0

-- An object stands behind all before it.
abbrev pub is_behind : List (ObjectKey × Record) → ObjectKey → Bool
is_behind [] name = true
is_behind (stored ∷ []) name = is_lt (object_cmp stored.0 name)
is_behind (stored ∷ more) name = is_behind more name

unfoldable pub next_object_at : List (ObjectKey × Record) → Place → Read ObjectKey
next_object_at before p = do
  name ← object_at p
  if is_behind before name.0 then Ok name else Err (Order p.at)

-- what is kept of an object
unfoldable pub record_of : ObjectKey → Place → Read Record
record_of (object.Entry map key) p = do
  entry ← kept_entry_at p
  Ok (Map entry.0, entry.1)
record_of (object.Queue name) p = do
  items ← kept_queue_at p
  Ok (Queue items.0, items.1)

-- so many more objects of a snapshot that has these already
unfoldable pub stored_at : List (ObjectKey × Record) → ℕ → Place → Read (List (ObjectKey × Record))
stored_at before zero p = Ok (before, p)
stored_at before (suc count) p = do
  name ← next_object_at before p
  kept ← record_of name.0 name.1
  stored_at (before ++ (name.0, kept.0) ∷ []) count kept.1

-- the partition that the bytes are a snapshot of, all of them
unfoldable pub snapshot_in : List ℕ → Result Partition WireRefused
snapshot_in bytes = do
  count ← number_at w32 (start bytes)
  stored ← stored_at [] count.0 count.1
  end ← end_at stored.1
  Ok (partition_of stored.0)
