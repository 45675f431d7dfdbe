-- Worked examples, which the definitions compute.
use Rattle.std.specs.Prelude.{◌≡◌, ℕ, negsuc, List, [], ◌∷◌, ◌++◌, length, map, replicate, Some, None, Ok, Err, refl}
use Rattle.std.specs.List.{flat_map}
use Rattle.std.proofs.lemmas.List.Concat.{flat_map-cons}
use Rattle.grid_base.specs.declared.names.ClientKey.TheVariants.{Known, OfConn}
use Rattle.grid_base.specs.declared.names.ObjectKey.{ObjectKey}
use Rattle.grid_base.specs.declared.names.ObjectKey.TheVariants as object
use Rattle.map_records.specs.declared.records.MapRecord.{MapRecord}
use Rattle.wire_parts.specs.declared.refusal.WireRefused.{WireRefused}
use Rattle.wire_parts.specs.declared.refusal.WireRefused.TheVariants.{Short, Tag, Order, Rest}
use Rattle.wire_parts.specs.Parts.{sized_at, mark_at, number}
use Rattle.object_store.specs.declared.effects.Effect.{Effect}
use Rattle.object_store.specs.declared.effects.Effect.TheVariants.{SetEntry, DropEntry, Push, Pop, Clear}
use Rattle.object_store.specs.Records.{Record, Map, Queue}
use Rattle.object_store.specs.Partitions.{partition_of}
use Rattle.object_store.specs.Spelling.{entry_bytes, effect_bytes, stored_bytes}
use Rattle.object_store.specs.Reading.{signed_at, conn_at, known_at, owner_at, lock_at, idle_at, entry_at, kept_entry_at, items_at, kept_queue_at, names_at, lone_name_at, entry_name_at, queue_name_at, object_at, kind_at, map_key_at, queue_at, set_entry_at, drop_entry_at, push_at, pop_at, clear_at, effect_at, effect_in, next_object_at, record_of, stored_at, snapshot_in}

-- ---- names, values and records

abbrev m : List ℕ
m = 109 ∷ []

abbrev k : List ℕ
k = 107 ∷ []

abbrev q : List ℕ
q = 113 ∷ []

abbrev v : List ℕ
v = 118 ∷ []

-- one byte behind its length
abbrev one : ℕ → List ℕ
one byte = 1 ∷ 0 ∷ 0 ∷ 0 ∷ byte ∷ []

abbrev zeros : ℕ → List ℕ
zeros n = replicate n 0

-- the entry of the key `k` of the map `m`, and the queue `q`

abbrev entry_name : List ℕ
entry_name = 1 ∷ one 109 ++ one 107

abbrev queue_name : List ℕ
queue_name = 2 ∷ one 113 ++ zeros 4

-- a value that expires, may lie unused, and is locked by a thread of a connection
abbrev all_parts : MapRecord
all_parts = record {
  value = Some v;
  expires = Some 258;
  idle = Some (record { span = 5; end = 261 });
  lock = Some (record { owner = record { client = OfConn 3; thread = negsuc 0 }; count = 7; until = Some 9 });
}

abbrev all_parts_bytes : List ℕ
all_parts_bytes =
    (1 ∷ one 118)
    ++ (1 ∷ 2 ∷ 1 ∷ zeros 6)
    ++ (1 ∷ 5 ∷ zeros 7) ++ (5 ∷ 1 ∷ zeros 6)
    ++ (1 ∷ 1 ∷ 3 ∷ zeros 15) ++ replicate 8 255 ++ (7 ∷ zeros 3) ++ (1 ∷ 9 ∷ zeros 7)

-- a lock alone, of a client that gave its number
abbrev locked : MapRecord
locked = record { value = None; expires = None; idle = None; lock = Some (record { owner = record { client = Known 4; thread = negsuc 1 }; count = 1; until = None }) }

abbrev locked_bytes : List ℕ
locked_bytes = (0 ∷ 0 ∷ 0 ∷ 1 ∷ 0 ∷ 4 ∷ zeros 15) ++ (254 ∷ replicate 7 255) ++ (1 ∷ zeros 3) ++ 0 ∷ []

-- ---- spelling

a_record_of_all_parts : entry_bytes all_parts ≡ all_parts_bytes
a_record_of_all_parts = refl

a_record_of_a_lock : entry_bytes locked ≡ locked_bytes
a_record_of_a_lock = refl

-- one effect of each kind, with its bytes
abbrev effects : List (Effect × List ℕ)
effects =
    (SetEntry m k all_parts, (1 ∷ entry_name) ++ all_parts_bytes)
    ∷ (SetEntry m k locked, (1 ∷ entry_name) ++ locked_bytes)
    ∷ (DropEntry m k, 2 ∷ entry_name)
    ∷ (Push q v, (3 ∷ queue_name) ++ one 118)
    ∷ (Pop q, 4 ∷ queue_name)
    ∷ (Clear q, 5 ∷ queue_name)
    ∷ []

effects_are_spelled : map (λ (case : Effect × List ℕ). effect_bytes case.0) effects ≡ map (λ (case : Effect × List ℕ). case.1) effects
effects_are_spelled = refl

effects_are_read : map (λ (case : Effect × List ℕ). effect_in case.1) effects ≡ map (λ (case : Effect × List ℕ). Ok case.0) effects
unfolding sized_at mark_at signed_at conn_at known_at owner_at lock_at idle_at entry_at kept_entry_at names_at lone_name_at kind_at map_key_at queue_at set_entry_at drop_entry_at push_at pop_at clear_at effect_at effect_in
effects_are_read = refl

-- ---- refusals of effects

abbrev Refused : List (List ℕ × WireRefused) → Type 0
Refused cases = map (λ (case : List ℕ × WireRefused). effect_in case.0) cases ≡ map (λ (case : List ℕ × WireRefused). Err case.1) cases

-- what stands before the record of an entry that is set
abbrev set : List ℕ
set = 1 ∷ entry_name

-- nothing, and bytes that end inside the kind, the map, the key, the queue's name, its key and a value
names_may_be_short : Refused
    (([], Short 0) ∷ (1 ∷ [], Short 1) ∷ (1 ∷ 1 ∷ 1 ∷ 0 ∷ 0 ∷ [], Short 2) ∷ (1 ∷ 1 ∷ 1 ∷ 0 ∷ 0 ∷ 0 ∷ [], Short 2) ∷ (2 ∷ 1 ∷ one 109, Short 7)
    ∷ (4 ∷ 2 ∷ [], Short 2) ∷ (4 ∷ 2 ∷ one 113, Short 7) ∷ (3 ∷ queue_name, Short 11) ∷ ((3 ∷ queue_name) ++ (2 ∷ 0 ∷ 0 ∷ 0 ∷ 118 ∷ []), Short 11) ∷ [])
unfolding sized_at names_at lone_name_at kind_at map_key_at queue_at set_entry_at drop_entry_at push_at pop_at effect_at effect_in
names_may_be_short = refl

-- and inside each part of a record: value, expiry, idle span and its end, lock, client, thread, count, lease
records_may_be_short : Refused
    ((set, Short 12) ∷ (set ++ 1 ∷ 1 ∷ [], Short 13) ∷ (set ++ 0 ∷ [], Short 13) ∷ (set ++ 0 ∷ 1 ∷ zeros 7, Short 14) ∷ (set ++ 0 ∷ 0 ∷ [], Short 14)
    ∷ (set ++ 0 ∷ 0 ∷ 1 ∷ zeros 7, Short 15) ∷ (set ++ 0 ∷ 0 ∷ 1 ∷ zeros 15, Short 23) ∷ (set ++ 0 ∷ 0 ∷ 0 ∷ [], Short 15) ∷ (set ++ 0 ∷ 0 ∷ 0 ∷ 1 ∷ [], Short 16)
    ∷ (set ++ 0 ∷ 0 ∷ 0 ∷ 1 ∷ zeros 16, Short 17) ∷ (set ++ 0 ∷ 0 ∷ 0 ∷ 1 ∷ 1 ∷ zeros 15, Short 17) ∷ (set ++ 0 ∷ 0 ∷ 0 ∷ 1 ∷ zeros 24, Short 33)
    ∷ (set ++ 0 ∷ 0 ∷ 0 ∷ 1 ∷ zeros 28, Short 41) ∷ (set ++ 0 ∷ 0 ∷ 0 ∷ 1 ∷ zeros 29, Short 45) ∷ (set ++ 0 ∷ 0 ∷ 0 ∷ 1 ∷ zeros 29 ++ 1 ∷ zeros 7, Short 46) ∷ [])
unfolding sized_at mark_at signed_at conn_at known_at owner_at lock_at idle_at entry_at kept_entry_at names_at kind_at map_key_at set_entry_at effect_at effect_in
records_may_be_short = refl

-- Tags 0 and 6, a kind 3, a queue's kind in a set, an entry's kind in a push, a mark 2, a queue that has a key, and a connection past 32 bits.
tags_are_those_that_there_are : Refused
    ((0 ∷ entry_name, Tag 0) ∷ (6 ∷ entry_name, Tag 0) ∷ (2 ∷ 3 ∷ one 109 ++ one 107, Tag 1) ∷ (1 ∷ queue_name, Tag 1) ∷ (3 ∷ entry_name, Tag 1) ∷ (set ++ 2 ∷ [], Tag 12)
    ∷ (4 ∷ 2 ∷ one 113 ++ one 107, Tag 7) ∷ (set ++ 0 ∷ 0 ∷ 0 ∷ 1 ∷ 1 ∷ zeros 4 ++ 1 ∷ zeros 11, Tag 17) ∷ [])
unfolding sized_at mark_at signed_at conn_at known_at owner_at lock_at idle_at entry_at kept_entry_at names_at lone_name_at kind_at map_key_at queue_at set_entry_at drop_entry_at push_at pop_at effect_at effect_in
tags_are_those_that_there_are = refl

-- An entry that is set has something, and nothing follows an effect.
nothing_is_set_and_nothing_follows : Refused ((set ++ zeros 4, Order 12) ∷ (set ++ 0 ∷ 1 ∷ zeros 10, Order 12) ∷ ((5 ∷ queue_name) ++ 0 ∷ [], Rest 11) ∷ [])
unfolding sized_at mark_at signed_at conn_at known_at owner_at lock_at idle_at entry_at kept_entry_at names_at lone_name_at kind_at map_key_at queue_at set_entry_at clear_at effect_at effect_in
nothing_is_set_and_nothing_follows = refl

-- ---- snapshots

abbrev stored : List (ObjectKey × Record)
stored = (object.Entry m k, Map locked) ∷ (object.Queue q, Queue (v ∷ [] ∷ [])) ∷ []

abbrev queue_record : List ℕ
queue_record = (2 ∷ zeros 3) ++ one 118 ++ zeros 4

abbrev snapshot : List ℕ
snapshot = (2 ∷ zeros 3) ++ entry_name ++ locked_bytes ++ queue_name ++ queue_record

objects_are_spelled : number (length stored) ++ flat_map stored_bytes stored ≡ snapshot
objects_are_spelled = rw (flat_map-cons, flat_map-cons) refl

a_snapshot_is_read : snapshot_in snapshot ≡ Ok (partition_of stored)
unfolding sized_at mark_at signed_at known_at owner_at lock_at entry_at kept_entry_at items_at kept_queue_at names_at lone_name_at entry_name_at queue_name_at object_at next_object_at record_of stored_at snapshot_in
a_snapshot_is_read = refl

abbrev NoSnapshots : List (List ℕ × WireRefused) → Type 0
NoSnapshots cases = map (λ (case : List ℕ × WireRefused). snapshot_in case.0) cases ≡ map (λ (case : List ℕ × WireRefused). Err case.1) cases

-- two objects, of which the first is there
abbrev two : List ℕ → List ℕ
two more = (2 ∷ zeros 3) ++ queue_name ++ queue_record ++ more

-- Bytes end inside the count, the kind, a queue's count and its values; a kind is 3.
objects_may_be_short : NoSnapshots
    ((1 ∷ zeros 2, Short 0) ∷ (1 ∷ zeros 3, Short 4) ∷ ((1 ∷ zeros 3) ++ queue_name, Short 14) ∷ ((1 ∷ zeros 3) ++ queue_name ++ (2 ∷ zeros 3) ++ one 118, Short 23) ∷ (two [], Short 27)
    ∷ ((1 ∷ zeros 3) ++ 3 ∷ [], Tag 4) ∷ (two (0 ∷ []), Tag 27) ∷ [])
unfolding sized_at items_at kept_queue_at names_at lone_name_at entry_name_at queue_name_at object_at next_object_at record_of stored_at snapshot_in
objects_may_be_short = refl

-- An object that stands before the one before it, one that stands twice, an entry without value and lock, a queue without values, and bytes that follow.
objects_are_in_order : NoSnapshots
    ((two (entry_name ++ locked_bytes), Order 27) ∷ (two (queue_name ++ queue_record), Order 27)
    ∷ ((1 ∷ zeros 3) ++ entry_name ++ zeros 4, Order 15) ∷ ((1 ∷ zeros 3) ++ queue_name ++ zeros 4, Order 14) ∷ (zeros 5, Rest 4) ∷ [])
unfolding sized_at mark_at signed_at known_at owner_at lock_at entry_at kept_entry_at items_at kept_queue_at names_at lone_name_at entry_name_at queue_name_at object_at next_object_at record_of stored_at snapshot_in
objects_are_in_order = refl
