-- The effect of a call, and what bytes make of a partition.
use Rattle.std.specs.Prelude.{ℕ, List, Option, Some, None, Result, Ok, Err, option_map, if◌then◌else◌}
use Rattle.grid_base.specs.Names.{map_of, key_of, queue_of, object_of}
use Rattle.grid_base.specs.declared.calls.MapCall.{MapCall}
use Rattle.grid_base.specs.declared.calls.QueueCall.{QueueCall}
use Rattle.grid_base.specs.declared.calls.QueueCall.TheVariants.{Offer}
use Rattle.grid_base.specs.declared.calls.GridCall.{GridCall}
use Rattle.grid_base.specs.declared.calls.GridCall.TheVariants as call
use Rattle.grid_base.specs.declared.calls.Request.{Request}
use Rattle.map_records.specs.declared.records.MapRecord.{MapRecord}
use Rattle.map_records.specs.MapTable as entries
use Rattle.map_records.specs.SameEntries.{is_same_entry}
use Rattle.queue_records.specs.Queues as queues
use Rattle.queue_records.specs.declared.queues.QueueStep.{QueueStep}
use Rattle.queue_records.specs.declared.queues.QueueStep.TheVariants as step
use Rattle.object_store.specs.declared.effects.Effect.{Effect}
use Rattle.object_store.specs.declared.effects.Effect.TheVariants.{SetEntry, DropEntry, Push, Pop, Clear}
use Rattle.object_store.specs.Records.{Record, entry_in, items_in, has_value_or_lock}
use Rattle.object_store.specs.Partitions.{Partition, record_at}
use Rattle.object_store.specs.Effects.{fits, after_effect}
use Rattle.object_store.specs.Spelling.{effect_bytes}
use Rattle.object_store.specs.Reading.{effect_in}
use Rattle.wire_parts.specs.declared.refusal.WireRefused.{WireRefused}
use Rattle.call_engine.specs.Calls.{Settings}

-- An entry is set to what is kept of it, or dropped where it has neither a value nor a lock.
abbrev pub entry_effect : List ℕ → List ℕ → MapRecord → Effect
entry_effect map key entry = if has_value_or_lock entry then SetEntry map key entry else DropEntry map key

-- A call on an entry has an effect where it leaves another record.
abbrev pub map_effect : Settings → MapRecord → MapCall → ℕ → Option Effect
map_effect settings entry c now =
    let next = entries.after settings.forms entry c now in
    if is_same_entry entry next then None else Some (entry_effect (map_of c) (key_of c) next)

-- the effect that makes a step; an offer alone pushes
abbrev pub step_effect : QueueCall → QueueStep → Option Effect
step_effect c step.Same = None
step_effect (Offer name value) step.Push = Some (Push name value)
step_effect c step.Push = None
step_effect c step.Pop = Some (Pop (queue_of c))
step_effect c step.Clear = Some (Clear (queue_of c))

abbrev pub queue_effect : Settings → List (List ℕ) → QueueCall → Option Effect
queue_effect settings items c = step_effect c (queues.step items c settings.capacity)

-- the effect of a call on what is kept of its object
abbrev pub effect_on : Settings → Record → GridCall → ℕ → Option Effect
effect_on settings kept (call.Map c) now = map_effect settings (entry_in kept) c now
effect_on settings kept (call.Queue c) now = queue_effect settings (items_in kept) c

abbrev pub effect_of : Settings → Partition → Request → ℕ → Option (List ℕ)
effect_of settings s r now = option_map effect_bytes (effect_on settings (record_at s (object_of r.call)) r.call now)

-- the partition after an effect that was read, if it was and fits
abbrev pub applied_to : Partition → Result Effect WireRefused → Option Partition
applied_to s (Ok effect) = if fits s effect then Some (after_effect s effect) else None
applied_to s (Err why) = None

-- the partition after the effect that the bytes are
abbrev pub applied : List ℕ → Partition → Option Partition
applied bytes s = applied_to s (effect_in bytes)
