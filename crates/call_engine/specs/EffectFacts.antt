-- Which calls have effects.
use Rattle.std.specs.Prelude.{◌≡◌, ◌≢◌, ◌↔◌, ℕ, true, List, is_some}
use Rattle.grid_base.specs.declared.calls.MapCall.{MapCall}
use Rattle.grid_base.specs.declared.calls.QueueCall.{QueueCall}
use Rattle.grid_base.specs.declared.calls.Request.{Request}
use Rattle.map_records.specs.declared.records.MapRecord.{MapRecord}
use Rattle.map_records.specs.MapTable as entries
use Rattle.queue_records.specs.Queues as queues
use Rattle.object_store.specs.Partitions.{Partition}
use Rattle.call_engine.specs.Calls.{Settings}
use Rattle.call_engine.specs.Effects.{map_effect, queue_effect, effect_of}
use Rattle.call_engine.specs.Objects.{partition_object}

-- A call on an entry has an effect exactly where it leaves another record than it found.
abbrev pub EntryEffectIsChange : Settings → MapRecord → MapCall → ℕ → Type 0
EntryEffectIsChange settings entry c now = (is_some (map_effect settings entry c now) ≡ true) ↔ (entries.after settings.forms entry c now ≢ entry)

-- A call on a queue has an effect exactly where it leaves other values than it found, or another order.
abbrev pub QueueEffectIsChange : Settings → List (List ℕ) → QueueCall → Type 0
QueueEffectIsChange settings items c = (is_some (queue_effect settings items c) ≡ true) ↔ (queues.after items c settings.capacity ≢ items)

-- A request has an effect exactly where it leaves another partition than it found.
abbrev pub RequestEffectIsChange : Settings → Partition → Request → ℕ → Type 0
RequestEffectIsChange settings s r now = (is_some (effect_of settings s r now) ≡ true) ↔ ((partition_object settings).after s r now ≢ s)
