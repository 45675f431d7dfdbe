-- A call has an effect exactly where something changes.
use Rattle.std.proofs.Common.{◌≡◌, ◌↔◌, ℕ, true, List, Option, Some, None, is_some, refl, sym, true≢false}
use Rattle.grid_base.specs.declared.calls.MapCall.{MapCall}
use Rattle.grid_base.specs.declared.calls.QueueCall.{QueueCall}
use Rattle.grid_base.specs.declared.calls.Request.{Request}
use Rattle.map_records.specs.declared.records.MapRecord.{MapRecord}
use Rattle.object_store.specs.Partitions.{Partition}
use Rattle.call_engine.specs.Calls.{Settings}
use Rattle.call_engine.specs.EffectFacts.{EntryEffectIsChange, QueueEffectIsChange, RequestEffectIsChange}
use Rattle.call_engine.specs.Effects.{map_effect, queue_effect, effect_of}
use Rattle.call_engine.specs.EffectLaws.{same_without_map_effect, same_without_queue_effect, map_effect_differs, queue_effect_differs}
use Rattle.call_engine.specs.ShelfLaws.{same_without_effect, differs_by_effect}

some_exactly : {X P : Type 0} (o : Option X) → (o ≡ None → P) → ((x : X) → o ≡ Some x → ¬ P) → (is_some o ≡ true) ↔ (¬ P)
some_exactly None same differs = (λ e. absurd (true≢false (sym e)), λ other. absurd (other (same refl)))
some_exactly (Some x) same differs = (λ e. differs x refl, λ other. refl)

pub entry_effect_is_change : (settings : Settings) (entry : MapRecord) (c : MapCall) (now : ℕ) → EntryEffectIsChange settings entry c now
entry_effect_is_change settings entry c now = some_exactly (map_effect settings entry c now) (same_without_map_effect settings entry c now) (map_effect_differs settings entry c now)

pub queue_effect_is_change : (settings : Settings) (items : List (List ℕ)) (c : QueueCall) → QueueEffectIsChange settings items c
queue_effect_is_change settings items c = some_exactly (queue_effect settings items c) (same_without_queue_effect settings items c) (queue_effect_differs settings items c)

pub request_effect_is_change : (settings : Settings) (s : Partition) (r : Request) (now : ℕ) → RequestEffectIsChange settings s r now
request_effect_is_change settings s r now = some_exactly (effect_of settings s r now) (same_without_effect settings s r now) (differs_by_effect settings s r now)
