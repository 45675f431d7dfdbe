-- A call's effect makes the partition after it, which differs, and a call without an effect leaves it as it was.
-- It stands here for the laws of `ShelfLaws`.
use Rattle.std.proofs.Common.{◌≡◌, ◌≢◌, ℕ, Bool, true, false, not, ◌||◌, List, [], ◌∷◌, ◌++◌, drop, Option, Some, None, is_some, refl, ap, sym, ◌∙◌, subst, true≢false}
use Rattle.std.proofs.lemmas.List.Elements.{All-head}
use Rattle.std.specs.Prelude.{if◌then◌else◌}
use Rattle.grid_base.specs.Limits.{FitsFrame, MapCallFits, MapNumbersFit, QueueCallFits, CallFits, NumbersFit}
use Rattle.grid_base.specs.Names.{map_of, key_of, queue_of, object_of}
use Rattle.grid_base.specs.declared.names.ObjectKey.TheVariants as object
use Rattle.grid_base.specs.declared.calls.GridCall.{GridCall}
use Rattle.grid_base.specs.declared.calls.GridCall.TheVariants as call
use Rattle.grid_base.specs.declared.calls.MapCall.{MapCall}
use Rattle.grid_base.specs.declared.calls.QueueCall.{QueueCall}
use Rattle.grid_base.specs.declared.calls.QueueCall.TheVariants.{Offer, Poll, Peek, Size, RemainingCapacity, Clear}
use Rattle.key_locks.specs.declared.locks.Lock.{Lock}
use Rattle.map_records.specs.declared.records.Idle.{Idle}
use Rattle.map_records.specs.declared.records.MapRecord.{MapRecord}
use Rattle.map_records.specs.MapEntries.{empty_entry}
use Rattle.map_records.specs.MapTable as entries
use Rattle.map_records.specs.SameEntries.{is_same_entry}
use Rattle.map_records.proofs.SameEntries.{entry_decides}
use Rattle.queue_records.specs.declared.queues.QueueStep.TheVariants as step
use Rattle.queue_records.specs.Queues.{has_room, after as queue_after, step as queue_step}
use Rattle.queue_records.proofs.Calls.{steps_where_it_changes}
use Rattle.object_store.specs.declared.effects.Effect.{Effect}
use Rattle.object_store.specs.declared.effects.Effect.TheVariants.{SetEntry, DropEntry, Push, Pop, Clear as ClearQueue}
use Rattle.object_store.specs.Records.{Record, Map, Queue, suits, entry_in, items_in, is_nothing, has_value_or_lock}
use Rattle.object_store.specs.Partitions.{Partition, record_at, with_record}
use Rattle.object_store.specs.Effects.{fits, after_effect}
use Rattle.object_store.specs.Spelling.{IsSpelledEffect}
use Rattle.call_engine.specs.Calls.{Settings, after}
use Rattle.call_engine.specs.Effects.{entry_effect, map_effect, step_effect, queue_effect, effect_on}
use Rattle.call_engine.specs.Limits.{IsWhole, EntryFits, RecordFits}
use Rattle.call_engine.specs.Within.{sized, entry_in_fits, entry_after_fits}

-- without an effect

pub same_without_map_effect : (settings : Settings) (entry : MapRecord) (c : MapCall) (now : ℕ) → map_effect settings entry c now ≡ None → entries.after settings.forms entry c now ≡ entry
same_without_map_effect settings entry c now e = go (is_same_entry entry next) refl e
  where
    next : MapRecord
    next = entries.after settings.forms entry c now

    go : (same : Bool) → is_same_entry entry next ≡ same → (if same then None else Some (entry_effect (map_of c) (key_of c) next)) ≡ None → next ≡ entry
    go true is none = sym ((entry_decides entry next).0 is)
    go false is none = cc

pub same_without_queue_effect : (settings : Settings) (items : List (List ℕ)) (c : QueueCall) → queue_effect settings items c ≡ None → queue_after items c settings.capacity ≡ items
same_without_queue_effect settings items (Offer name value) e = go (has_room items settings.capacity) e
  where
    go : (room : Bool) → step_effect (Offer name value) (if room then step.Push else step.Same) ≡ None → (if room then items ++ value ∷ [] else items) ≡ items
    go true none = cc
    go false none = refl
same_without_queue_effect settings [] (Poll name) e = refl
same_without_queue_effect settings (item ∷ items) (Poll name) e = cc
same_without_queue_effect settings items (Peek name) e = refl
same_without_queue_effect settings items (Size name) e = refl
same_without_queue_effect settings items (RemainingCapacity name) e = refl
same_without_queue_effect settings [] (Clear name) e = refl
same_without_queue_effect settings (item ∷ items) (Clear name) e = cc

pub same_on : (settings : Settings) (kept : Record) (r : GridCall) (now : ℕ) → suits (object_of r) kept ≡ true → effect_on settings kept r now ≡ None → after settings kept r now ≡ kept
same_on settings (Map entry) (call.Map c) now h e = ap Map (same_without_map_effect settings entry c now e)
same_on settings (Queue items) (call.Queue c) now h e = ap Queue (same_without_queue_effect settings items c e)
same_on settings (Map entry) (call.Queue c) now h e = absurd (true≢false (sym h))
same_on settings (Queue items) (call.Map c) now h e = absurd (true≢false (sym h))

-- with an effect

pub map_effect_differs : (settings : Settings) (entry : MapRecord) (c : MapCall) (now : ℕ) (effect : Effect) → map_effect settings entry c now ≡ Some effect → entries.after settings.forms entry c now ≢ entry
map_effect_differs settings entry c now effect e same = go (is_same_entry entry next) refl e
  where
    next : MapRecord
    next = entries.after settings.forms entry c now

    go : (test : Bool) → is_same_entry entry next ≡ test → (if test then None else Some (entry_effect (map_of c) (key_of c) next)) ≡ Some effect → ⊥
    go true is some = cc
    go false is some = true≢false (sym ((entry_decides entry next).1 (sym same)) ∙ is)

pub queue_effect_differs : (settings : Settings) (items : List (List ℕ)) (c : QueueCall) (effect : Effect) → queue_effect settings items c ≡ Some effect → queue_after items c settings.capacity ≢ items
queue_effect_differs settings items c effect e same =
    let none : queue_step items c settings.capacity ≡ step.Same = (steps_where_it_changes items c settings.capacity).1 same in
    let clash : None ≡ Some effect = sym (ap (step_effect c) none) ∙ e in
    cc

pub differs_on : (settings : Settings) (kept : Record) (r : GridCall) (now : ℕ) (effect : Effect) → suits (object_of r) kept ≡ true → effect_on settings kept r now ≡ Some effect → after settings kept r now ≢ kept
differs_on settings (Map entry) (call.Map c) now effect h e same = map_effect_differs settings entry c now effect e (ap entry_in same)
differs_on settings (Queue items) (call.Queue c) now effect h e same = queue_effect_differs settings items c effect e (ap items_in same)
differs_on settings (Map entry) (call.Queue c) now effect h e same = true≢false (sym h)
differs_on settings (Queue items) (call.Map c) now effect h e same = true≢false (sym h)

-- by an effect

-- The effect has a spelling, fits the partition, and makes it one that keeps this of the object.
pub record Makes (s : Partition) (effect : Effect) (t : Partition) : Type 0 where
  pub spelled : IsSpelledEffect effect
  pub fits : fits s effect ≡ true
  pub made : after_effect s effect ≡ t

-- An entry that has neither a value nor a lock is empty.
emptied : (entry : MapRecord) → IsWhole entry → has_value_or_lock entry ≡ false → entry ≡ empty_entry
emptied entry whole e = go entry.value entry.expires entry.idle entry.lock whole.expires whole.idle e
  where
    go : (value : Option (List ℕ)) (expires : Option ℕ) (idle : Option Idle) (lock : Option Lock) → (value ≡ None → expires ≡ None) → (value ≡ None → idle ≡ None)
        → (is_some value || is_some lock) ≡ false → ◌≡◌ {A = MapRecord} (record { value = value; expires = expires; idle = idle; lock = lock }) empty_entry
    go (Some value) expires idle lock ends spans none = absurd (true≢false none)
    go None expires idle (Some lock) ends spans none = absurd (true≢false none)
    go None None None None ends spans none = refl
    go None (Some end) idle None ends spans none = absurd (let is : Some end ≡ None = ends refl in cc)
    go None None (Some span) None ends spans none = absurd (let is : Some span ≡ None = spans refl in cc)

entry_made : (s : Partition) (map key : List ℕ) (entry : MapRecord) → FitsFrame map → FitsFrame key → EntryFits entry → Makes s (entry_effect map key entry) (with_record s (object.Entry map key) (Map entry))
entry_made s map key entry map_fits key_fits h = go (has_value_or_lock entry) refl
  where
    go : (stays : Bool) → has_value_or_lock entry ≡ stays → Makes s (if stays then SetEntry map key entry else DropEntry map key) (with_record s (object.Entry map key) (Map entry))
    go true is = record { spelled = (sized map map_fits, sized key key_fits, h.numbers, is); fits = is; made = refl }
    go false is = record {
      spelled = (sized map map_fits, sized key key_fits);
      fits = refl;
      made = ap (λ left. with_record s (object.Entry map key) (Map left)) (sym (emptied entry h.whole is));
    }

map_made : (settings : Settings) (s : Partition) (entry : MapRecord) (c : MapCall) (now : ℕ) (effect : Effect) → MapCallFits c → MapNumbersFit c → EntryFits entry
    → map_effect settings entry c now ≡ Some effect → Makes s effect (with_record s (object.Entry (map_of c) (key_of c)) (Map (entries.after settings.forms entry c now)))
map_made settings s entry c now effect fits numbers h e = go (is_same_entry entry next) e
  where
    next : MapRecord
    next = entries.after settings.forms entry c now

    after : Partition
    after = with_record s (object.Entry (map_of c) (key_of c)) (Map next)

    go : (same : Bool) → (if same then None else Some (entry_effect (map_of c) (key_of c) next)) ≡ Some effect → Makes s effect after
    go true is = cc
    go false is =
        let same : entry_effect (map_of c) (key_of c) next ≡ effect = cc in
        subst (λ made. Makes s made after) same (entry_made s (map_of c) (key_of c) next fits.0 fits.1 (entry_after_fits settings.forms entry c now fits numbers h))

-- what has a value isn't nothing
something : (kept : Record) (item : List ℕ) (items : List (List ℕ)) → items_in kept ≡ item ∷ items → is_nothing kept ≡ false
something (Map entry) item items e = cc
something (Queue []) item items e = cc
something (Queue (first ∷ more)) item items e = refl

module _ (settings : Settings) (s : Partition) (kept : Record) where
  queue_made : (items : List (List ℕ)) (c : QueueCall) (effect : Effect) → record_at s (object.Queue (queue_of c)) ≡ kept → items_in kept ≡ items → QueueCallFits c
      → queue_effect settings items c ≡ Some effect → Makes s effect (with_record s (object.Queue (queue_of c)) (Queue (queue_after items c settings.capacity)))
  queue_made items (Offer name value) effect at is fits_call e = go (has_room items settings.capacity) e
    where
      before : items_in (record_at s (object.Queue name)) ≡ items
      before = ap items_in at ∙ is

      go : (room : Bool) → step_effect (Offer name value) (if room then step.Push else step.Same) ≡ Some effect → Makes s effect (with_record s (object.Queue name) (Queue (if room then items ++ value ∷ [] else items)))
      go true is_pushed =
          let same : Push name value ≡ effect = cc in
          subst (λ made. Makes s made (with_record s (object.Queue name) (Queue (items ++ value ∷ [])))) same (record {
            spelled = (sized name fits_call.0, sized value (All-head FitsFrame value [] fits_call.1));
            fits = refl;
            made = ap (λ front. with_record s (object.Queue name) (Queue (front ++ value ∷ []))) before;
          })
      go false is_same = cc
  queue_made [] (Poll name) effect at is fits_call e = cc
  queue_made (item ∷ items) (Poll name) effect at is fits_call e =
      let same : Pop name ≡ effect = cc in
      subst (λ made. Makes s made (with_record s (object.Queue name) (Queue items))) same (record {
        spelled = sized name fits_call.0;
        fits = ap (λ record'. not (is_nothing record')) at ∙ ap not (something kept item items is);
        made = ap (λ all. with_record s (object.Queue name) (Queue (drop 1 all))) (ap items_in at ∙ is);
      })
  queue_made items (Peek name) effect at is fits_call e = cc
  queue_made items (Size name) effect at is fits_call e = cc
  queue_made items (RemainingCapacity name) effect at is fits_call e = cc
  queue_made [] (Clear name) effect at is fits_call e = cc
  queue_made (item ∷ items) (Clear name) effect at is fits_call e =
      let same : ClearQueue name ≡ effect = cc in
      subst (λ made. Makes s made (with_record s (object.Queue name) (Queue []))) same (record { spelled = sized name fits_call.0; fits = refl; made = refl })

pub made_on : (settings : Settings) (s : Partition) (calls : ℕ) (r : GridCall) (now : ℕ) (effect : Effect) → CallFits r → NumbersFit r → RecordFits calls (record_at s (object_of r))
    → effect_on settings (record_at s (object_of r)) r now ≡ Some effect → Makes s effect (with_record s (object_of r) (after settings (record_at s (object_of r)) r now))
made_on settings s calls (call.Map c) now effect fits_call numbers h e =
    map_made settings s (entry_in (record_at s (object_of (call.Map c)))) c now effect fits_call numbers (entry_in_fits calls (record_at s (object_of (call.Map c))) h) e
made_on settings s calls (call.Queue c) now effect fits_call numbers h e =
    queue_made settings s (record_at s (object_of (call.Queue c))) (items_in (record_at s (object_of (call.Queue c)))) c effect refl refl fits_call e
