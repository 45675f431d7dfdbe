-- What is looked up is what is kept, of an entry and of a queue; where nothing is found, nothing is kept.
use Rattle.std.proofs.Common.{◌≡◌, ℕ, Bool, true, false, not, ◌&&◌, List, [], ◌∷◌, Option, Some, None, is_some, refl, sym, true≢false}
use Rattle.std.specs.Prelude.{if◌then◌else◌}
use Rattle.key_locks.specs.declared.locks.Lock.{Lock}
use Rattle.map_records.specs.declared.records.Idle.{Idle}
use Rattle.map_records.specs.declared.records.MapRecord.{MapRecord}
use Rattle.map_records.specs.MapEntries.{empty_entry}
use Rattle.object_store.specs.Records.{Record, Map, Queue, kept_entry, kept_items, entry_in, items_in, is_nothing}

pub found_entry : (kept : Record) (entry : MapRecord) → Some entry ≡ kept_entry kept → entry ≡ entry_in kept
found_entry kept entry e = go (is_nothing kept) e
  where
    go : (nothing : Bool) → Some entry ≡ (if nothing then None else Some (entry_in kept)) → entry ≡ entry_in kept
    go true is = cc
    go false is = cc

nothing_in : (kept : Record) → is_nothing kept ≡ true → (entry_in kept ≡ empty_entry) × (items_in kept ≡ [])
nothing_in (Map entry) e = (empty_of entry.value entry.expires entry.idle entry.lock e, refl)
  where
    empty_of : (value : Option (List ℕ)) (expires : Option ℕ) (idle : Option Idle) (lock : Option Lock) → (not (is_some value) && not (is_some expires) && not (is_some idle) && not (is_some lock)) ≡ true
        → ◌≡◌ {A = MapRecord} (record { value = value; expires = expires; idle = idle; lock = lock }) empty_entry
    empty_of None None None None is = refl
    empty_of None None None (Some lock) is = absurd (true≢false (sym is))
    empty_of None None (Some idle) lock is = absurd (true≢false (sym is))
    empty_of None (Some expires) idle lock is = absurd (true≢false (sym is))
    empty_of (Some value) expires idle lock is = absurd (true≢false (sym is))
nothing_in (Queue []) e = (refl, refl)
nothing_in (Queue (item ∷ items)) e = absurd (true≢false (sym e))

pub no_entry : (kept : Record) → None ≡ kept_entry kept → entry_in kept ≡ empty_entry
no_entry kept e = go (is_nothing kept) refl e
  where
    go : (nothing : Bool) → is_nothing kept ≡ nothing → None ≡ (if nothing then None else Some (entry_in kept)) → entry_in kept ≡ empty_entry
    go true it is = (nothing_in kept it).0
    go false it is = cc

pub found_items : (kept : Record) (items : List (List ℕ)) → Some items ≡ kept_items kept → items ≡ items_in kept
found_items kept items e = go (is_nothing kept) e
  where
    go : (nothing : Bool) → Some items ≡ (if nothing then None else Some (items_in kept)) → items ≡ items_in kept
    go true is = cc
    go false is = cc

pub no_items : (kept : Record) → None ≡ kept_items kept → items_in kept ≡ []
no_items kept e = go (is_nothing kept) refl e
  where
    go : (nothing : Bool) → is_nothing kept ≡ nothing → None ≡ (if nothing then None else Some (items_in kept)) → items_in kept ≡ []
    go true it is = (nothing_in kept it).1
    go false it is = cc
