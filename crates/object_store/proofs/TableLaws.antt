-- What changes of the tables leave.
use Rattle.std.proofs.Common.{◌≡◌, ℕ, Bool, true, false, cond, ◌&&◌, List, [], ◌∷◌, ◌++◌, map as each, bytes_eq, All, Option, Some, None, IfSome, unwrap_or, refl, ap, sym, subst, ◌∙◌, ⊎_elim, if◌then◌else◌}
use Rattle.std.proofs.lemmas.List.Elements.{All-nil, All-cons, All-append}
use Rattle.std.proofs.lemmas.Map.{lookup-none}
use Rattle.std.proofs.lemmas.Map.Entries.{none_past_head}
use Rattle.std.specs.List.{flat_map, IsDistinct}
use Rattle.std.specs.Option.{option_and_then, option_map}
use Rattle.std.specs.Ordering.{eq_by_cmp}
use Rattle.std.specs.Map.{lookup, keys_of}
use Rattle.std.specs.FinMap as finite
use Rattle.std.specs.HashMap.{get, IsUnique}
use Rattle.std.specs.Cmp.Lexicographic.{bytes_decides, nat_list_eq_equiv}
use Rattle.grid_base.specs.declared.names.ObjectKey.{ObjectKey}
use Rattle.grid_base.specs.declared.names.ObjectKey.TheVariants.{Entry, Queue}
use Rattle.grid_base.specs.Names.{is_same}
use Rattle.map_records.specs.declared.records.MapRecord.{MapRecord}
use Rattle.map_records.specs.MapEntries.{empty_entry}
use Rattle.object_store.specs.Records.{Record, items_in, kept_entry, kept_items}
use Rattle.object_store.specs.Records.{Map as OfMap, Queue as OfQueue}
use Rattle.object_store.specs.Partitions.{Partition, object_cmp, record_at, with_record}
use Rattle.object_store.specs.Tables.{Entries, Maps, Queues, entries_stored, queue_stored, tables_stored, partition_in, entry_at, items_at, IsEntryKept, IsQueueKept, IsMapKept, AreMapsKept, AreQueuesKept, SetsEntry, SetsMapEntry, HasSameEntries, SetsQueue, HasSameQueues}
use Rattle.object_store.proofs.PartitionLaws.{true_or_false, same_object, same_name, IsSuited, record_at-with, record_at-other, record_at-partition_of, same_partition}

module _ {S : Type 0} where
  -- the last entry of a map goes, and its table with it
  pub dropped_with_map : (old between new : Maps S) (before after : Entries S) (name key : List ℕ)
      → get bytes_eq old name ≡ Some before → SetsEntry before after key None → after.entries ≡ []
      → ((other : List ℕ) → get bytes_eq between other ≡ cond (bytes_eq name other) (Some after) (get bytes_eq old other))
      → ((other : List ℕ) → get bytes_eq new other ≡ cond (bytes_eq name other) None (get bytes_eq between other))
      → SetsMapEntry old new name key None
  dropped_with_map old between new before after name key was sets empty written removed name' key' = ⊎_elim
      (λ same.
      let same_name : name ≡ name' = (bytes_decides name name').0 same in
      let gone : get bytes_eq new name' ≡ None = removed name' ∙ ap (λ b. cond b None (get bytes_eq between name')) same in
      let before' : get bytes_eq old name' ≡ Some before = subst (λ n. get bytes_eq old n ≡ Some before) same_name was in
      ap (λ got. option_and_then (λ (entries : Entries S). get bytes_eq entries key') got) gone
      ∙ none_else (bytes_eq name name') (bytes_eq key key') (entry_at old name' key') (λ other.
      ap (λ got. option_and_then (λ (entries : Entries S). get bytes_eq entries key') got) before'
      ∙ sym (sets key' ∙ ap (λ b. if b then None else get bytes_eq before key') other)
      ∙ ap (λ entries. lookup (bytes_eq key') entries) empty) same)
      (λ apart.
      ap (λ got. option_and_then (λ (entries : Entries S). get bytes_eq entries key') got)
      (removed name' ∙ ap (λ b. cond b None (get bytes_eq between name')) apart ∙ written name' ∙ ap (λ b. cond b (Some after) (get bytes_eq old name')) apart)
      ∙ ap (λ b. if b && bytes_eq key key' then None else entry_at old name' key') (sym apart))
      (true_or_false (bytes_eq name name'))
    where
      none_else : {X : Type 0} (a b : Bool) (x : Option X) → (b ≡ false → x ≡ None) → a ≡ true → None ≡ (if a && b then None else x)
      none_else true true x h e = refl
      none_else true false x h e = sym (h refl)
      none_else false b x h e = cc

-- what is found among the objects of the tables

abbrev pub found : List (ObjectKey × Record) → ObjectKey → Option Record
found stored name = finite.find object_cmp name stored

abbrev pub or_else : {X : Type 0} → Option X → Option X → Option X
or_else None other = other
or_else (Some x) other = Some x

or_none : {X : Type 0} (o : Option X) → or_else o None ≡ o
or_none None = refl
or_none (Some x) = refl

or_else-cond : {X : Type 0} (test : Bool) (x : X) (a b : Option X) → cond test (Some x) (or_else a b) ≡ or_else (cond test (Some x) a) b
or_else-cond true x a b = refl
or_else-cond false x a b = refl

pub found-append : (stored more : List (ObjectKey × Record)) (name : ObjectKey) → found (stored ++ more) name ≡ or_else (found stored name) (found more name)
found-append [] more name = refl
found-append (first ∷ stored) more name =
    ap (λ rest. cond (eq_by_cmp object_cmp name first.0) (Some first.1) rest) (found-append stored more name)
    ∙ or_else-cond (eq_by_cmp object_cmp name first.0) first.1 (found stored name) (found more name)

abbrev pub entry_of : List ℕ → List ℕ × MapRecord → ObjectKey × Record
entry_of name entry = (Entry name entry.0, OfMap entry.1)

entry_found : (a b : Bool) (entry : MapRecord) (rest : Option MapRecord) → cond (a && b) (Some (OfMap entry)) (if a then option_map OfMap rest else None) ≡ (if a then option_map OfMap (cond b (Some entry) rest) else None)
entry_found true true entry rest = refl
entry_found true false entry rest = refl
entry_found false b entry rest = refl

pub found_entries : (entries : List (List ℕ × MapRecord)) (name name' key : List ℕ) → found (each (entry_of name) entries) (Entry name' key) ≡ (if bytes_eq name' name then option_map OfMap (lookup (bytes_eq key) entries) else None)
found_entries [] name name' key = none (bytes_eq name' name)
  where
    none : (test : Bool) → ◌≡◌ {A = Option Record} None (if test then None else None)
    none true = refl
    none false = refl
found_entries (first ∷ more) name name' key =
    ap (λ test. cond test (Some (OfMap first.1)) (found (each (entry_of name) more) (Entry name' key))) (same_object (Entry name' key) (Entry name first.0))
    ∙ ap (λ rest. cond (bytes_eq name' name && bytes_eq key first.0) (Some (OfMap first.1)) rest) (found_entries more name name' key)
    ∙ entry_found (bytes_eq name' name) (bytes_eq key first.0) first.1 (lookup (bytes_eq key) more)

pub found_entries_queue : (entries : List (List ℕ × MapRecord)) (name queue : List ℕ) → found (each (entry_of name) entries) (Queue queue) ≡ None
found_entries_queue [] name queue = refl
found_entries_queue (first ∷ more) name queue = found_entries_queue more name queue

pub found_queues : (queues : List (List ℕ × List (List ℕ))) (name : List ℕ) → found (each queue_stored queues) (Queue name) ≡ option_map OfQueue (lookup (bytes_eq name) queues)
found_queues [] name = refl
found_queues (first ∷ more) name =
    ap (λ test. cond test (Some (OfQueue first.1)) (found (each queue_stored more) (Queue name))) (same_object (Queue name) (Queue first.0))
    ∙ ap (λ rest. cond (bytes_eq name first.0) (Some (OfQueue first.1)) rest) (found_queues more name)
    ∙ inside (bytes_eq name first.0) first.1 (lookup (bytes_eq name) more)
  where
    inside : (test : Bool) (items : List (List ℕ)) (rest : Option (List (List ℕ))) → cond test (Some (OfQueue items)) (option_map OfQueue rest) ≡ option_map OfQueue (cond test (Some items) rest)
    inside true items rest = refl
    inside false items rest = refl

pub found_queues_entry : (queues : List (List ℕ × List (List ℕ))) (name key : List ℕ) → found (each queue_stored queues) (Entry name key) ≡ None
found_queues_entry [] name key = refl
found_queues_entry (first ∷ more) name key = found_queues_entry more name key

suited_entries : (entries : List (List ℕ × MapRecord)) (name : List ℕ) → All IsSuited (each (entry_of name) entries)
suited_entries [] name = All-nil IsSuited
suited_entries (first ∷ more) name = All-cons IsSuited (entry_of name first) (each (entry_of name) more) refl (suited_entries more name)

suited_queues : (queues : List (List ℕ × List (List ℕ))) → All IsSuited (each queue_stored queues)
suited_queues [] = All-nil IsSuited
suited_queues (first ∷ more) = All-cons IsSuited (queue_stored first) (each queue_stored more) refl (suited_queues more)

kept_of_entry : (entry : Option MapRecord) → IfSome entry IsEntryKept → entry ≡ kept_entry (OfMap (unwrap_or entry empty_entry))
kept_of_entry None h = refl
kept_of_entry (Some entry) h = sym (ap (λ nothing. if nothing then None else Some entry) h)

kept_of_queue : (items : Option (List (List ℕ))) → IfSome items IsQueueKept → items ≡ kept_items (OfQueue (unwrap_or items []))
kept_of_queue None h = refl
kept_of_queue (Some items) h = sym (ap (λ nothing. if nothing then None else Some items) h)

module _ {S : Type 0} where
  abbrev pub record_found : List (List ℕ × Entries S) → List ℕ → List ℕ → Option MapRecord
  record_found maps name key = option_and_then (λ (entries : Entries S). get bytes_eq entries key) (lookup (bytes_eq name) maps)

  distinct_tail : (first : List ℕ × Entries S) (more : List (List ℕ × Entries S)) → IsDistinct bytes_eq (keys_of (first ∷ more)) → IsDistinct bytes_eq (keys_of more)
  unfolding IsDistinct
  distinct_tail first more h = h.1

  pub found_maps : (maps : List (List ℕ × Entries S)) (name key : List ℕ) → IsDistinct bytes_eq (keys_of maps) → found (flat_map entries_stored maps) (Entry name key) ≡ option_map OfMap (record_found maps name key)
  found_maps [] name key h = refl
  found_maps (first ∷ more) name key h =
      found-append (entries_stored first) (flat_map entries_stored more) (Entry name key)
      ∙ ap (λ one. or_else one (found (flat_map entries_stored more) (Entry name key))) (found_entries first.1.entries first.0 name key)
      ∙ ap (λ rest. or_else (if bytes_eq name first.0 then option_map OfMap (get bytes_eq first.1 key) else None) rest) (found_maps more name key (distinct_tail first more h))
      ∙ by (bytes_eq name first.0) refl
    where
      by : (test : Bool) → bytes_eq name first.0 ≡ test
          → or_else (if test then option_map OfMap (get bytes_eq first.1 key) else None) (option_map OfMap (record_found more name key))
          ≡ option_map OfMap (option_and_then (λ (entries : Entries S). get bytes_eq entries key) (cond test (Some first.1) (lookup (bytes_eq name) more)))
      by true e =
          let none : lookup (bytes_eq name) more ≡ None = lookup-none (bytes_eq name) more (none_past_head nat_list_eq_equiv name first more h e) in
          ap (λ got. or_else (option_map OfMap (get bytes_eq first.1 key)) (option_map OfMap (option_and_then (λ (entries : Entries S). get bytes_eq entries key) got))) none
          ∙ or_none (option_map OfMap (get bytes_eq first.1 key))
      by false e = refl

  pub found_maps_queue : (maps : List (List ℕ × Entries S)) (name : List ℕ) → found (flat_map entries_stored maps) (Queue name) ≡ None
  found_maps_queue [] name = refl
  found_maps_queue (first ∷ more) name =
      found-append (entries_stored first) (flat_map entries_stored more) (Queue name)
      ∙ ap (λ one. or_else one (found (flat_map entries_stored more) (Queue name))) (found_entries_queue first.1.entries first.0 name)
      ∙ found_maps_queue more name

  suited_maps : (maps : List (List ℕ × Entries S)) → All IsSuited (flat_map entries_stored maps)
  suited_maps [] = All-nil IsSuited
  suited_maps (first ∷ more) = All-append IsSuited (entries_stored first) (flat_map entries_stored more) (suited_entries first.1.entries first.0) (suited_maps more)

  suited_tables : (maps : Maps S) (queues : Queues S) → All IsSuited (tables_stored maps queues)
  suited_tables maps queues = All-append IsSuited (flat_map entries_stored maps.entries) (each queue_stored queues.entries) (suited_maps maps.entries) (suited_queues queues.entries)

  pub found_tables_entry : (maps : Maps S) (queues : Queues S) (name key : List ℕ) → IsUnique bytes_eq maps → found (tables_stored maps queues) (Entry name key) ≡ option_map OfMap (entry_at maps name key)
  found_tables_entry maps queues name key unique =
      found-append (flat_map entries_stored maps.entries) (each queue_stored queues.entries) (Entry name key)
      ∙ ap (λ got. or_else got (found (each queue_stored queues.entries) (Entry name key))) (found_maps maps.entries name key unique)
      ∙ ap (λ got. or_else (option_map OfMap (entry_at maps name key)) got) (found_queues_entry queues.entries name key)
      ∙ or_none (option_map OfMap (entry_at maps name key))

  pub found_tables_queue : (maps : Maps S) (queues : Queues S) (name : List ℕ) → found (tables_stored maps queues) (Queue name) ≡ option_map OfQueue (get bytes_eq queues name)
  found_tables_queue maps queues name =
      found-append (flat_map entries_stored maps.entries) (each queue_stored queues.entries) (Queue name)
      ∙ ap (λ got. or_else got (found (each queue_stored queues.entries) (Queue name))) (found_maps_queue maps.entries name)
      ∙ found_queues queues.entries name

  -- what the partition of the tables keeps

  pub record_at-entry : (maps : Maps S) (queues : Queues S) (name key : List ℕ) → IsUnique bytes_eq maps → record_at (partition_in maps queues) (Entry name key) ≡ OfMap (unwrap_or (entry_at maps name key) empty_entry)
  record_at-entry maps queues name key unique =
      record_at-partition_of (tables_stored maps queues) (Entry name key) (suited_tables maps queues)
      ∙ ap (λ got. unwrap_or got (OfMap empty_entry)) (found_tables_entry maps queues name key unique)
      ∙ by (entry_at maps name key)
    where
      by : (entry : Option MapRecord) → unwrap_or (option_map OfMap entry) (OfMap empty_entry) ≡ OfMap (unwrap_or entry empty_entry)
      by None = refl
      by (Some entry) = refl

  pub record_at-queue : (maps : Maps S) (queues : Queues S) (name : List ℕ) → record_at (partition_in maps queues) (Queue name) ≡ OfQueue (items_at queues name)
  record_at-queue maps queues name =
      record_at-partition_of (tables_stored maps queues) (Queue name) (suited_tables maps queues)
      ∙ ap (λ got. unwrap_or got (OfQueue [])) (found_tables_queue maps queues name)
      ∙ by (get bytes_eq queues name)
    where
      by : (items : Option (List (List ℕ))) → unwrap_or (option_map OfQueue items) (OfQueue []) ≡ OfQueue (unwrap_or items [])
      by None = refl
      by (Some items) = refl

  -- what changes of the tables make of the partition

  pub same_in_tables : (old new : Maps S) (queues : Queues S) → IsUnique bytes_eq old → IsUnique bytes_eq new → HasSameEntries old new → partition_in new queues ≡ partition_in old queues
  same_in_tables old new queues before after same = same_partition (partition_in new queues) (partition_in old queues) each_name
    where
      each_name : (name : ObjectKey) → record_at (partition_in new queues) name ≡ record_at (partition_in old queues) name
      each_name (Entry name key) = record_at-entry new queues name key after ∙ ap (λ entry. OfMap (unwrap_or entry empty_entry)) (same name key) ∙ sym (record_at-entry old queues name key before)
      each_name (Queue name) = record_at-queue new queues name ∙ sym (record_at-queue old queues name)

  pub same_in_queues : (maps : Maps S) (old new : Queues S) → IsUnique bytes_eq maps → HasSameQueues old new → partition_in maps new ≡ partition_in maps old
  same_in_queues maps old new unique same = same_partition (partition_in maps new) (partition_in maps old) each_name
    where
      each_name : (name : ObjectKey) → record_at (partition_in maps new) name ≡ record_at (partition_in maps old) name
      each_name (Entry name key) = record_at-entry maps new name key unique ∙ sym (record_at-entry maps old name key unique)
      each_name (Queue name) = record_at-queue maps new name ∙ ap (λ items. OfQueue (unwrap_or items [])) (same name) ∙ sym (record_at-queue maps old name)

  pub entry_set : (old new : Maps S) (queues : Queues S) (name key : List ℕ) (entry : Option MapRecord) → IsUnique bytes_eq old → IsUnique bytes_eq new → SetsMapEntry old new name key entry
      → partition_in new queues ≡ with_record (partition_in old queues) (Entry name key) (OfMap (unwrap_or entry empty_entry))
  entry_set old new queues name key entry before after sets = same_partition (partition_in new queues) made each_name
    where
      kept : Record
      kept = OfMap (unwrap_or entry empty_entry)

      made : Partition
      made = with_record (partition_in old queues) (Entry name key) kept

      each_name : (other : ObjectKey) → record_at (partition_in new queues) other ≡ record_at made other
      each_name (Queue other) = record_at-queue new queues other ∙ sym (record_at-queue old queues other) ∙ sym (record_at-other (partition_in old queues) (Entry name key) kept (Queue other) refl)
      each_name (Entry name' key') =
          record_at-entry new queues name' key' after
          ∙ ap (λ got. OfMap (unwrap_or got empty_entry)) (sets name' key')
          ∙ ⊎_elim
          (λ same.
          let is : Entry name' key' ≡ Entry name key = same_name (Entry name' key') (Entry name key) (turned ∙ same) in
          ap (λ test. OfMap (unwrap_or (if test then entry else entry_at old name' key') empty_entry)) same
          ∙ sym (record_at-with (partition_in old queues) (Entry name key) kept refl)
          ∙ ap (record_at made) (sym is))
          (λ apart.
          ap (λ test. OfMap (unwrap_or (if test then entry else entry_at old name' key') empty_entry)) apart
          ∙ sym (record_at-entry old queues name' key' before)
          ∙ sym (record_at-other (partition_in old queues) (Entry name key) kept (Entry name' key') (turned ∙ apart)))
          (true_or_false (bytes_eq name name' && bytes_eq key key'))
        where
          turned : is_same (Entry name' key') (Entry name key) ≡ (bytes_eq name name' && bytes_eq key key')
          turned = λ i. nat_list_eq_equiv.symm name' name i && nat_list_eq_equiv.symm key' key i

  pub queue_set : (maps : Maps S) (old new : Queues S) (name : List ℕ) (items : Option (List (List ℕ))) → IsUnique bytes_eq maps → SetsQueue old new name items
      → partition_in maps new ≡ with_record (partition_in maps old) (Queue name) (OfQueue (unwrap_or items []))
  queue_set maps old new name items unique sets = same_partition (partition_in maps new) made each_name
    where
      kept : Record
      kept = OfQueue (unwrap_or items [])

      made : Partition
      made = with_record (partition_in maps old) (Queue name) kept

      each_name : (other : ObjectKey) → record_at (partition_in maps new) other ≡ record_at made other
      each_name (Entry other key) = record_at-entry maps new other key unique ∙ sym (record_at-entry maps old other key unique) ∙ sym (record_at-other (partition_in maps old) (Queue name) kept (Entry other key) refl)
      each_name (Queue other) =
          record_at-queue maps new other
          ∙ ap (λ got. OfQueue (unwrap_or got [])) (sets other)
          ∙ ⊎_elim
          (λ same.
          let is : Queue other ≡ Queue name = same_name (Queue other) (Queue name) (nat_list_eq_equiv.symm other name ∙ same) in
          ap (λ test. OfQueue (unwrap_or (if test then items else get bytes_eq old other) [])) same
          ∙ sym (record_at-with (partition_in maps old) (Queue name) kept refl)
          ∙ ap (record_at made) (sym is))
          (λ apart.
          ap (λ test. OfQueue (unwrap_or (if test then items else get bytes_eq old other) [])) apart
          ∙ sym (record_at-queue maps old other)
          ∙ sym (record_at-other (partition_in maps old) (Queue name) kept (Queue other) (nat_list_eq_equiv.symm other name ∙ apart)))
          (true_or_false (bytes_eq name other))

  -- The same, over the partition that the tables had before.

  pub queue_changed : (s : Partition) (maps : Maps S) (old new : Queues S) (name : List ℕ) (items : Option (List (List ℕ))) (change : List (List ℕ) → List (List ℕ))
      → partition_in maps old ≡ s → IsUnique bytes_eq maps → SetsQueue old new name items → unwrap_or items [] ≡ change (items_at old name)
      → partition_in maps new ≡ with_record s (Queue name) (OfQueue (change (items_in (record_at s (Queue name)))))
  queue_changed s maps old new name items change before unique sets is =
      queue_set maps old new name items unique sets
      ∙ ap (λ after. with_record (partition_in maps old) (Queue name) (OfQueue after)) (is ∙ ap change (sym (ap items_in (record_at-queue maps old name))))
      ∙ ap (λ from. with_record from (Queue name) (OfQueue (change (items_in (record_at from (Queue name)))))) before

  -- what a look-up finds

  entry_is_kept : (maps : Maps S) (name key : List ℕ) → AreMapsKept maps → IfSome (entry_at maps name key) IsEntryKept
  entry_is_kept maps name key kept = by (get bytes_eq maps name) (kept.1 name)
    where
      by : (got : Option (Entries S)) → IfSome got IsMapKept → IfSome (option_and_then (λ (entries : Entries S). get bytes_eq entries key) got) IsEntryKept
      by None h = tt
      by (Some entries) h = h.1.1 key

  pub entry_looked_up : (s : Partition) (maps : Maps S) (queues : Queues S) (name key : List ℕ) → partition_in maps queues ≡ s → AreMapsKept maps → entry_at maps name key ≡ kept_entry (record_at s (Entry name key))
  entry_looked_up s maps queues name key is kept =
      kept_of_entry (entry_at maps name key) (entry_is_kept maps name key kept)
      ∙ ap kept_entry (sym (record_at-entry maps queues name key kept.0))
      ∙ ap (λ from. kept_entry (record_at from (Entry name key))) is

  pub queue_looked_up : (s : Partition) (maps : Maps S) (queues : Queues S) (name : List ℕ) → partition_in maps queues ≡ s → AreQueuesKept queues → get bytes_eq queues name ≡ kept_items (record_at s (Queue name))
  queue_looked_up s maps queues name is kept =
      kept_of_queue (get bytes_eq queues name) (kept.1 name)
      ∙ ap kept_items (sym (record_at-queue maps queues name))
      ∙ ap (λ from. kept_items (record_at from (Queue name))) is

pub unwrap-kept_items : (items : List (List ℕ)) → unwrap_or (kept_items (OfQueue items)) [] ≡ items
unwrap-kept_items [] = refl
unwrap-kept_items (item ∷ items) = refl
