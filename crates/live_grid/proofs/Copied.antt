-- What is kept of an object, copied, is what is kept of it.
use Rattle.std.proofs.Common.{◌≡◌, Bool, true, false, cond, List, Option, Some, None, Result, Ok, Err, IfOk, refl, ap, sym, ◌∙◌, true≢false, ℕ}
use Rattle.std.specs.Option.{option_map}
use Rattle.grid_base.specs.declared.names.ObjectKey.TheVariants as object
use Rattle.map_records.specs.declared.records.MapRecord.{MapRecord}
use Rattle.object_store.specs.Records.{Record, is_nothing, suits, kept_entry, kept_items, entry_in, items_in}
use Rattle.object_store.specs.Records as kept
use Rattle.object_store.specs.Partitions.{Partition, record_at}
use Rattle.object_store.proofs.PartitionLaws.{record_at-suits}
use Rattle.live_grid.specs.declared.copies.Record.{Record as Copy}
use Rattle.live_grid.specs.declared.copies.Record.TheVariants.{Map, Queue}
use Rattle.live_grid.specs.Stored.{record_of, something_of}

-- what is told of a result is told by an equal value
pub told_as : {X Y Error : Type 0} (f : X → Y) (r : Result X Error) (x : X) (y : Y) → IfOk r (λ v. v ≡ x) → f x ≡ y → IfOk r (λ v. f v ≡ y)
told_as f (Ok v) x y is same = ap f is ∙ same
told_as f (Err e) x y is same = tt

of_entry : (map key : List ℕ) (r : Record) → suits (object.Entry map key) r ≡ true → option_map record_of (option_map (λ entry. Map entry) (kept_entry r)) ≡ something_of r
of_entry map key (kept.Map entry) suit = go (is_nothing (kept.Map entry))
  where
    go : (b : Bool) → option_map record_of (option_map (λ e. Map e) (cond b None (Some entry))) ≡ cond b None (Some (kept.Map entry))
    go true = refl
    go false = refl
of_entry map key (kept.Queue items) suit = absurd (true≢false (sym suit))

of_queue : (name : List ℕ) (r : Record) → suits (object.Queue name) r ≡ true → option_map record_of (option_map (λ items. Queue items) (kept_items r)) ≡ something_of r
of_queue name (kept.Queue items) suit = go (is_nothing (kept.Queue items))
  where
    go : (b : Bool) → option_map record_of (option_map (λ xs. Queue xs) (cond b None (Some items))) ≡ cond b None (Some (kept.Queue items))
    go true = refl
    go false = refl
of_queue name (kept.Map entry) suit = absurd (true≢false (sym suit))

module _ {Error : Type 0} (s : Partition) (r : Result (Option Copy) Error) where
  pub entry_told : (map key : List ℕ) (got : Option MapRecord) → got ≡ kept_entry (record_at s (object.Entry map key)) → IfOk r (λ copy. copy ≡ option_map (λ entry. Map entry) got)
      → IfOk r (λ copy. option_map record_of copy ≡ something_of (record_at s (object.Entry map key)))
  entry_told map key got is told =
      told_as (option_map record_of) r (option_map (λ entry. Map entry) got) (something_of (record_at s (object.Entry map key))) told
      (ap (λ g. option_map record_of (option_map (λ entry. Map entry) g)) is ∙ of_entry map key (record_at s (object.Entry map key)) (record_at-suits s (object.Entry map key)))

  pub queue_told : (name : List ℕ) (got : Option (List (List ℕ))) → got ≡ kept_items (record_at s (object.Queue name)) → IfOk r (λ copy. copy ≡ option_map (λ items. Queue items) got)
      → IfOk r (λ copy. option_map record_of copy ≡ something_of (record_at s (object.Queue name)))
  queue_told name got is told =
      told_as (option_map record_of) r (option_map (λ items. Queue items) got) (something_of (record_at s (object.Queue name))) told
      (ap (λ g. option_map record_of (option_map (λ items. Queue items) g)) is ∙ of_queue name (record_at s (object.Queue name)) (record_at-suits s (object.Queue name)))
