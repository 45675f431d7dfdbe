-- What so many calls can make a partition keep: nothing at first, one call more after each, and what fits a snapshot.
-- It stands here for the laws of `ShelfLaws`.
use Rattle.std.proofs.Common.{◌≡◌, ℕ, ◌+◌, ◌≤◌, ◌<◌, Bool, true, false, not, ◌&&◌, ◌||◌, List, [], length, Option, Some, None, All, is_some, unwrap_or, refl, sym, subst, true≢false, arith}
use Rattle.std.proofs.lemmas.List.Elements.{All-nil, All-weaker}
use Rattle.std.proofs.lemmas.Option.{IfSome_then}
use Rattle.std.specs.Prelude.{◌^◌}
use Rattle.std.specs.FinMap as finite
use Rattle.grid_base.specs.Objects.{IsSmall}
use Rattle.grid_base.specs.Limits.{FitsFrame, MapCallFits, MapNumbersFit, CallFits, NumbersFit}
use Rattle.grid_base.specs.Names.{object_of}
use Rattle.grid_base.specs.declared.names.ObjectKey.{ObjectKey}
use Rattle.grid_base.specs.declared.names.ObjectKey.TheVariants as object
use Rattle.grid_base.specs.declared.calls.GridCall.{GridCall}
use Rattle.grid_base.specs.declared.calls.GridCall.TheVariants as call
use Rattle.grid_base.specs.declared.calls.Request.{Request}
use Rattle.grid_base.specs.declared.calls.MapCall.{MapCall}
use Rattle.entry_processors.specs.Processors.{ProcessorForm}
use Rattle.key_locks.specs.declared.locks.Lock.{Lock}
use Rattle.map_records.specs.declared.records.Idle.{Idle}
use Rattle.map_records.specs.declared.records.MapRecord.{MapRecord}
use Rattle.map_records.specs.MapEntries.{empty_entry}
use Rattle.map_records.specs.MapTable as entries
use Rattle.map_records.proofs.Values.{stays_whole}
use Rattle.object_store.specs.Records.{Record, Map, Queue, suits, nothing_of, entry_in, items_in, is_nothing, has_value_or_lock}
use Rattle.object_store.specs.Partitions.{Partition, object_cmp, is_kept, stored_in, record_at, nothing_stored}
use Rattle.object_store.specs.Spelling.{IsSized, IsSpelledObject, IsSpelledRecord, IsSpelledPartition}
use Rattle.object_store.proofs.PartitionLaws.{of_all_objects, all-with_record, length-with_record, stored_kept}
use Rattle.call_engine.specs.Calls.{Settings, after}
use Rattle.call_engine.specs.Limits.{RequestFits, IsWhole, EntryFits, RecordFits, NameFits, IsWithin}
use Rattle.call_engine.specs.Objects.{target_of, partition_object}
use Rattle.call_engine.specs.Fitting.{PartsFit, after_fits, ItemsFit, queue_after_fits}

-- records

pub sized : (bytes : List ℕ) → FitsFrame bytes → IsSized bytes
sized bytes fits = omega arith

entry_of_parts : (entry : MapRecord) → PartsFit entry → IsWhole entry → EntryFits entry
entry_of_parts entry h whole = record {
  value = h.value;
  numbers = record { value = IfSome_then entry.value h.value sized; expires = h.expires; idle = h.idle; lock = h.lock };
  whole = whole;
}

pub parts_of_entry : (entry : MapRecord) → EntryFits entry → PartsFit entry
parts_of_entry entry h = record { value = h.value; expires = h.numbers.expires; idle = h.numbers.idle; lock = h.numbers.lock }

pub empty_fits : EntryFits empty_entry
empty_fits = record {
  value = tt;
  numbers = record { value = tt; expires = tt; idle = tt; lock = tt };
  whole = record { expires = λ e. refl; idle = λ e. refl };
}

pub entry_in_fits : (calls : ℕ) (kept : Record) → RecordFits calls kept → EntryFits (entry_in kept)
entry_in_fits calls (Map entry) h = h
entry_in_fits calls (Queue items) h = empty_fits

pub items_in_fit : (calls : ℕ) (kept : Record) → RecordFits calls kept → ItemsFit calls (items_in kept)
items_in_fit calls (Map entry) h = (omega arith, All-nil FitsFrame)
items_in_fit calls (Queue items) h = h

pub entry_after_fits : (forms : List ProcessorForm) (entry : MapRecord) (c : MapCall) (now : ℕ) → MapCallFits c → MapNumbersFit c → EntryFits entry → EntryFits (entries.after forms entry c now)
entry_after_fits forms entry c now fits numbers h =
    let parts = after_fits forms entry c now fits numbers (parts_of_entry entry h) in
    let whole = stays_whole forms entry c now (λ e. (h.whole.expires e, h.whole.idle e)) in
    entry_of_parts (entries.after forms entry c now) parts (record { expires = λ e. (whole e).0; idle = λ e. (whole e).1 })

record_after_fits : (settings : Settings) (calls : ℕ) (kept : Record) (r : GridCall) (now : ℕ) → CallFits r → NumbersFit r → RecordFits calls kept → RecordFits (calls + 1) (after settings kept r now)
record_after_fits settings calls kept (call.Map c) now fits numbers h = entry_after_fits settings.forms (entry_in kept) c now fits numbers (entry_in_fits calls kept h)
record_after_fits settings calls kept (call.Queue c) now fits numbers h = queue_after_fits (items_in kept) c settings.capacity calls fits (items_in_fit calls kept h)

-- partitions

abbrev IsOneWithin : ℕ → ObjectKey × Record → Type 0
IsOneWithin calls stored = NameFits stored.0 × RecordFits calls stored.1

nothing_fits : (calls : ℕ) (name : ObjectKey) → RecordFits calls (nothing_of name)
nothing_fits calls (object.Entry map key) = empty_fits
nothing_fits calls (object.Queue name) = (omega arith, All-nil FitsFrame)

-- what is kept of an object of a partition fits
pub record_fits : (calls : ℕ) (s : Partition) (name : ObjectKey) → IsWithin calls s → RecordFits calls (record_at s name)
record_fits calls s name h = go (finite.get s.objects name) refl
  where
    go : (got : Option Record) → finite.get s.objects name ≡ got → RecordFits calls (unwrap_or got (nothing_of name))
    go None e = nothing_fits calls name
    go (Some kept) e = (of_all_objects (IsOneWithin calls) s.objects h.each name kept e).1

pub begins_within : IsWithin 0 nothing_stored
begins_within =
    let none : stored_in nothing_stored ≡ [] = finite.entries-from_sorted object_cmp [] tt in
    record { count = subst (λ stored. length stored ≤ 0) (sym none) (omega arith); each = subst (All (IsOneWithin 0)) (sym none) (All-nil (IsOneWithin 0)) }

widened : (m n : ℕ) → m ≤ n → (kept : Record) → RecordFits m kept → RecordFits n kept
widened m n more (Map entry) h = h
widened m n more (Queue items) h = (let before = h.0 in omega arith, h.1)

all_widened : (m n : ℕ) → m ≤ n → (stored : List (ObjectKey × Record)) → All (IsOneWithin m) stored → All (IsOneWithin n) stored
all_widened m n more stored all = All-weaker (IsOneWithin m) (IsOneWithin n) (λ one h. (h.0, widened m n more one.1 h.1)) stored all

pub widens : (m n : ℕ) (s : Partition) → m ≤ n → IsWithin m s → IsWithin n s
widens m n s more h = record { count = let before = h.count in omega arith; each = all_widened m n more (stored_in s) h.each }

name_fits : (r : GridCall) → CallFits r → NameFits (object_of r)
name_fits (call.Map c) fits = (fits.0, fits.1)
name_fits (call.Queue c) fits = fits.0

pub grows_within : (settings : Settings) (n : ℕ) (s : Partition) (r : Request) (now : ℕ) → RequestFits r → IsWithin n s → IsWithin (n + 1) ((partition_object settings).after s r now)
grows_within settings n s r now fits h =
    let name = target_of r in
    let kept = after settings (record_at s name) r.call now in
    let before = h.count in
    let longer = length-with_record s name kept in
    record {
      count = omega (arith, longer, before);
      each = all-with_record (IsOneWithin (n + 1)) s name kept (all_widened n (n + 1) (omega arith) (stored_in s) h.each)
          (λ keeps. (name_fits r.call fits.0, record_after_fits settings n (record_at s name) r.call now fits.0 fits.1 (record_fits n s name h)));
    }

-- spelling

spelled_name : (name : ObjectKey) → NameFits name → IsSpelledObject name
spelled_name (object.Entry map key) h = (sized map h.0, sized key h.1)
spelled_name (object.Queue name) h = sized name h

-- an entry that is something has a value or a lock, since its expiry and its idle span come with a value
kept_for : (entry : MapRecord) → IsWhole entry → is_nothing (Map entry) ≡ false → has_value_or_lock entry ≡ true
kept_for entry whole some = go entry.value entry.expires entry.idle entry.lock whole.expires whole.idle some
  where
    go : (value : Option (List ℕ)) (expires : Option ℕ) (idle : Option Idle) (lock : Option Lock) → (value ≡ None → expires ≡ None) → (value ≡ None → idle ≡ None)
        → (not (is_some value) && not (is_some expires) && not (is_some idle) && not (is_some lock)) ≡ false → (is_some value || is_some lock) ≡ true
    go (Some value) expires idle lock ends spans e = refl
    go None expires idle (Some lock) ends spans e = refl
    go None None None None ends spans e = absurd (true≢false e)
    go None (Some end) idle None ends spans e = absurd (let none : Some end ≡ None = ends refl in cc)
    go None None (Some span) None ends spans e = absurd (let none : Some span ≡ None = spans refl in cc)

spelled_record : (calls : ℕ) (kept : Record) → calls < 2 ^ 32 → is_nothing kept ≡ false → RecordFits calls kept → IsSpelledRecord kept
spelled_record calls (Map entry) few some h = (h.numbers, kept_for entry h.whole some)
spelled_record calls (Queue items) few some h = (let most = h.0 in omega arith, All-weaker FitsFrame IsSized sized items h.1)

some_kept : (name : ObjectKey) (kept : Record) → is_kept (name, kept) ≡ true → is_nothing kept ≡ false
some_kept name kept keeps = go (suits name kept) (is_nothing kept) keeps
  where
    go : (a b : Bool) → (a && not b) ≡ true → b ≡ false
    go true true e = cc
    go true false e = refl
    go false b e = cc

-- A partition that so few calls made has a spelling.
pub is_spelled : (s : Partition) → IsSmall IsWithin s → IsSpelledPartition s
is_spelled s h =
    let made = h.made in
    let few = h.few in
    let count = made.count in
    let kept = stored_kept s in
    record {
      count = omega (arith, count, few);
      each = λ k d less.
          let one = made.each k d less in
          (spelled_name _ one.0, spelled_record h.calls _ few (some_kept _ _ (kept k d less).0) one.1);
    }
