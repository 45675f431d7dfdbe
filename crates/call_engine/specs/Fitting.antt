-- What a call on an object leaves fits frames and has numbers of their ranges, where the call and what was kept do.
-- It stands here for the laws of `ShelfLaws`.
use Rattle.std.proofs.Common.{◌≡◌, ℕ, ◌+◌, ◌-◌, ◌≤◌, ◌<◌, Bool, true, false, ◌&&◌, ◌||◌, ℤ, pos, negsuc, List, [], ◌∷◌, ◌++◌, length, Option, Some, None, IfSome, All, refl, length-append, arith}
use Rattle.std.proofs.lemmas.Bool.Decides.{nat_tests}
use Rattle.std.proofs.lemmas.Int.{ints}
use Rattle.std.proofs.lemmas.List.Elements.{All-nil, All-head, All-tail, All-push}
use Rattle.std.specs.Prelude.{◌==◌, ◌^◌, nat_lt, nat_le, is_some, if◌then◌else◌}
use Rattle.std.specs.Int.{w64}
use Rattle.std.specs.Int.RustNames.{FitsSigned}
use Rattle.std.specs.Option.{option_map}
use Rattle.grid_base.specs.Limits.{FitsFrame, most_bytes, OwnerFits, MapCallFits, MapNumbersFit, QueueCallFits}
use Rattle.grid_base.specs.declared.calls.Answer.TheVariants.{KeyLocked}
use Rattle.grid_base.specs.declared.names.Owner.{Owner}
use Rattle.grid_base.specs.declared.calls.MapCall.{MapCall}
use Rattle.grid_base.specs.declared.calls.MapCall.TheVariants.{Put, Set, PutIfAbsent, Get, ContainsKey, Remove, Delete, Replace, ReplaceIfSame, RemoveIfSame, TryLock, Unlock, IsLocked, ForceUnlock, ExecuteOnKey, PutMaxIdle, SetMaxIdle}
use Rattle.grid_base.specs.declared.calls.QueueCall.{QueueCall}
use Rattle.grid_base.specs.declared.calls.QueueCall.TheVariants.{Offer, Poll, Peek, Size, RemainingCapacity, Clear}
use Rattle.entry_processors.specs.Places.{item_at}
use Rattle.entry_processors.specs.Processors.{ProcessorForm, outcome}
use Rattle.entry_processors.proofs.Outcomes.{stays_within}
use Rattle.key_locks.specs.declared.locks.Lock.{Lock}
use Rattle.key_locks.specs.Ends.{end_of, has_ended}
use Rattle.key_locks.specs.Locks.{is_same_owner, may_write, after_try_lock, after_unlock, cleaned as cleaned_lock}
use Rattle.map_records.specs.declared.records.Idle.{Idle}
use Rattle.map_records.specs.declared.records.MapRecord.{MapRecord}
use Rattle.map_records.specs.Idling.{idle_from, idle_of, used}
use Rattle.map_records.specs.MapEntries.{is_expired, cleaned, without_value, with_lock, with_value, replaced, is_value, with_outcome, touched}
use Rattle.map_records.specs.MapTable.{Done, row, processed, writer, unless_locked, done}
use Rattle.queue_records.specs.Queues.{has_room, after}
use Rattle.object_store.specs.Spelling.{IsLong, IsSpelledLock, IsSpelledIdle}

-- the parts of a record, each of which fits
pub record PartsFit (entry : MapRecord) : Type 0 where
  pub value : IfSome entry.value FitsFrame
  pub expires : IfSome entry.expires IsLong
  pub idle : IfSome entry.idle IsSpelledIdle
  pub lock : IfSome entry.lock IsSpelledLock

-- moments and spans

end_long : (now : ℕ) (span : ℤ) → IfSome (end_of now span) IsLong
end_long now (negsuc n) = tt
end_long now (pos span) = go (span == 0) (nat_le (2 ^ 64) (now + span)) refl
  where
    go : (none past : Bool) → nat_le (2 ^ 64) (now + span) ≡ past → IfSome (if none || past then None else Some (now + span)) IsLong
    go true past e = tt
    go false true e = tt
    go false false e = let within : now + span < 2 ^ 64 = grind (arith, nat_tests) in within

begun_fits : (now span : ℕ) → span < 2 ^ 64 → IsSpelledIdle (idle_from now span)
begun_fits now span fits = (fits, omega arith)

set_fits : (now : ℕ) (span : ℤ) → FitsSigned w64 span → IfSome (idle_of now span) IsSpelledIdle
set_fits now (negsuc n) fits = tt
set_fits now (pos span) fits = go (span == 0)
  where
    go : (none : Bool) → IfSome (if none then None else Some (idle_from now span)) IsSpelledIdle
    go true = tt
    go false = begun_fits now span (omega (arith, ints))

used_fits : (idle : Option Idle) (now : ℕ) → IfSome idle IsSpelledIdle → IfSome (used idle now) IsSpelledIdle
used_fits None now h = tt
used_fits (Some idle) now h = begun_fits now idle.span h.0

-- locks

abbrev LockFits : Option Lock → Type 0
LockFits lock = IfSome lock IsSpelledLock

lock_cleaned : (lock : Option Lock) (now : ℕ) → LockFits lock → LockFits (cleaned_lock lock now)
lock_cleaned None now h = tt
lock_cleaned (Some lock) now h = go (has_ended lock.until now)
  where
    go : (ended : Bool) → LockFits (if ended then None else Some lock)
    go true = tt
    go false = h

lock_taken : (lock : Option Lock) (owner : Owner) (until : Option ℕ) → OwnerFits owner → IfSome until IsLong → LockFits lock → LockFits (after_try_lock lock owner until)
lock_taken None owner until fits ends h = record { owner = fits; count = omega arith; until = ends }
lock_taken (Some lock) owner until fits ends h = go (is_same_owner lock.owner owner) (nat_lt lock.count 2147483647) refl
  where
    go : (same less : Bool) → nat_lt lock.count 2147483647 ≡ less → LockFits (if same && less then Some (record lock { count = lock.count + 1; until = until }) else Some lock)
    go true true e = let below : lock.count < 2147483647 = grind (arith, nat_tests) in record { owner = h.owner; count = omega arith; until = ends }
    go true false e = h
    go false less e = h

lock_released : (lock : Option Lock) (owner : Owner) → LockFits lock → LockFits (after_unlock lock owner)
lock_released None owner h = tt
lock_released (Some lock) owner h = go (is_same_owner lock.owner owner) (nat_le lock.count 1)
  where
    less : LockFits (Some (record lock { count = lock.count - 1 }))
    less = let before = h.count in record { owner = h.owner; count = omega arith; until = h.until }

    go : (same last : Bool) → LockFits (if same then (if last then None else Some (record lock { count = lock.count - 1 })) else Some lock)
    go true true = tt
    go true false = less
    go false last = h

-- records

fit_without : (entry : MapRecord) → PartsFit entry → PartsFit (without_value entry)
fit_without entry h = record { value = tt; expires = tt; idle = tt; lock = h.lock }

fit_locked : (entry : MapRecord) (lock : Option Lock) → PartsFit entry → LockFits lock → PartsFit (with_lock entry lock)
fit_locked entry lock h k = record { value = h.value; expires = h.expires; idle = h.idle; lock = k }

fit_choice : (test : Bool) (first second : MapRecord) → PartsFit first → PartsFit second → PartsFit (if test then first else second)
fit_choice true first second h k = h
fit_choice false first second h k = k

pub fit_cleaned : (entry : MapRecord) (now : ℕ) → PartsFit entry → PartsFit (cleaned entry now)
fit_cleaned entry now h = fit_locked _ (cleaned_lock entry.lock now) (fit_choice (is_expired entry now) (without_value entry) entry (fit_without entry h) h) (lock_cleaned entry.lock now h.lock)

fit_touched : (entry : MapRecord) (now : ℕ) → PartsFit entry → PartsFit (touched entry now)
fit_touched entry now h = record { value = h.value; expires = h.expires; idle = used_fits entry.idle now h.idle; lock = h.lock }

fit_set : (entry : MapRecord) (value : List ℕ) (expires : Option ℕ) (idle : Option Idle) → PartsFit entry → FitsFrame value → IfSome expires IsLong → IfSome idle IsSpelledIdle → PartsFit (with_value entry value expires idle)
fit_set entry value expires idle h fits ends spans = record { value = fits; expires = ends; idle = spans; lock = h.lock }

in_place : (old : Option (List ℕ)) (value : List ℕ) → FitsFrame value → IfSome (option_map (λ before. value) old) FitsFrame
in_place None value fits = tt
in_place (Some old) value fits = fits

fit_replaced : (entry : MapRecord) (value : List ℕ) → PartsFit entry → FitsFrame value → PartsFit (replaced entry value)
fit_replaced entry value h fits = record { value = in_place entry.value value fits; expires = h.expires; idle = h.idle; lock = h.lock }

fit_outcome : (entry : MapRecord) (value : Option (List ℕ)) → PartsFit entry → IfSome value FitsFrame → PartsFit (with_outcome entry value)
fit_outcome entry None h fits = fit_without entry h
fit_outcome entry (Some value) h fits = fit_choice (is_some entry.value) (replaced entry value) (with_value entry value None None) (fit_replaced entry value h fits) (fit_set entry value None None h fits tt tt)

-- each row of the table

fit_processed : (entry : MapRecord) (form : Option ProcessorForm) (argument : List ℕ) (now : ℕ) → PartsFit entry → PartsFit (processed entry (option_map (λ rule. outcome rule entry.value argument) form) now).1
fit_processed entry None argument now h = h
fit_processed entry (Some form) argument now h =
    let within = stays_within form most_bytes entry.value argument (omega arith) h.value in
    fit_touched _ now (fit_outcome entry (outcome form entry.value argument).value h within.0)

one : (value : List ℕ) (more : List (List ℕ)) → All FitsFrame (value ∷ more) → FitsFrame value
one value more all = All-head FitsFrame value more all

two : (first second : List ℕ) → All FitsFrame (first ∷ second ∷ []) → FitsFrame second
two first second all = All-head FitsFrame second [] (All-tail FitsFrame first (second ∷ []) all)

fit_row : (forms : List ProcessorForm) (entry : MapRecord) (call : MapCall) (now : ℕ) → MapCallFits call → MapNumbersFit call → PartsFit entry → PartsFit (row forms entry call now).1
fit_row forms entry (Put name key owner value ttl) now fits numbers h = fit_set entry value _ None h (one value [] fits.2) (end_long now ttl) tt
fit_row forms entry (Set name key owner value ttl) now fits numbers h = fit_set entry value _ None h (one value [] fits.2) (end_long now ttl) tt
fit_row forms entry (PutMaxIdle name key owner value ttl idle) now fits numbers h = fit_set entry value _ _ h (one value [] fits.2) (end_long now ttl) (set_fits now idle numbers.2)
fit_row forms entry (SetMaxIdle name key owner value ttl idle) now fits numbers h = fit_set entry value _ _ h (one value [] fits.2) (end_long now ttl) (set_fits now idle numbers.2)
fit_row forms entry (PutIfAbsent name key owner value ttl) now fits numbers h =
    fit_touched _ now (fit_choice (is_some entry.value) entry (with_value entry value (end_of now ttl) None) h (fit_set entry value (end_of now ttl) None h (one value [] fits.2) (end_long now ttl) tt))
fit_row forms entry (Get name key owner) now fits numbers h = fit_touched entry now h
fit_row forms entry (ContainsKey name key owner) now fits numbers h = fit_touched entry now h
fit_row forms entry (Remove name key owner) now fits numbers h = fit_without entry h
fit_row forms entry (Delete name key owner) now fits numbers h = fit_without entry h
fit_row forms entry (Replace name key owner value) now fits numbers h = fit_touched _ now (fit_replaced entry value h (one value [] fits.2))
fit_row forms entry (ReplaceIfSame name key owner test value) now fits numbers h =
    fit_touched _ now (fit_choice (is_value entry.value test) (replaced entry value) entry (fit_replaced entry value h (two test value fits.2)) h)
fit_row forms entry (RemoveIfSame name key owner test) now fits numbers h =
    fit_touched _ now (fit_choice (is_value entry.value test) (without_value entry) entry (fit_without entry h) h)
fit_row forms entry (TryLock name key owner lease) now fits numbers h = fit_locked entry _ h (lock_taken entry.lock owner _ numbers.0 (end_long now lease) h.lock)
fit_row forms entry (Unlock name key owner) now fits numbers h = fit_locked entry _ h (lock_released entry.lock owner h.lock)
fit_row forms entry (IsLocked name key) now fits numbers h = h
fit_row forms entry (ForceUnlock name key) now fits numbers h = fit_locked entry None h tt
fit_row forms entry (ExecuteOnKey name key owner number argument) now fits numbers h = fit_processed entry (item_at forms number) argument now h

fit_unless_locked : (owner : Option Owner) (entry : MapRecord) (made : Done) → PartsFit entry → PartsFit made.1 → PartsFit (unless_locked owner entry made).1
fit_unless_locked None entry made h k = k
fit_unless_locked (Some owner) entry made h k = go (may_write entry.lock owner)
  where
    go : (may : Bool) → PartsFit (if may then made else (KeyLocked, entry)).1
    go true = k
    go false = h

pub after_fits : (forms : List ProcessorForm) (entry : MapRecord) (call : MapCall) (now : ℕ) → MapCallFits call → MapNumbersFit call → PartsFit entry → PartsFit (done forms entry call now).1
after_fits forms entry call now fits numbers h =
    let stands = fit_cleaned entry now h in
    fit_unless_locked (writer forms call) (cleaned entry now) (row forms (cleaned entry now) call now) stands (fit_row forms (cleaned entry now) call now fits numbers stands)

-- queues

-- at most so many values, each of which fits
abbrev pub ItemsFit : ℕ → List (List ℕ) → Type 0
ItemsFit most items = (length items ≤ most) × All FitsFrame items

offered_fit : (items : List (List ℕ)) (value : List ℕ) (most : ℕ) (room : Bool) → FitsFrame value → ItemsFit most items → ItemsFit (most + 1) (if room then items ++ value ∷ [] else items)
offered_fit items value most true fits h = (let before = h.0 in omega (arith, length-append items (value ∷ [])), All-push FitsFrame items value h.1 fits)
offered_fit items value most false fits h = (let before = h.0 in omega arith, h.1)

more_fit : (items : List (List ℕ)) (most : ℕ) → ItemsFit most items → ItemsFit (most + 1) items
more_fit items most h = (let before = h.0 in omega arith, h.1)

pub queue_after_fits : (items : List (List ℕ)) (call : QueueCall) (capacity most : ℕ) → QueueCallFits call → ItemsFit most items → ItemsFit (most + 1) (after items call capacity)
queue_after_fits items (Offer name value) capacity most fits h = offered_fit items value most (has_room items capacity) (one value [] fits.1) h
queue_after_fits [] (Poll name) capacity most fits h = more_fit [] most h
queue_after_fits (item ∷ items) (Poll name) capacity most fits h = (let before = h.0 in omega arith, All-tail FitsFrame item items h.1)
queue_after_fits items (Peek name) capacity most fits h = more_fit items most h
queue_after_fits items (Size name) capacity most fits h = more_fit items most h
queue_after_fits items (RemainingCapacity name) capacity most fits h = more_fit items most h
queue_after_fits items (Clear name) capacity most fits h = (omega arith, All-nil FitsFrame)
