-- How long a value stands, and what stands with it.
use Rattle.std.proofs.Common.{◌≡◌, ℕ, Bool, true, false, List, ℤ, Option, Some, None, refl, ap, sym, ◌∙◌}
use Rattle.std.specs.Prelude.{◌||◌, is_some, if◌then◌else◌}
use Rattle.std.specs.Option.{option_map}
use Rattle.grid_base.specs.declared.calls.Answer.TheVariants.{Maybe, KeyLocked}
use Rattle.grid_base.specs.declared.names.Owner.{Owner}
use Rattle.entry_processors.specs.declared.processor.Outcome.{Outcome}
use Rattle.entry_processors.specs.Processors.{ProcessorForm, outcome_at}
use Rattle.key_locks.specs.declared.locks.Lock.{Lock}
use Rattle.key_locks.specs.Ends.{end_of, has_ended}
use Rattle.key_locks.specs.Locks.{may_write, cleaned as cleaned_lock}
use Rattle.grid_base.specs.declared.calls.MapCall.{MapCall}
use Rattle.grid_base.specs.declared.calls.MapCall.TheVariants.{Put, Set, PutIfAbsent, Get, ContainsKey, Remove, Delete, Replace, ReplaceIfSame, RemoveIfSame, TryLock, Unlock, IsLocked, ForceUnlock, ExecuteOnKey, PutMaxIdle, SetMaxIdle}
use Rattle.map_records.specs.declared.records.MapRecord.{MapRecord}
use Rattle.map_records.specs.Idling.{used}
use Rattle.map_records.specs.MapEntries.{is_expired, cleaned, without_value, with_lock, with_value, with_value_if_absent, replaced, is_value, replaced_if_same, removed_if_same, with_outcome, touched}
use Rattle.map_records.specs.MapTable.{Done, row, processed, writer, unless_locked, answer}
use Rattle.map_records.specs.EntryFacts.{LivesUntilItsEnd, IsWhole, StaysWhole, LookChangesNothing}

-- a value that was put

written : (owner : Owner) (current : MapRecord) (done : Done) → may_write current.lock owner ≡ true → unless_locked (Some owner) current done ≡ done
written owner current done e = ap (λ may. if may then done else (KeyLocked, current)) e

stands_until : (entry : MapRecord) (value : List ℕ) (lock : Option Lock) (ended : Bool) → entry.value ≡ Some value → (with_lock (if ended || false then without_value entry else entry) lock).value ≡ (if ended then None else Some value)
stands_until entry value lock true e = refl
stands_until entry value lock false e = e

pub lives_until_its_end : (forms : List ProcessorForm) (entry : MapRecord) (name key : List ℕ) (owner reader : Owner) (value : List ℕ) (ttl : ℤ) (now later : ℕ) → LivesUntilItsEnd forms entry name key owner reader value ttl now later
lives_until_its_end forms entry name key owner reader value ttl now later may =
    let current = cleaned entry now in
    let put = with_value current value (end_of now ttl) None in
    ap (λ done. answer forms done.1 (Get name key reader) later) (written owner current (row forms current (Put name key owner value ttl) now) may)
    ∙ ap Maybe (stands_until put value (cleaned_lock put.lock later) (has_ended (end_of now ttl) later) refl)

-- nothing stands without a value

whole_cleaned : (entry : MapRecord) (lock : Option Lock) (expired : Bool) → IsWhole entry → IsWhole (with_lock (if expired then without_value entry else entry) lock)
whole_cleaned entry lock true h = λ e. (refl, refl)
whole_cleaned entry lock false h = h

whole_touched : (entry : MapRecord) (now : ℕ) → IsWhole entry → IsWhole (touched entry now)
whole_touched entry now h e = let none = h e in (none.0, ap (λ idle. used idle now) none.1)

none_before : (old : Option (List ℕ)) (value : List ℕ) → option_map (λ before. value) old ≡ None → old ≡ None
none_before None value e = refl
none_before (Some old) value e = cc

whole_replaced : (entry : MapRecord) (value : List ℕ) → IsWhole entry → IsWhole (replaced entry value)
whole_replaced entry value h e = h (none_before entry.value value e)

whole_choice : (test : Bool) (first second : MapRecord) → IsWhole first → IsWhole second → IsWhole (if test then first else second)
whole_choice true first second h k = h
whole_choice false first second h k = k

whole_without : (entry : MapRecord) → IsWhole (without_value entry)
whole_without entry e = (refl, refl)

whole_set : (entry : MapRecord) (value : List ℕ) (expires : Option ℕ) → IsWhole (with_value entry value expires None)
whole_set entry value expires e = cc

whole_outcome : (entry : MapRecord) (value : Option (List ℕ)) → IsWhole entry → IsWhole (with_outcome entry value)
whole_outcome entry None h = whole_without entry
whole_outcome entry (Some value) h = whole_choice (is_some entry.value) (replaced entry value) (with_value entry value None None) (whole_replaced entry value h) (whole_set entry value None)

whole_processed : (entry : MapRecord) (outcome : Option Outcome) (now : ℕ) → IsWhole entry → IsWhole (processed entry outcome now).1
whole_processed entry None now h = h
whole_processed entry (Some outcome) now h = whole_touched (with_outcome entry outcome.value) now (whole_outcome entry outcome.value h)

whole_row : (forms : List ProcessorForm) (entry : MapRecord) (call : MapCall) (now : ℕ) → IsWhole entry → IsWhole (row forms entry call now).1
whole_row forms entry (Put name key owner value ttl) now h = λ e. cc
whole_row forms entry (Set name key owner value ttl) now h = λ e. cc
whole_row forms entry (PutMaxIdle name key owner value ttl idle) now h = λ e. cc
whole_row forms entry (SetMaxIdle name key owner value ttl idle) now h = λ e. cc
whole_row forms entry (PutIfAbsent name key owner value ttl) now h =
    whole_touched (with_value_if_absent entry value (end_of now ttl)) now (whole_choice (is_some entry.value) entry (with_value entry value (end_of now ttl) None) h (whole_set entry value (end_of now ttl)))
whole_row forms entry (Get name key owner) now h = whole_touched entry now h
whole_row forms entry (ContainsKey name key owner) now h = whole_touched entry now h
whole_row forms entry (Remove name key owner) now h = whole_without entry
whole_row forms entry (Delete name key owner) now h = whole_without entry
whole_row forms entry (Replace name key owner value) now h = whole_touched (replaced entry value) now (whole_replaced entry value h)
whole_row forms entry (ReplaceIfSame name key owner test value) now h =
    whole_touched (replaced_if_same entry test value) now (whole_choice (is_value entry.value test) (replaced entry value) entry (whole_replaced entry value h) h)
whole_row forms entry (RemoveIfSame name key owner test) now h =
    whole_touched (removed_if_same entry test) now (whole_choice (is_value entry.value test) (without_value entry) entry (whole_without entry) h)
whole_row forms entry (TryLock name key owner lease) now h = h
whole_row forms entry (Unlock name key owner) now h = h
whole_row forms entry (IsLocked name key) now h = h
whole_row forms entry (ForceUnlock name key) now h = h
whole_row forms entry (ExecuteOnKey name key owner number argument) now h = whole_processed entry (outcome_at forms number entry.value argument) now h

whole_unless_locked : (owner : Option Owner) (entry : MapRecord) (done : Done) → IsWhole entry → IsWhole done.1 → IsWhole (unless_locked owner entry done).1
whole_unless_locked None entry done h k = k
whole_unless_locked (Some owner) entry done h k = go (may_write entry.lock owner)
  where
    go : (may : Bool) → IsWhole (if may then done else (KeyLocked, entry)).1
    go true = k
    go false = h

pub stays_whole : (forms : List ProcessorForm) (entry : MapRecord) (call : MapCall) (now : ℕ) → StaysWhole forms entry call now
stays_whole forms entry call now h =
    let current = cleaned entry now in
    let whole = whole_cleaned entry (cleaned_lock entry.lock now) (is_expired entry now) h in
    whole_unless_locked (writer forms call) current (row forms current call now) whole (whole_row forms current call now whole)

-- a look

nothing_cleaned : (entry : MapRecord) (lock : Option Lock) (expired : Bool) → expired ≡ false → lock ≡ entry.lock → with_lock (if expired then without_value entry else entry) lock ≡ entry
nothing_cleaned entry lock true e same = cc
nothing_cleaned entry lock false e same = ap (with_lock entry) same

nothing_touched : (entry : MapRecord) (now : ℕ) → entry.idle ≡ None → touched entry now ≡ entry
nothing_touched entry now e = ap (λ idle. record entry { idle = idle }) (ap (λ idle. used idle now) e ∙ sym e)

pub look_changes_nothing : (forms : List ProcessorForm) (entry : MapRecord) (call : MapCall) (now : ℕ) → LookChangesNothing forms entry call now
look_changes_nothing forms entry (Get name key owner) now look stands lock idle =
    ap (λ current. touched current now) (nothing_cleaned entry (cleaned_lock entry.lock now) (is_expired entry now) stands lock) ∙ nothing_touched entry now idle
look_changes_nothing forms entry (ContainsKey name key owner) now look stands lock idle =
    ap (λ current. touched current now) (nothing_cleaned entry (cleaned_lock entry.lock now) (is_expired entry now) stands lock) ∙ nothing_touched entry now idle
look_changes_nothing forms entry (IsLocked name key) now look stands lock idle =
    nothing_cleaned entry (cleaned_lock entry.lock now) (is_expired entry now) stands lock
look_changes_nothing forms entry _ now look stands lock idle = cc
