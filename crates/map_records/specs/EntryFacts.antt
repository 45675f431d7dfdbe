-- What a user of a map's entry relies on.
use Rattle.std.specs.Prelude.{◌≡◌, ◌⊎◌, ℕ, Bool, true, false, List, ℤ, Option, Some, None, IfSome, if◌then◌else◌}
use Rattle.grid_base.specs.declared.calls.Answer.TheVariants.{Maybe, KeyLocked, UnknownProcessor}
use Rattle.grid_base.specs.declared.names.Owner.{Owner}
use Rattle.entry_processors.specs.Processors.{ProcessorForm}
use Rattle.key_locks.specs.declared.locks.Lock.{Lock}
use Rattle.key_locks.specs.Ends.{end_of, has_ended}
use Rattle.key_locks.specs.Locks.{is_same_owner, may_write, cleaned as cleaned_lock}
use Rattle.grid_base.specs.declared.calls.MapCall.{MapCall}
use Rattle.grid_base.specs.declared.calls.MapCall.TheVariants.{Put, Set, PutIfAbsent, Get, ContainsKey, Remove, Delete, Replace, ReplaceIfSame, RemoveIfSame, TryLock, Unlock, IsLocked, ForceUnlock, ExecuteOnKey, PutMaxIdle, SetMaxIdle}
use Rattle.map_records.specs.declared.records.MapRecord.{MapRecord}
use Rattle.map_records.specs.Idling.{idle_from}
use Rattle.map_records.specs.MapEntries.{is_expired, cleaned, without_value}
use Rattle.map_records.specs.MapTable.{done, answer, after}

-- A call that is kept out by a lock, or that names a processor that there isn't, only removes what has ended.
abbrev pub RefusalChangesNothing : List ProcessorForm → MapRecord → MapCall → ℕ → Type 0
RefusalChangesNothing forms entry call now =
    (answer forms entry call now ≡ KeyLocked) ⊎ (answer forms entry call now ≡ UnknownProcessor) → after forms entry call now ≡ cleaned entry now

-- A value that has expired plays no part: each call is done as if it weren't there.
abbrev pub ExpiredIsAbsent : List ProcessorForm → MapRecord → MapCall → ℕ → Type 0
ExpiredIsAbsent forms entry call now = is_expired entry now ≡ true → done forms entry call now ≡ done forms (without_value entry) call now

-- A value that is put is answered until its time to live has ended, and from then on null.
abbrev pub LivesUntilItsEnd : List ProcessorForm → MapRecord → (name key : List ℕ) → (owner reader : Owner) → List ℕ → ℤ → (now later : ℕ) → Type 0
LivesUntilItsEnd forms entry name key owner reader value ttl now later =
    may_write (cleaned entry now).lock owner ≡ true →
    answer forms (after forms entry (Put name key owner value ttl) now) (Get name key reader) later ≡ Maybe (if has_ended (end_of now ttl) later then None else Some value)

-- who makes a call; a look at the lock and a forced unlock name nobody
abbrev pub caller : MapCall → Option Owner
caller (Put name key owner value ttl) = Some owner
caller (Set name key owner value ttl) = Some owner
caller (PutIfAbsent name key owner value ttl) = Some owner
caller (Get name key owner) = Some owner
caller (ContainsKey name key owner) = Some owner
caller (Remove name key owner) = Some owner
caller (Delete name key owner) = Some owner
caller (Replace name key owner value) = Some owner
caller (ReplaceIfSame name key owner test value) = Some owner
caller (RemoveIfSame name key owner test) = Some owner
caller (TryLock name key owner lease) = Some owner
caller (Unlock name key owner) = Some owner
caller (IsLocked name key) = None
caller (ForceUnlock name key) = None
caller (ExecuteOnKey name key owner number argument) = Some owner
caller (PutMaxIdle name key owner value ttl idle) = Some owner
caller (SetMaxIdle name key owner value ttl idle) = Some owner

abbrev pub IsOfAnother : Lock → MapCall → Type 0
IsOfAnother lock call = IfSome (caller call) (λ owner. is_same_owner lock.owner owner ≡ false)

-- the value and its expiry stay
abbrev pub KeepsValue : MapRecord → MapRecord → Type 0
KeepsValue old new = (new.value ≡ old.value) × (new.expires ≡ old.expires)

-- While a key is locked, nobody but its owner changes what it holds.
abbrev pub OwnerAloneWrites : List ProcessorForm → MapRecord → MapCall → ℕ → Lock → Type 0
OwnerAloneWrites forms entry call now lock =
    (cleaned entry now).lock ≡ Some lock → IsOfAnother lock call → KeepsValue (cleaned entry now) (after forms entry call now)

-- Calls on the lock don't use the value.
abbrev pub is_use : MapCall → Bool
is_use (TryLock name key owner lease) = false
is_use (Unlock name key owner) = false
is_use (IsLocked name key) = false
is_use (ForceUnlock name key) = false
is_use _ = true

-- After a call that uses the entry, and isn't refused, an idle span that stands has begun at that moment.
abbrev pub UseBeginsTheSpanAnew : List ProcessorForm → MapRecord → MapCall → ℕ → Type 0
UseBeginsTheSpanAnew forms entry call now =
    is_use call ≡ true → (answer forms entry call now ≡ KeyLocked → ⊥) → (answer forms entry call now ≡ UnknownProcessor → ⊥) →
    IfSome (after forms entry call now).idle (λ idle. idle ≡ idle_from now idle.span)

-- A call on the lock leaves an idle span as it is.
abbrev pub OthersLeaveTheSpan : List ProcessorForm → MapRecord → MapCall → ℕ → Type 0
OthersLeaveTheSpan forms entry call now = is_use call ≡ false → (after forms entry call now).idle ≡ (cleaned entry now).idle

-- Where there is no value there is no expiry and no idle span.
abbrev pub IsWhole : MapRecord → Type 0
IsWhole entry = entry.value ≡ None → (entry.expires ≡ None) × (entry.idle ≡ None)

-- No call leaves an expiry or an idle span without a value.
abbrev pub StaysWhole : List ProcessorForm → MapRecord → MapCall → ℕ → Type 0
StaysWhole forms entry call now = IsWhole entry → IsWhole (after forms entry call now)

-- calls that only look
abbrev pub is_look : MapCall → Bool
is_look (Get name key owner) = true
is_look (ContainsKey name key owner) = true
is_look (IsLocked name key) = true
is_look _ = false

-- Where nothing has ended and there is no idle span, a look leaves the entry as it is.
abbrev pub LookChangesNothing : List ProcessorForm → MapRecord → MapCall → ℕ → Type 0
LookChangesNothing forms entry call now =
    is_look call ≡ true → is_expired entry now ≡ false → cleaned_lock entry.lock now ≡ entry.lock → entry.idle ≡ None → after forms entry call now ≡ entry
