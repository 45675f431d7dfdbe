-- What each call on a map entry answers and leaves.
use Rattle.std.specs.Prelude.{ℕ, List, Option, Some, None, is_some, if◌then◌else◌}
use Rattle.grid_base.specs.declared.calls.Answer.{Answer}
use Rattle.grid_base.specs.declared.calls.Answer.TheVariants.{Void, Flag, Maybe, KeyLocked, NotOwner, UnknownProcessor}
use Rattle.grid_base.specs.declared.names.Owner.{Owner}
use Rattle.entry_processors.specs.declared.processor.Outcome.{Outcome}
use Rattle.entry_processors.specs.Places.{item_at}
use Rattle.entry_processors.specs.Processors.{ProcessorForm, outcome_at}
use Rattle.key_locks.specs.Ends.{end_of}
use Rattle.key_locks.specs.Locks.{may_write, may_lock, is_held_by, after_try_lock, after_unlock}
use Rattle.grid_base.specs.declared.calls.MapCall.{MapCall}
use Rattle.grid_base.specs.declared.calls.MapCall.TheVariants.{Put, Set, PutIfAbsent, Get, ContainsKey, Remove, Delete, Replace, ReplaceIfSame, RemoveIfSame, TryLock, Unlock, IsLocked, ForceUnlock, ExecuteOnKey, PutMaxIdle, SetMaxIdle}
use Rattle.map_records.specs.declared.records.MapRecord.{MapRecord}
use Rattle.map_records.specs.Idling.{idle_of}
use Rattle.map_records.specs.MapEntries.{cleaned, without_value, with_lock, with_value, with_value_if_absent, replaced, is_value, replaced_if_same, removed_if_same, with_outcome, touched}

-- The owner who has to be allowed to write; none where a call writes no value, as one for a processor that there isn't.
abbrev pub writer : List ProcessorForm → MapCall → Option Owner
writer forms (Put name key owner value ttl) = Some owner
writer forms (Set name key owner value ttl) = Some owner
writer forms (PutIfAbsent name key owner value ttl) = Some owner
writer forms (Remove name key owner) = Some owner
writer forms (Delete name key owner) = Some owner
writer forms (Replace name key owner value) = Some owner
writer forms (ReplaceIfSame name key owner test value) = Some owner
writer forms (RemoveIfSame name key owner test) = Some owner
writer forms (ExecuteOnKey name key owner number argument) = if is_some (item_at forms number) then Some owner else None
writer forms (PutMaxIdle name key owner value ttl idle) = Some owner
writer forms (SetMaxIdle name key owner value ttl idle) = Some owner
writer forms _ = None

-- what a call answers, and what it leaves
abbrev pub Done : Type 0
Done = Answer × MapRecord

-- A processor's outcome is a use; a processor that there isn't changes nothing.
abbrev pub processed : MapRecord → Option Outcome → ℕ → Done
processed entry None now = (UnknownProcessor, entry)
processed entry (Some outcome) now = (Maybe outcome.answer, touched (with_outcome entry outcome.value) now)

-- The table, for a call that no lock keeps out, on an entry in which nothing has ended.
-- Where a call has nothing to touch, since it sets the idle span itself or takes the value away, `touched` isn't written.
abbrev pub row : List ProcessorForm → MapRecord → MapCall → ℕ → Done
row forms entry (Put name key owner value ttl) now = (Maybe entry.value, with_value entry value (end_of now ttl) None)
row forms entry (Set name key owner value ttl) now = (Void, with_value entry value (end_of now ttl) None)
row forms entry (Get name key owner) now = (Maybe entry.value, touched entry now)
row forms entry (ContainsKey name key owner) now = (Flag (is_some entry.value), touched entry now)
row forms entry (Remove name key owner) now = (Maybe entry.value, without_value entry)
row forms entry (Delete name key owner) now = (Void, without_value entry)
row forms entry (Replace name key owner value) now = (Maybe entry.value, touched (replaced entry value) now)
row forms entry (ReplaceIfSame name key owner test value) now = (Flag (is_value entry.value test), touched (replaced_if_same entry test value) now)
row forms entry (RemoveIfSame name key owner test) now = (Flag (is_value entry.value test), touched (removed_if_same entry test) now)
row forms entry (PutIfAbsent name key owner value ttl) now = (Maybe entry.value, touched (with_value_if_absent entry value (end_of now ttl)) now)
row forms entry (TryLock name key owner lease) now = (Flag (may_lock entry.lock owner), with_lock entry (after_try_lock entry.lock owner (end_of now lease)))
row forms entry (IsLocked name key) now = (Flag (is_some entry.lock), entry)
row forms entry (Unlock name key owner) now = (if is_held_by entry.lock owner then Void else NotOwner, with_lock entry (after_unlock entry.lock owner))
row forms entry (ForceUnlock name key) now = (Void, with_lock entry None)
row forms entry (ExecuteOnKey name key owner number argument) now = processed entry (outcome_at forms number entry.value argument) now
row forms entry (PutMaxIdle name key owner value ttl idle) now = (Maybe entry.value, with_value entry value (end_of now ttl) (idle_of now idle))
row forms entry (SetMaxIdle name key owner value ttl idle) now = (Void, with_value entry value (end_of now ttl) (idle_of now idle))

-- A call that writes is kept out by another owner's lock, and then changes nothing.
abbrev pub unless_locked : Option Owner → MapRecord → Done → Done
unless_locked None entry done = done
unless_locked (Some owner) entry done = if may_write entry.lock owner then done else (KeyLocked, entry)

-- What has ended is removed, and then the call is done as the table has it.
abbrev pub done : List ProcessorForm → MapRecord → MapCall → ℕ → Done
done forms entry call now = let current = cleaned entry now in unless_locked (writer forms call) current (row forms current call now)

abbrev pub answer : List ProcessorForm → MapRecord → MapCall → ℕ → Answer
answer forms entry call now = (done forms entry call now).0

abbrev pub after : List ProcessorForm → MapRecord → MapCall → ℕ → MapRecord
after forms entry call now = (done forms entry call now).1
