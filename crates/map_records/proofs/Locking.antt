-- While a key is locked, others change nothing of its value.
use Rattle.std.proofs.Common.{◌≡◌, ℕ, Bool, true, false, List, Option, Some, None, refl, ap, ◌∙◌}
use Rattle.std.specs.Prelude.{is_some, if◌then◌else◌}
use Rattle.std.specs.Option.{option_map}
use Rattle.grid_base.specs.declared.calls.Answer.TheVariants.{KeyLocked}
use Rattle.grid_base.specs.declared.names.Owner.{Owner}
use Rattle.entry_processors.specs.declared.processor.Outcome.{Outcome}
use Rattle.entry_processors.specs.Places.{item_at}
use Rattle.entry_processors.specs.Processors.{ProcessorForm, outcome}
use Rattle.key_locks.specs.declared.locks.Lock.{Lock}
use Rattle.key_locks.specs.Locks.{is_same_owner, may_write}
use Rattle.grid_base.specs.declared.calls.MapCall.{MapCall}
use Rattle.grid_base.specs.declared.calls.MapCall.TheVariants.{Put, Set, PutIfAbsent, Get, ContainsKey, Remove, Delete, Replace, ReplaceIfSame, RemoveIfSame, TryLock, Unlock, IsLocked, ForceUnlock, ExecuteOnKey, PutMaxIdle, SetMaxIdle}
use Rattle.map_records.specs.declared.records.MapRecord.{MapRecord}
use Rattle.map_records.specs.MapEntries.{cleaned}
use Rattle.map_records.specs.MapTable.{Done, row, processed, writer, unless_locked}
use Rattle.map_records.specs.EntryFacts.{IsOfAnother, KeepsValue, OwnerAloneWrites}

-- another owner is kept out
kept_out : (current : MapRecord) (lock : Lock) (owner : Owner) (done : Done) → current.lock ≡ Some lock → is_same_owner lock.owner owner ≡ false → KeepsValue current (unless_locked (Some owner) current done).1
kept_out current lock owner done locked other = go (may_write current.lock owner) (ap (λ held. may_write held owner) locked ∙ other)
  where
    go : (may : Bool) → may ≡ false → KeepsValue current (if may then done else (KeyLocked, current)).1
    go true e = cc
    go false e = (refl, refl)

execution_kept_out : (current : MapRecord) (lock : Lock) (owner : Owner) (form : Option ProcessorForm) (run : ProcessorForm → Outcome) (now : ℕ) → current.lock ≡ Some lock → is_same_owner lock.owner owner ≡ false → KeepsValue current (unless_locked (if is_some form then Some owner else None) current (processed current (option_map run form) now)).1
execution_kept_out current lock owner None run now locked other = (refl, refl)
execution_kept_out current lock owner (Some form) run now locked other = kept_out current lock owner (processed current (Some (run form)) now) locked other

keeps_value : (forms : List ProcessorForm) (current : MapRecord) (call : MapCall) (now : ℕ) (lock : Lock) → current.lock ≡ Some lock → IsOfAnother lock call → KeepsValue current (unless_locked (writer forms call) current (row forms current call now)).1
keeps_value forms current (Put name key owner value ttl) now lock locked other = kept_out current lock owner _ locked other
keeps_value forms current (Set name key owner value ttl) now lock locked other = kept_out current lock owner _ locked other
keeps_value forms current (PutIfAbsent name key owner value ttl) now lock locked other = kept_out current lock owner _ locked other
keeps_value forms current (Get name key owner) now lock locked other = (refl, refl)
keeps_value forms current (ContainsKey name key owner) now lock locked other = (refl, refl)
keeps_value forms current (Remove name key owner) now lock locked other = kept_out current lock owner _ locked other
keeps_value forms current (Delete name key owner) now lock locked other = kept_out current lock owner _ locked other
keeps_value forms current (Replace name key owner value) now lock locked other = kept_out current lock owner _ locked other
keeps_value forms current (ReplaceIfSame name key owner test value) now lock locked other = kept_out current lock owner _ locked other
keeps_value forms current (RemoveIfSame name key owner test) now lock locked other = kept_out current lock owner _ locked other
keeps_value forms current (TryLock name key owner lease) now lock locked other = (refl, refl)
keeps_value forms current (Unlock name key owner) now lock locked other = (refl, refl)
keeps_value forms current (IsLocked name key) now lock locked other = (refl, refl)
keeps_value forms current (ForceUnlock name key) now lock locked other = (refl, refl)
keeps_value forms current (ExecuteOnKey name key owner number argument) now lock locked other =
    execution_kept_out current lock owner (item_at forms number) (λ form. outcome form current.value argument) now locked other
keeps_value forms current (PutMaxIdle name key owner value ttl idle) now lock locked other = kept_out current lock owner _ locked other
keeps_value forms current (SetMaxIdle name key owner value ttl idle) now lock locked other = kept_out current lock owner _ locked other

pub owner_alone_writes : (forms : List ProcessorForm) (entry : MapRecord) (call : MapCall) (now : ℕ) (lock : Lock) → OwnerAloneWrites forms entry call now lock
owner_alone_writes forms entry call now lock locked other = keeps_value forms (cleaned entry now) call now lock locked other
