-- What holds of each row of the table, of what is cleaned, and of a call that a lock keeps out.
use Rattle.std.proofs.Common.{◌≡◌, ◌⊎◌, inl, inr, ℕ, Bool, true, false, List, Option, Some, None, refl, ap}
use Rattle.std.specs.Prelude.{if◌then◌else◌}
use Rattle.grid_base.specs.declared.calls.Answer.{Answer}
use Rattle.grid_base.specs.declared.calls.Answer.TheVariants.{Void, NotOwner, KeyLocked, UnknownProcessor}
use Rattle.grid_base.specs.declared.names.Owner.{Owner}
use Rattle.entry_processors.specs.declared.processor.Outcome.{Outcome}
use Rattle.entry_processors.specs.Processors.{ProcessorForm, outcome_at}
use Rattle.key_locks.specs.declared.locks.Lock.{Lock}
use Rattle.key_locks.specs.Locks.{may_write, is_held_by, cleaned as cleaned_lock}
use Rattle.grid_base.specs.declared.calls.MapCall.{MapCall}
use Rattle.grid_base.specs.declared.calls.MapCall.TheVariants.{Unlock, ExecuteOnKey}
use Rattle.map_records.specs.declared.records.MapRecord.{MapRecord}
use Rattle.map_records.specs.MapEntries.{is_expired, without_value, with_lock, cleaned}
use Rattle.map_records.specs.MapTable.{Done, row, processed, writer, unless_locked}
use Rattle.map_records.specs.EntryFacts.{RefusalChangesNothing, ExpiredIsAbsent}

-- refusals

abbrev pub IsRefusal : Answer → Type 0
IsRefusal said = (said ≡ KeyLocked) ⊎ (said ≡ UnknownProcessor)

unlock_refused : (current after : MapRecord) (held : Bool) → IsRefusal (if held then Void else NotOwner) → after ≡ current
unlock_refused current after true e = elim e [ inl is ↦ cc | inr is ↦ cc ]
unlock_refused current after false e = elim e [ inl is ↦ cc | inr is ↦ cc ]

processed_refused : (current : MapRecord) (outcome : Option Outcome) (now : ℕ) → IsRefusal (processed current outcome now).0 → (processed current outcome now).1 ≡ current
processed_refused current None now e = refl
processed_refused current (Some outcome) now e = elim e [ inl is ↦ cc | inr is ↦ cc ]

row_refused : (forms : List ProcessorForm) (current : MapRecord) (call : MapCall) (now : ℕ) → IsRefusal (row forms current call now).0 → (row forms current call now).1 ≡ current
row_refused forms current (Unlock name key owner) now e = unlock_refused current _ (is_held_by current.lock owner) e
row_refused forms current (ExecuteOnKey name key owner number argument) now e = processed_refused current (outcome_at forms number current.value argument) now e
row_refused forms current _ now e = elim e [ inl is ↦ cc | inr is ↦ cc ]

kept_out_refused : (owner : Option Owner) (current : MapRecord) (done : Done) → (IsRefusal done.0 → done.1 ≡ current) → IsRefusal (unless_locked owner current done).0 → (unless_locked owner current done).1 ≡ current
kept_out_refused None current done h e = h e
kept_out_refused (Some owner) current done h e = go (may_write current.lock owner) e
  where
    go : (may : Bool) → IsRefusal (if may then done else (KeyLocked, current)).0 → (if may then done else (KeyLocked, current)).1 ≡ current
    go true is = h is
    go false is = refl

pub refusal_changes_nothing : (forms : List ProcessorForm) (entry : MapRecord) (call : MapCall) (now : ℕ) → RefusalChangesNothing forms entry call now
refusal_changes_nothing forms entry call now e =
    let current = cleaned entry now in
    kept_out_refused (writer forms call) current (row forms current call now) (row_refused forms current call now) e

-- what has expired

without_expired : (entry : MapRecord) (lock : Option Lock) (expired : Bool) → expired ≡ true → with_lock (if expired then without_value entry else entry) lock ≡ with_lock (without_value entry) lock
without_expired entry lock true e = refl
without_expired entry lock false e = cc

pub expired_is_absent : (forms : List ProcessorForm) (entry : MapRecord) (call : MapCall) (now : ℕ) → ExpiredIsAbsent forms entry call now
expired_is_absent forms entry call now e =
    ap (λ current. unless_locked (writer forms call) current (row forms current call now)) (without_expired entry (cleaned_lock entry.lock now) (is_expired entry now) e)
