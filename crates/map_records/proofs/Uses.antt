-- Uses of an entry begin its idle span anew.
use Rattle.std.proofs.Common.{◌≡◌, ℕ, Bool, true, false, List, ℤ, pos, negsuc, Option, Some, None, IfSome, refl}
use Rattle.std.specs.Prelude.{◌==◌, if◌then◌else◌}
use Rattle.grid_base.specs.declared.calls.Answer.TheVariants.{KeyLocked, UnknownProcessor}
use Rattle.grid_base.specs.declared.names.Owner.{Owner}
use Rattle.entry_processors.specs.declared.processor.Outcome.{Outcome}
use Rattle.entry_processors.specs.Processors.{ProcessorForm, outcome_at}
use Rattle.key_locks.specs.Locks.{may_write}
use Rattle.grid_base.specs.declared.calls.MapCall.{MapCall}
use Rattle.grid_base.specs.declared.calls.MapCall.TheVariants.{Put, Set, PutIfAbsent, Get, ContainsKey, Remove, Delete, Replace, ReplaceIfSame, RemoveIfSame, TryLock, Unlock, IsLocked, ForceUnlock, ExecuteOnKey, PutMaxIdle, SetMaxIdle}
use Rattle.map_records.specs.declared.records.Idle.{Idle}
use Rattle.map_records.specs.declared.records.MapRecord.{MapRecord}
use Rattle.map_records.specs.Idling.{idle_from, idle_of, used}
use Rattle.map_records.specs.MapEntries.{cleaned}
use Rattle.map_records.specs.MapTable.{Done, row, processed, writer, unless_locked}
use Rattle.map_records.specs.EntryFacts.{is_use, UseBeginsTheSpanAnew, OthersLeaveTheSpan}

-- the span has begun at this moment, if there is one
abbrev HasBegun : ℕ → Option Idle → Type 0
HasBegun now idle = IfSome idle (λ kept. kept ≡ idle_from now kept.span)

used_begins : (idle : Option Idle) (now : ℕ) → HasBegun now (used idle now)
used_begins None now = tt
used_begins (Some idle) now = refl

set_begins : (now : ℕ) (span : ℤ) → HasBegun now (idle_of now span)
set_begins now (negsuc n) = tt
set_begins now (pos span) = go (span == 0)
  where
    go : (none : Bool) → HasBegun now (if none then None else Some (idle_from now span))
    go true = tt
    go false = refl

processed_begins : (current : MapRecord) (outcome : Option Outcome) (now : ℕ) → ((processed current outcome now).0 ≡ UnknownProcessor → ⊥) → HasBegun now (processed current outcome now).1.idle
processed_begins current None now known = absurd (known refl)
processed_begins current (Some outcome) now known = used_begins _ now

row_begins : (forms : List ProcessorForm) (current : MapRecord) (call : MapCall) (now : ℕ) → is_use call ≡ true → ((row forms current call now).0 ≡ UnknownProcessor → ⊥) → HasBegun now (row forms current call now).1.idle
row_begins forms current (Put name key owner value ttl) now uses known = tt
row_begins forms current (Set name key owner value ttl) now uses known = tt
row_begins forms current (PutIfAbsent name key owner value ttl) now uses known = used_begins _ now
row_begins forms current (Get name key owner) now uses known = used_begins _ now
row_begins forms current (ContainsKey name key owner) now uses known = used_begins _ now
row_begins forms current (Remove name key owner) now uses known = tt
row_begins forms current (Delete name key owner) now uses known = tt
row_begins forms current (Replace name key owner value) now uses known = used_begins _ now
row_begins forms current (ReplaceIfSame name key owner test value) now uses known = used_begins _ now
row_begins forms current (RemoveIfSame name key owner test) now uses known = used_begins _ now
row_begins forms current (ExecuteOnKey name key owner number argument) now uses known = processed_begins current (outcome_at forms number current.value argument) now known
row_begins forms current (PutMaxIdle name key owner value ttl idle) now uses known = set_begins now idle
row_begins forms current (SetMaxIdle name key owner value ttl idle) now uses known = set_begins now idle
row_begins forms current _ now uses known = cc

unlocked_begins : (owner : Option Owner) (current : MapRecord) (done : Done) (now : ℕ) → ((done.0 ≡ UnknownProcessor → ⊥) → HasBegun now done.1.idle) → ((unless_locked owner current done).0 ≡ KeyLocked → ⊥) → ((unless_locked owner current done).0 ≡ UnknownProcessor → ⊥) → HasBegun now (unless_locked owner current done).1.idle
unlocked_begins None current done now h free known = h known
unlocked_begins (Some owner) current done now h free known = go (may_write current.lock owner) free known
  where
    go : (may : Bool) → ((if may then done else (KeyLocked, current)).0 ≡ KeyLocked → ⊥) → ((if may then done else (KeyLocked, current)).0 ≡ UnknownProcessor → ⊥) → HasBegun now (if may then done else (KeyLocked, current)).1.idle
    go true is_free is_known = h is_known
    go false is_free is_known = absurd (is_free refl)

pub use_begins_the_span_anew : (forms : List ProcessorForm) (entry : MapRecord) (call : MapCall) (now : ℕ) → UseBeginsTheSpanAnew forms entry call now
use_begins_the_span_anew forms entry call now uses free known =
    let current = cleaned entry now in
    unlocked_begins (writer forms call) current (row forms current call now) now (row_begins forms current call now uses) free known

pub others_leave_the_span : (forms : List ProcessorForm) (entry : MapRecord) (call : MapCall) (now : ℕ) → OthersLeaveTheSpan forms entry call now
others_leave_the_span forms entry (TryLock name key owner lease) now uses = refl
others_leave_the_span forms entry (Unlock name key owner) now uses = refl
others_leave_the_span forms entry (IsLocked name key) now uses = refl
others_leave_the_span forms entry (ForceUnlock name key) now uses = refl
others_leave_the_span forms entry _ now uses = cc
