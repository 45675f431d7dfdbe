-- What a call on an entry answers fits a frame, where what was kept does.
use Rattle.std.proofs.Common.{ℕ, Bool, true, false, List, Option, Some, None, arith}
use Rattle.std.specs.Prelude.{if◌then◌else◌}
use Rattle.std.specs.Option.{option_map}
use Rattle.grid_base.specs.Limits.{most_bytes}
use Rattle.grid_base.specs.declared.calls.Answer.TheVariants.{Void, NotOwner, KeyLocked}
use Rattle.grid_base.specs.declared.calls.MapCall.{MapCall}
use Rattle.grid_base.specs.declared.calls.MapCall.TheVariants.{Put, Set, PutIfAbsent, Get, ContainsKey, Remove, Delete, Replace, ReplaceIfSame, RemoveIfSame, TryLock, Unlock, IsLocked, ForceUnlock, ExecuteOnKey, PutMaxIdle, SetMaxIdle}
use Rattle.grid_base.specs.declared.names.Owner.{Owner}
use Rattle.fixed_fields.specs.Replies.{AnswerFits}
use Rattle.entry_processors.specs.Places.{item_at}
use Rattle.entry_processors.specs.Processors.{ProcessorForm, outcome}
use Rattle.entry_processors.proofs.Outcomes.{stays_within}
use Rattle.key_locks.specs.Locks.{is_held_by, may_write}
use Rattle.map_records.specs.declared.records.MapRecord.{MapRecord}
use Rattle.map_records.specs.MapEntries.{cleaned}
use Rattle.map_records.specs.MapTable.{Done, row, processed, writer, unless_locked, answer}
use Rattle.call_engine.specs.Fitting.{PartsFit, fit_cleaned}
use Rattle.call_engine.specs.Limits.{EntryFits}
use Rattle.call_engine.specs.Within.{parts_of_entry}

processed_answer_fits : (entry : MapRecord) (form : Option ProcessorForm) (argument : List ℕ) (now : ℕ) → PartsFit entry → AnswerFits (processed entry (option_map (λ rule. outcome rule entry.value argument) form) now).0
processed_answer_fits entry None argument now h = tt
processed_answer_fits entry (Some form) argument now h = (stays_within form most_bytes entry.value argument (omega arith) h.value).1

unlock_answer_fits : (held : Bool) → AnswerFits (if held then Void else NotOwner)
unlock_answer_fits true = tt
unlock_answer_fits false = tt

row_answer_fits : (forms : List ProcessorForm) (entry : MapRecord) (call : MapCall) (now : ℕ) → PartsFit entry → AnswerFits (row forms entry call now).0
row_answer_fits forms entry (Put name key owner value ttl) now h = h.value
row_answer_fits forms entry (Set name key owner value ttl) now h = tt
row_answer_fits forms entry (PutMaxIdle name key owner value ttl idle) now h = h.value
row_answer_fits forms entry (SetMaxIdle name key owner value ttl idle) now h = tt
row_answer_fits forms entry (PutIfAbsent name key owner value ttl) now h = h.value
row_answer_fits forms entry (Get name key owner) now h = h.value
row_answer_fits forms entry (ContainsKey name key owner) now h = tt
row_answer_fits forms entry (Remove name key owner) now h = h.value
row_answer_fits forms entry (Delete name key owner) now h = tt
row_answer_fits forms entry (Replace name key owner value) now h = h.value
row_answer_fits forms entry (ReplaceIfSame name key owner test value) now h = tt
row_answer_fits forms entry (RemoveIfSame name key owner test) now h = tt
row_answer_fits forms entry (TryLock name key owner lease) now h = tt
row_answer_fits forms entry (Unlock name key owner) now h = unlock_answer_fits (is_held_by entry.lock owner)
row_answer_fits forms entry (IsLocked name key) now h = tt
row_answer_fits forms entry (ForceUnlock name key) now h = tt
row_answer_fits forms entry (ExecuteOnKey name key owner number argument) now h = processed_answer_fits entry (item_at forms number) argument now h

locked_answer_fits : (owner : Option Owner) (entry : MapRecord) (made : Done) → AnswerFits made.0 → AnswerFits (unless_locked owner entry made).0
locked_answer_fits None entry made h = h
locked_answer_fits (Some owner) entry made h = go (may_write entry.lock owner)
  where
    go : (may : Bool) → AnswerFits (if may then made else (KeyLocked, entry)).0
    go true = h
    go false = tt

pub entry_answer_fits : (forms : List ProcessorForm) (entry : MapRecord) (call : MapCall) (now : ℕ) → EntryFits entry → AnswerFits (answer forms entry call now)
entry_answer_fits forms entry call now h =
    locked_answer_fits (writer forms call) (cleaned entry now) (row forms (cleaned entry now) call now)
    (row_answer_fits forms (cleaned entry now) call now (fit_cleaned entry now (parts_of_entry entry h)))
