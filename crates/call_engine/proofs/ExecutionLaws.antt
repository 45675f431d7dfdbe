-- Executing a call on what is found of its object is executing it on what is kept.
use Rattle.std.proofs.Common.{◌≡◌, ℕ, List, [], Some, None, Result, Ok, Err, IfOk, sym, subst}
use Rattle.grid_base.specs.declared.calls.Executed.{Executed}
use Rattle.grid_base.specs.declared.calls.GridCall.TheVariants as call
use Rattle.grid_base.specs.declared.calls.MapCall.{MapCall}
use Rattle.grid_base.specs.declared.calls.QueueCall.{QueueCall}
use Rattle.grid_base.specs.declared.calls.Request.{Request}
use Rattle.map_records.specs.declared.records.MapRecord.{MapRecord}
use Rattle.map_records.specs.MapEntries.{empty_entry}
use Rattle.object_store.specs.Records.{Record, Map, Queue, entry_in, items_in, kept_entry, kept_items}
use Rattle.call_engine.specs.Calls.{Settings}
use Rattle.call_engine.specs.Executions.{IsExecution}
use Rattle.call_engine.proofs.Found.{found_entry, no_entry, found_items, no_items}

module _ (settings : Settings) (r : Request) (now : ℕ) {E : Type 0} where
  on_entry : (kept : Record) (entry : MapRecord) (c : MapCall) (made : Result Executed E) → entry ≡ entry_in kept → IfOk made (IsExecution settings (Map entry) r (call.Map c) now) → IfOk made (IsExecution settings kept r (call.Map c) now)
  on_entry kept entry c made is h = go made (subst (λ found. IfOk made (IsExecution settings (Map found) r (call.Map c) now)) is h)
    where
      go : (result : Result Executed E) → IfOk result (IsExecution settings (Map (entry_in kept)) r (call.Map c) now) → IfOk result (IsExecution settings kept r (call.Map c) now)
      go (Ok executed) it = record { reply = it.reply; effect = it.effect; change = it.change }
      go (Err e) it = tt

  pub on_found_entry : (kept : Record) (entry : MapRecord) (c : MapCall) (made : Result Executed E) → Some entry ≡ kept_entry kept → IfOk made (IsExecution settings (Map entry) r (call.Map c) now) → IfOk made (IsExecution settings kept r (call.Map c) now)
  on_found_entry kept entry c made is h = on_entry kept entry c made (found_entry kept entry is) h

  pub on_no_entry : (kept : Record) (c : MapCall) (made : Result Executed E) → None ≡ kept_entry kept → IfOk made (IsExecution settings (Map empty_entry) r (call.Map c) now) → IfOk made (IsExecution settings kept r (call.Map c) now)
  on_no_entry kept c made is h = on_entry kept empty_entry c made (sym (no_entry kept is)) h

  on_items : (kept : Record) (items : List (List ℕ)) (c : QueueCall) (made : Result Executed E) → items ≡ items_in kept → IfOk made (IsExecution settings (Queue items) r (call.Queue c) now) → IfOk made (IsExecution settings kept r (call.Queue c) now)
  on_items kept items c made is h = go made (subst (λ found. IfOk made (IsExecution settings (Queue found) r (call.Queue c) now)) is h)
    where
      go : (result : Result Executed E) → IfOk result (IsExecution settings (Queue (items_in kept)) r (call.Queue c) now) → IfOk result (IsExecution settings kept r (call.Queue c) now)
      go (Ok executed) it = record { reply = it.reply; effect = it.effect; change = it.change }
      go (Err e) it = tt

  pub on_found_items : (kept : Record) (items : List (List ℕ)) (c : QueueCall) (made : Result Executed E) → Some items ≡ kept_items kept → IfOk made (IsExecution settings (Queue items) r (call.Queue c) now) → IfOk made (IsExecution settings kept r (call.Queue c) now)
  on_found_items kept items c made is h = on_items kept items c made (found_items kept items is) h

  pub on_no_items : (kept : Record) (c : QueueCall) (made : Result Executed E) → None ≡ kept_items kept → IfOk made (IsExecution settings (Queue []) r (call.Queue c) now) → IfOk made (IsExecution settings kept r (call.Queue c) now)
  on_no_items kept c made is h = on_items kept [] c made (sym (no_items kept is)) h
