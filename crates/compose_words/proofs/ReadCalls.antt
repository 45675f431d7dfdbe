-- What is said of a call is read as that call of the client.
use Rattle.std.proofs.Common.{◌≡◌, ℕ, ◌<◌, ◌≤◌, ℤ, [], length, All, Option, Some, None, Result, Ok, Err, refl, sym, ap, ◌∙◌}
use Rattle.std.specs.Prelude.{IfSome, drop}
use Rattle.std.specs.Str.{IsUtf8}
use Rattle.std.specs.Int.{w32, w64}
use Rattle.std.specs.Int.RustNames.{FitsSigned}
use Rattle.grid_base.specs.Names.{map_of, key_of}
use Rattle.grid_base.specs.declared.TheConstants.{PARTITIONS}
use Rattle.grid_base.specs.declared.names.ClientKey.{ClientKey}
use Rattle.grid_base.specs.declared.calls.MapCall.{MapCall}
use Rattle.grid_base.specs.declared.calls.MapCall.TheVariants.{Put, Set, PutIfAbsent, Get, ContainsKey, Remove, Delete, Replace, ReplaceIfSame, RemoveIfSame, TryLock, Unlock, IsLocked, ForceUnlock, ExecuteOnKey, PutMaxIdle, SetMaxIdle}
use Rattle.grid_base.specs.declared.calls.QueueCall.{QueueCall}
use Rattle.grid_base.specs.declared.calls.QueueCall.TheVariants.{Offer, Poll, Peek, Size, RemainingCapacity, Clear}
use Rattle.grid_base.specs.declared.calls.GridCall.TheVariants as calls
use Rattle.grid_base.specs.declared.refusal.CallRefused.{CallRefused}
use Rattle.grid_base.specs.declared.refusal.CallRefused.TheVariants.{UnknownType}
use Rattle.fixed_fields.specs.Requests.{kind_of as kind_in, reader_in}
use Rattle.message_frames.specs.Assembly.{first_payload}
use Rattle.message_frames.specs.declared.message.Message.{Message}
use Rattle.map_codecs.specs.Calls.{Reader, map_calls, call_by, map_call_of}
use Rattle.map_codecs.specs.SpelledCalls.{numbers_of, processor_of, IsCallOf, call_message}
use Rattle.map_codecs.proofs.Spelling.{sent_again}
use Rattle.queue_codecs.specs.Calls.{queue_call_of}
use Rattle.queue_codecs.specs.SpelledCalls as queues
use Rattle.queue_codecs.proofs.Spelling.{sent_again as queue_sent_again}
use Rattle.session_core.specs.Items.{either_call, call_of}
use Rattle.compose_words.specs.Sessions.{made_by}

-- ---- a call is the same but for its client

pub same_key : (client : ClientKey) (call : MapCall) → key_of (made_by client call) ≡ key_of call
same_key client (Put name key owner value ttl) = refl
same_key client (Set name key owner value ttl) = refl
same_key client (PutIfAbsent name key owner value ttl) = refl
same_key client (Get name key owner) = refl
same_key client (ContainsKey name key owner) = refl
same_key client (Remove name key owner) = refl
same_key client (Delete name key owner) = refl
same_key client (Replace name key owner value) = refl
same_key client (ReplaceIfSame name key owner test value) = refl
same_key client (RemoveIfSame name key owner test) = refl
same_key client (TryLock name key owner lease) = refl
same_key client (Unlock name key owner) = refl
same_key client (IsLocked name key) = refl
same_key client (ForceUnlock name key) = refl
same_key client (ExecuteOnKey name key owner number argument) = refl
same_key client (PutMaxIdle name key owner value ttl idle) = refl
same_key client (SetMaxIdle name key owner value ttl idle) = refl

same_message : (client : ClientKey) (correlation partition : ℤ) (call : MapCall) → call_message correlation partition (made_by client call) [] [] ≡ call_message correlation partition call [] []
same_message client correlation partition (Put name key owner value ttl) = refl
same_message client correlation partition (Set name key owner value ttl) = refl
same_message client correlation partition (PutIfAbsent name key owner value ttl) = refl
same_message client correlation partition (Get name key owner) = refl
same_message client correlation partition (ContainsKey name key owner) = refl
same_message client correlation partition (Remove name key owner) = refl
same_message client correlation partition (Delete name key owner) = refl
same_message client correlation partition (Replace name key owner value) = refl
same_message client correlation partition (ReplaceIfSame name key owner test value) = refl
same_message client correlation partition (RemoveIfSame name key owner test) = refl
same_message client correlation partition (TryLock name key owner lease) = refl
same_message client correlation partition (Unlock name key owner) = refl
same_message client correlation partition (IsLocked name key) = refl
same_message client correlation partition (ForceUnlock name key) = refl
same_message client correlation partition (ExecuteOnKey name key owner number argument) = refl
same_message client correlation partition (PutMaxIdle name key owner value ttl idle) = refl
same_message client correlation partition (SetMaxIdle name key owner value ttl idle) = refl

-- what can be said of a call on an entry
pub record IsSayable (call : MapCall) : Type 0 where
  pub name : IsUtf8 (map_of call)
  pub key : 8 ≤ length (key_of call)
  pub numbers : All (FitsSigned w64) (numbers_of call)
  pub processor : IfSome (processor_of call) (FitsSigned w32)

pub clients_call : (client : ClientKey) (call : MapCall) → IsSayable call → IsCallOf client (made_by client call)
clients_call client (Put name key owner value ttl) s = record { name = s.name; key = s.key; caller = refl; numbers = s.numbers; processor = tt }
clients_call client (Set name key owner value ttl) s = record { name = s.name; key = s.key; caller = refl; numbers = s.numbers; processor = tt }
clients_call client (PutIfAbsent name key owner value ttl) s = record { name = s.name; key = s.key; caller = refl; numbers = s.numbers; processor = tt }
clients_call client (Get name key owner) s = record { name = s.name; key = s.key; caller = refl; numbers = s.numbers; processor = tt }
clients_call client (ContainsKey name key owner) s = record { name = s.name; key = s.key; caller = refl; numbers = s.numbers; processor = tt }
clients_call client (Remove name key owner) s = record { name = s.name; key = s.key; caller = refl; numbers = s.numbers; processor = tt }
clients_call client (Delete name key owner) s = record { name = s.name; key = s.key; caller = refl; numbers = s.numbers; processor = tt }
clients_call client (Replace name key owner value) s = record { name = s.name; key = s.key; caller = refl; numbers = s.numbers; processor = tt }
clients_call client (ReplaceIfSame name key owner test value) s = record { name = s.name; key = s.key; caller = refl; numbers = s.numbers; processor = tt }
clients_call client (RemoveIfSame name key owner test) s = record { name = s.name; key = s.key; caller = refl; numbers = s.numbers; processor = tt }
clients_call client (TryLock name key owner lease) s = record { name = s.name; key = s.key; caller = refl; numbers = s.numbers; processor = tt }
clients_call client (Unlock name key owner) s = record { name = s.name; key = s.key; caller = refl; numbers = s.numbers; processor = tt }
clients_call client (IsLocked name key) s = record { name = s.name; key = s.key; caller = tt; numbers = s.numbers; processor = tt }
clients_call client (ForceUnlock name key) s = record { name = s.name; key = s.key; caller = tt; numbers = s.numbers; processor = tt }
clients_call client (ExecuteOnKey name key owner number argument) s = record { name = s.name; key = s.key; caller = refl; numbers = s.numbers; processor = s.processor }
clients_call client (PutMaxIdle name key owner value ttl idle) s = record { name = s.name; key = s.key; caller = refl; numbers = s.numbers; processor = tt }
clients_call client (SetMaxIdle name key owner value ttl idle) s = record { name = s.name; key = s.key; caller = refl; numbers = s.numbers; processor = tt }

-- ---- read by the session

pub map_read : (client : ClientKey) (correlation partition : ℤ) (call : MapCall) → IsSayable call → call_of client (call_message correlation partition call [] []) ≡ Ok (calls.Map (made_by client call))
map_read client correlation partition call s =
    let message = call_message correlation partition call [] [] in
    let read : map_call_of client message ≡ Ok (made_by client call) =
    ap (map_call_of client) (sym (same_message client correlation partition call)) ∙ sent_again client correlation partition (made_by client call) [] [] (clients_call client call s)
    in
    ap (λ (found : Result MapCall CallRefused). either_call found (queue_call_of message)) read

-- a message whose type no call on an entry has
pub no_map_kind : (client : ClientKey) (message : Message) (kind : ℕ) → kind_in (first_payload message.frames) ≡ Some kind → reader_in (Some kind) map_calls ≡ None → map_call_of client message ≡ Err UnknownType
unfolding map_call_of
no_map_kind client message kind e none =
    let payload = first_payload message.frames in
    ap (λ (found : Option ℕ). call_by client payload (drop 1 message.frames) (reader_in found map_calls)) e
    ∙ ap (λ (reader : Option Reader). call_by client payload (drop 1 message.frames) reader) none

-- no call on an entry has the type of a call on a queue
no_reader : (call : QueueCall) → reader_in (Some (queues.kind_of_call call)) map_calls ≡ None
no_reader (Offer name value) = refl
no_reader (Poll name) = refl
no_reader (Peek name) = refl
no_reader (Size name) = refl
no_reader (RemainingCapacity name) = refl
no_reader (Clear name) = refl

pub queue_read : (client : ClientKey) (correlation : ℤ) (partition : ℕ) (call : QueueCall) → kind_in (first_payload (queues.call_message correlation partition call [] []).frames) ≡ Some (queues.kind_of_call call)
    → queues.IsCall call → partition < PARTITIONS → call_of client (queues.call_message correlation partition call [] []) ≡ Ok (calls.Queue call)
queue_read client correlation partition call kind is within =
    let message = queues.call_message correlation partition call [] [] in
    ap (λ (found : Result MapCall CallRefused). either_call found (queue_call_of message)) (no_map_kind client message (queues.kind_of_call call) kind (no_reader call))
    ∙ ap (either_call (Err UnknownType)) (queue_sent_again correlation partition call [] [] is within)
