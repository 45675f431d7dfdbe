-- Which calls are read, and the messages that spell each of them.
use Rattle.std.specs.Prelude.{◌≡◌, ℕ, ◌≤◌, ℤ, List, [], ◌∷◌, ◌++◌, length, drop, All, Option, Some, None, IfSome}
use Rattle.std.specs.List.{flat_map}
use Rattle.std.specs.Str.{IsUtf8}
use Rattle.std.specs.Int.{w32, w64, to_le_bytes}
use Rattle.std.specs.Int.RustNames.{FitsSigned}
use Rattle.grid_base.specs.Names.{map_of, key_of}
use Rattle.grid_base.specs.declared.names.ClientKey.{ClientKey}
use Rattle.grid_base.specs.declared.names.Owner.{Owner}
use Rattle.grid_base.specs.declared.calls.MapCall.{MapCall}
use Rattle.grid_base.specs.declared.calls.MapCall.TheVariants.{Put, Set, PutIfAbsent, Get, ContainsKey, Remove, Delete, Replace, ReplaceIfSame, RemoveIfSame, TryLock, Unlock, IsLocked, ForceUnlock, ExecuteOnKey, PutMaxIdle, SetMaxIdle}
use Rattle.frame_codec.specs.Laws.{IsBytes}
use Rattle.frame_codec.specs.declared.frames.Frame.{Frame}
use Rattle.fixed_fields.specs.Fields.{int32_bytes, int64_bytes}
use Rattle.fixed_fields.specs.Responses.{unfragmented}
use Rattle.fixed_fields.specs.Spelled.{request_head, HoldParts, with_parts}
use Rattle.message_frames.specs.Assembly.{first_payload}
use Rattle.message_frames.specs.declared.message.Message.{Message}
use Rattle.map_codecs.specs.Calls.{put_kind, get_kind, remove_kind, replace_kind, replace_if_same_kind, contains_key_kind, remove_if_same_kind, delete_kind, put_if_absent_kind, set_kind, try_lock_kind, is_locked_kind, unlock_kind, execute_on_key_kind, force_unlock_kind, put_max_idle_kind, set_max_idle_kind}

-- ---- what a call says

abbrev pub kind_of_call : MapCall → ℕ
kind_of_call (Put name key owner value ttl) = put_kind
kind_of_call (Set name key owner value ttl) = set_kind
kind_of_call (PutIfAbsent name key owner value ttl) = put_if_absent_kind
kind_of_call (Get name key owner) = get_kind
kind_of_call (ContainsKey name key owner) = contains_key_kind
kind_of_call (Remove name key owner) = remove_kind
kind_of_call (Delete name key owner) = delete_kind
kind_of_call (Replace name key owner value) = replace_kind
kind_of_call (ReplaceIfSame name key owner test value) = replace_if_same_kind
kind_of_call (RemoveIfSame name key owner test) = remove_if_same_kind
kind_of_call (TryLock name key owner lease) = try_lock_kind
kind_of_call (Unlock name key owner) = unlock_kind
kind_of_call (IsLocked name key) = is_locked_kind
kind_of_call (ForceUnlock name key) = force_unlock_kind
kind_of_call (ExecuteOnKey name key owner number argument) = execute_on_key_kind
kind_of_call (PutMaxIdle name key owner value ttl idle) = put_max_idle_kind
kind_of_call (SetMaxIdle name key owner value ttl idle) = set_max_idle_kind

-- who makes the call, where it says so
abbrev pub caller_of : MapCall → Option Owner
caller_of (Put name key owner value ttl) = Some owner
caller_of (Set name key owner value ttl) = Some owner
caller_of (PutIfAbsent name key owner value ttl) = Some owner
caller_of (Get name key owner) = Some owner
caller_of (ContainsKey name key owner) = Some owner
caller_of (Remove name key owner) = Some owner
caller_of (Delete name key owner) = Some owner
caller_of (Replace name key owner value) = Some owner
caller_of (ReplaceIfSame name key owner test value) = Some owner
caller_of (RemoveIfSame name key owner test) = Some owner
caller_of (TryLock name key owner lease) = Some owner
caller_of (Unlock name key owner) = Some owner
caller_of (IsLocked name key) = None
caller_of (ForceUnlock name key) = None
caller_of (ExecuteOnKey name key owner number argument) = Some owner
caller_of (PutMaxIdle name key owner value ttl idle) = Some owner
caller_of (SetMaxIdle name key owner value ttl idle) = Some owner

-- the fields behind those of each request: the caller's thread, then the times
abbrev pub numbers_of : MapCall → List ℤ
numbers_of (Put name key owner value ttl) = owner.thread ∷ ttl ∷ []
numbers_of (Set name key owner value ttl) = owner.thread ∷ ttl ∷ []
numbers_of (PutIfAbsent name key owner value ttl) = owner.thread ∷ ttl ∷ []
numbers_of (Get name key owner) = owner.thread ∷ []
numbers_of (ContainsKey name key owner) = owner.thread ∷ []
numbers_of (Remove name key owner) = owner.thread ∷ []
numbers_of (Delete name key owner) = owner.thread ∷ []
numbers_of (Replace name key owner value) = owner.thread ∷ []
numbers_of (ReplaceIfSame name key owner test value) = owner.thread ∷ []
numbers_of (RemoveIfSame name key owner test) = owner.thread ∷ []
numbers_of (TryLock name key owner lease) = owner.thread ∷ lease ∷ []
numbers_of (Unlock name key owner) = owner.thread ∷ []
numbers_of (IsLocked name key) = []
numbers_of (ForceUnlock name key) = []
numbers_of (ExecuteOnKey name key owner number argument) = owner.thread ∷ []
numbers_of (PutMaxIdle name key owner value ttl idle) = owner.thread ∷ ttl ∷ idle ∷ []
numbers_of (SetMaxIdle name key owner value ttl idle) = owner.thread ∷ ttl ∷ idle ∷ []

-- what the frames behind the first hold
abbrev pub parts_of : MapCall → List (List ℕ)
parts_of (Put name key owner value ttl) = name ∷ key ∷ value ∷ []
parts_of (Set name key owner value ttl) = name ∷ key ∷ value ∷ []
parts_of (PutIfAbsent name key owner value ttl) = name ∷ key ∷ value ∷ []
parts_of (Get name key owner) = name ∷ key ∷ []
parts_of (ContainsKey name key owner) = name ∷ key ∷ []
parts_of (Remove name key owner) = name ∷ key ∷ []
parts_of (Delete name key owner) = name ∷ key ∷ []
parts_of (Replace name key owner value) = name ∷ key ∷ value ∷ []
parts_of (ReplaceIfSame name key owner test value) = name ∷ key ∷ test ∷ value ∷ []
parts_of (RemoveIfSame name key owner test) = name ∷ key ∷ test ∷ []
parts_of (TryLock name key owner lease) = name ∷ key ∷ []
parts_of (Unlock name key owner) = name ∷ key ∷ []
parts_of (IsLocked name key) = name ∷ key ∷ []
parts_of (ForceUnlock name key) = name ∷ key ∷ []
parts_of (ExecuteOnKey name key owner number argument) = name ∷ (int32_bytes number ++ argument) ∷ key ∷ []
parts_of (PutMaxIdle name key owner value ttl idle) = name ∷ key ∷ value ∷ []
parts_of (SetMaxIdle name key owner value ttl idle) = name ∷ key ∷ value ∷ []

-- the processor's number, where the call runs one
abbrev pub processor_of : MapCall → Option ℤ
processor_of (ExecuteOnKey name key owner number argument) = Some number
processor_of _ = None

-- ---- the calls that are read

-- a key has at least the eight bytes before its content
abbrev pub IsKey : List ℕ → Type 0
IsKey key = 8 ≤ length key

-- A name is a text, the caller is a thread of that client, and each number is one of its size.
pub record IsCallOf (client : ClientKey) (call : MapCall) : Type 0 where
  pub name : IsUtf8 (map_of call)
  pub key : IsKey (key_of call)
  pub caller : IfSome (caller_of call) (λ owner. owner.client ≡ client)
  pub numbers : All (FitsSigned w64) (numbers_of call)
  pub processor : IfSome (processor_of call) (FitsSigned w32)

-- ---- the messages that spell a call

abbrev pub call_fields : MapCall → List ℕ
call_fields call = flat_map int64_bytes (numbers_of call)

-- a message as it arrives: its frames hold bytes, and the first has the head of a request whole
pub record HasArrived (message : Message) : Type 0 where
  pub bytes : All (λ frame. IsBytes frame.payload) message.frames
  pub head : 16 ≤ length (first_payload message.frames)

-- The first payload begins with the type, twelve bytes for the correlation and the partition, and the call's fields, and the frames behind it with the parts.
-- What follows either doesn't count.
pub record Spells (message : Message) (call : MapCall) : Type 0 where
  pub between : List ℕ
  pub twelve : length between ≡ 12
  pub more : List ℕ
  pub fields : first_payload message.frames ≡ (to_le_bytes w32 (kind_of_call call) ++ between ++ call_fields call) ++ more
  pub parts : HoldParts (drop 1 message.frames) (parts_of call)

-- The message that a client sends, with any more bytes in its first frame, and any frames behind its parts.
abbrev pub call_message : ℤ → ℤ → MapCall → List ℕ → List Frame → Message
call_message correlation partition call more behind =
    let payload = (request_head (kind_of_call call) correlation partition ++ call_fields call) ++ more in
    record { frames = record { flags = unfragmented; payload = payload } ∷ with_parts (parts_of call) behind }
