-- The names of objects and calls.
use Rattle.std.specs.Prelude.{ℕ, Bool, false, ◌==◌, ◌&&◌, List, nat_eq}
use Rattle.std.specs.Cmp.Lexicographic.{pointwise}
use Rattle.grid_base.specs.declared.names.CallId.{CallId}
use Rattle.grid_base.specs.declared.names.ObjectKey.{ObjectKey}
use Rattle.grid_base.specs.declared.names.ObjectKey.TheVariants.{Entry, Queue}
use Rattle.grid_base.specs.declared.calls.MapCall.{MapCall}
use Rattle.grid_base.specs.declared.calls.MapCall.TheVariants.{Put, Set, PutIfAbsent, Get, ContainsKey, Remove, Delete, Replace, ReplaceIfSame, RemoveIfSame, TryLock, Unlock, IsLocked, ForceUnlock, ExecuteOnKey, PutMaxIdle, SetMaxIdle}
use Rattle.grid_base.specs.declared.calls.QueueCall.{QueueCall}
use Rattle.grid_base.specs.declared.calls.QueueCall.TheVariants.{Offer, Poll, Peek, Size, RemainingCapacity, Clear}
use Rattle.grid_base.specs.declared.calls.GridCall.{GridCall}
use Rattle.grid_base.specs.declared.calls.GridCall.TheVariants as call

abbrev pub is_same_call : CallId → CallId → Bool
is_same_call a b = (a.conn == b.conn) && (a.number == b.number)

-- Two objects are the same where they are of one kind and their names are equal, byte by byte.
abbrev pub is_same : ObjectKey → ObjectKey → Bool
is_same (Entry map key) (Entry map' key') = pointwise nat_eq map map' && pointwise nat_eq key key'
is_same (Queue name) (Queue name') = pointwise nat_eq name name'
is_same (Entry map key) (Queue name) = false
is_same (Queue name) (Entry map key) = false

-- the map that a call is on
abbrev pub map_of : MapCall → List ℕ
map_of (Put name key owner value ttl) = name
map_of (Set name key owner value ttl) = name
map_of (PutIfAbsent name key owner value ttl) = name
map_of (Get name key owner) = name
map_of (ContainsKey name key owner) = name
map_of (Remove name key owner) = name
map_of (Delete name key owner) = name
map_of (Replace name key owner value) = name
map_of (ReplaceIfSame name key owner test value) = name
map_of (RemoveIfSame name key owner test) = name
map_of (TryLock name key owner lease) = name
map_of (Unlock name key owner) = name
map_of (IsLocked name key) = name
map_of (ForceUnlock name key) = name
map_of (ExecuteOnKey name key owner number argument) = name
map_of (PutMaxIdle name key owner value ttl idle) = name
map_of (SetMaxIdle name key owner value ttl idle) = name

-- and the key of its entry there
abbrev pub key_of : MapCall → List ℕ
key_of (Put name key owner value ttl) = key
key_of (Set name key owner value ttl) = key
key_of (PutIfAbsent name key owner value ttl) = key
key_of (Get name key owner) = key
key_of (ContainsKey name key owner) = key
key_of (Remove name key owner) = key
key_of (Delete name key owner) = key
key_of (Replace name key owner value) = key
key_of (ReplaceIfSame name key owner test value) = key
key_of (RemoveIfSame name key owner test) = key
key_of (TryLock name key owner lease) = key
key_of (Unlock name key owner) = key
key_of (IsLocked name key) = key
key_of (ForceUnlock name key) = key
key_of (ExecuteOnKey name key owner number argument) = key
key_of (PutMaxIdle name key owner value ttl idle) = key
key_of (SetMaxIdle name key owner value ttl idle) = key

-- the queue that a call is on
abbrev pub queue_of : QueueCall → List ℕ
queue_of (Offer name value) = name
queue_of (Poll name) = name
queue_of (Peek name) = name
queue_of (Size name) = name
queue_of (RemainingCapacity name) = name
queue_of (Clear name) = name

-- the object that a call is on
abbrev pub object_of : GridCall → ObjectKey
object_of (call.Map call) = Entry (map_of call) (key_of call)
object_of (call.Queue call) = Queue (queue_of call)
