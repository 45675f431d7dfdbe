-- Calls that wait, and when they are ready: where the plain call, made now, would be answered as it wishes.
use Rattle.std.specs.Prelude.{◌≡◌, ℕ, Bool, true, false, not, List, nat_eq, Option, None, is_some}
use Rattle.std.specs.Cmp.Lexicographic.{pointwise}
use Rattle.grid_base.specs.declared.names.Owner.{Owner}
use Rattle.grid_base.specs.declared.names.ObjectKey.TheVariants as object
use Rattle.grid_base.specs.declared.calls.Answer.{Answer}
use Rattle.grid_base.specs.declared.calls.Answer.TheVariants.{Flag, Maybe, KeyLocked}
use Rattle.grid_base.specs.declared.calls.GridCall.{GridCall}
use Rattle.grid_base.specs.declared.calls.GridCall.TheVariants as call
use Rattle.grid_base.specs.declared.calls.MapCall.{MapCall}
use Rattle.grid_base.specs.declared.calls.MapCall.TheVariants.{TryLock, Put}
use Rattle.grid_base.specs.declared.calls.QueueCall.{QueueCall}
use Rattle.grid_base.specs.declared.calls.QueueCall.TheVariants.{Offer, Poll}
use Rattle.grid_base.specs.declared.calls.Request.{Request}
use Rattle.fixed_fields.specs.Replies.{reply_bytes}
use Rattle.key_locks.specs.declared.locks.Lock.{Lock}
use Rattle.key_locks.specs.Locks.{may_write, may_lock, cleaned}
use Rattle.queue_records.specs.Queues.{has_room, front}
use Rattle.object_store.specs.Records.{entry_in, items_in}
use Rattle.object_store.specs.Partitions.{Partition, record_at}
use Rattle.call_engine.specs.Calls.{Settings}
use Rattle.call_engine.specs.Objects.{partition_object}

-- To wait for a lock ends as trying it answers true, and to put as it isn't kept out by a lock.
abbrev pub is_wished_on_entry : MapCall → (Answer → Bool) → Bool
is_wished_on_entry (TryLock name key owner lease) is = is (Flag true)
is_wished_on_entry (Put name key owner value ttl) is = not (is KeyLocked)
is_wished_on_entry _ is = false

-- To offer ends as it answers true, and to poll as it answers a value.
abbrev pub is_wished_on_queue : QueueCall → (Answer → Bool) → Bool
is_wished_on_queue (Offer name value) is = is (Flag true)
is_wished_on_queue (Poll name) is = not (is (Maybe None))
is_wished_on_queue _ is = false

-- Whether what a call is answered is what it wishes, where `is` says whether it is that answer. No other call waits, and none of them is ready.
abbrev pub is_wished : GridCall → (Answer → Bool) → Bool
is_wished (call.Map c) is = is_wished_on_entry c is
is_wished (call.Queue c) is = is_wished_on_queue c is

-- the reply to a request is one that it wishes
abbrev pub is_wished_reply : Request → List ℕ → Bool
is_wished_reply r reply = is_wished r.call (λ a. pointwise nat_eq reply (reply_bytes r.kind r.correlation a))

-- By the reply of the partition as a one-thread object: as the machine of calls that wait has it, with this test.
abbrev pub is_ready : Settings → Partition → Request → ℕ → Bool
is_ready settings s r now = is_wished_reply r ((partition_object settings).reply s r now)

-- what is looked at

-- What a call wishes: that its owner may lock a key, or may write it; that a queue has room, or a value.
pub data Wish : Type 0 where
  MayLock : (map key : List ℕ) (owner : Owner) → Wish
  MayWrite : (map key : List ℕ) (owner : Owner) → Wish
  HasRoom : (queue : List ℕ) → Wish
  HasValue : (queue : List ℕ) → Wish
  Never : Wish

abbrev pub entry_wish : MapCall → Wish
entry_wish (TryLock name key owner lease) = MayLock name key owner
entry_wish (Put name key owner value ttl) = MayWrite name key owner
entry_wish _ = Never

abbrev pub queue_wish : QueueCall → Wish
queue_wish (Offer name value) = HasRoom name
queue_wish (Poll name) = HasValue name
queue_wish _ = Never

abbrev pub wish_of : GridCall → Wish
wish_of (call.Map c) = entry_wish c
wish_of (call.Queue c) = queue_wish c

-- the lock of a key, if its lease hasn't ended
abbrev pub lock_at : Partition → List ℕ → List ℕ → ℕ → Option Lock
lock_at s map key now = cleaned (entry_in (record_at s (object.Entry map key))).lock now

abbrev pub items_at : Partition → List ℕ → List (List ℕ)
items_at s name = items_in (record_at s (object.Queue name))

-- whether it is so, where queues have that capacity
abbrev pub is_granted : ℕ → Partition → ℕ → Wish → Bool
is_granted capacity s now (MayLock map key owner) = may_lock (lock_at s map key now) owner
is_granted capacity s now (MayWrite map key owner) = may_write (lock_at s map key now) owner
is_granted capacity s now (HasRoom name) = has_room (items_at s name) capacity
is_granted capacity s now (HasValue name) = is_some (front (items_at s name))
is_granted capacity s now Never = false

-- A call is ready exactly where what it wishes is so.
abbrev pub ReadyWhereGranted : Settings → Partition → Request → ℕ → Type 0
ReadyWhereGranted settings s r now = is_ready settings s r now ≡ is_granted settings.capacity s now (wish_of r.call)
