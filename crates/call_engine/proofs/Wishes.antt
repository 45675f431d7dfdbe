-- A call is ready exactly where what it wishes is so.
use Rattle.std.proofs.Common.{◌≡◌, ◌≢◌, ℕ, Bool, true, false, not, List, ◌++◌, Option, Some, None, is_some, get_or, refl, ap, sym, ◌∙◌}
use Rattle.std.proofs.lemmas.Bool.{false_from_ne_true}
use Rattle.std.proofs.lemmas.List.{append_cancel_left}
use Rattle.std.proofs.lemmas.Slice.Eq.{bytes_eq-Decides}
use Rattle.std.specs.Prelude.{nat_eq, ℤ, pos, if◌then◌else◌}
use Rattle.std.specs.Int.{w32, to_le_bytes}
use Rattle.std.specs.Cmp.Lexicographic.{pointwise}
use Rattle.grid_base.specs.Errors.{key_locked}
use Rattle.grid_base.specs.Names.{object_of}
use Rattle.grid_base.specs.declared.names.ObjectKey.TheVariants as object
use Rattle.grid_base.specs.declared.calls.Answer.{Answer}
use Rattle.grid_base.specs.declared.calls.Answer.TheVariants.{Flag, Maybe, KeyLocked}
use Rattle.grid_base.specs.declared.calls.GridCall.{GridCall}
use Rattle.grid_base.specs.declared.calls.GridCall.TheVariants as call
use Rattle.grid_base.specs.declared.calls.MapCall.{MapCall}
use Rattle.grid_base.specs.declared.calls.MapCall.TheVariants.{Put, Set, PutIfAbsent, Get, ContainsKey, Remove, Delete, Replace, ReplaceIfSame, RemoveIfSame, TryLock, Unlock, IsLocked, ForceUnlock, ExecuteOnKey, PutMaxIdle, SetMaxIdle}
use Rattle.grid_base.specs.declared.calls.QueueCall.{QueueCall}
use Rattle.grid_base.specs.declared.calls.QueueCall.TheVariants.{Offer, Poll, Peek, Size, RemainingCapacity, Clear}
use Rattle.grid_base.specs.declared.calls.Request.{Request}
use Rattle.frame_codec.specs.declared.frames.Frame.{Frame}
use Rattle.frame_codec.specs.Frames.{frame_bytes, frame_length}
use Rattle.fixed_fields.specs.Fields.{int32_bytes}
use Rattle.fixed_fields.specs.Responses.{unfragmented, single, framed, head_bytes, response_head, nullable_frame}
use Rattle.fixed_fields.specs.Replies.{reply_bytes}
use Rattle.key_locks.specs.Locks.{may_write, may_lock}
use Rattle.map_records.specs.declared.records.MapRecord.{MapRecord}
use Rattle.map_records.specs.MapEntries.{cleaned as cleaned_entry}
use Rattle.map_records.specs.MapTable.{Done, row}
use Rattle.queue_records.specs.Queues.{has_room, front}
use Rattle.object_store.specs.Records.{entry_in}
use Rattle.object_store.specs.Partitions.{Partition, record_at}
use Rattle.call_engine.specs.Calls.{Settings, answer}
use Rattle.call_engine.specs.Readiness.{is_wished, entry_wish, queue_wish, wish_of, lock_at, items_at, is_granted, ReadyWhereGranted}

-- answers told apart by their bytes

-- the reply with an answer is that with another
abbrev is_reply : ℕ → ℤ → Answer → Answer → Bool
is_reply kind correlation a b = pointwise nat_eq (reply_bytes kind correlation a) (reply_bytes kind correlation b)

same : (xs : List ℕ) → pointwise nat_eq xs xs ≡ true
same xs = (bytes_eq-Decides xs xs).1 refl

differ : (xs ys : List ℕ) → xs ≢ ys → pointwise nat_eq xs ys ≡ false
differ xs ys not_same = false_from_ne_true _ (λ e. not_same ((bytes_eq-Decides xs ys).0 e))

is_true : (kind : ℕ) (correlation : ℤ) (flag : Bool) → is_reply kind correlation (Flag flag) (Flag true) ≡ flag
is_true kind correlation true = same (reply_bytes kind correlation (Flag true))
is_true kind correlation false = differ (reply_bytes kind correlation (Flag false)) (reply_bytes kind correlation (Flag true)) (λ e. let bytes : ◌≡◌ {A = ℕ} 0 1 = ap (λ zs. get_or zs 19 0) e in cc)

-- a value's head is 13 bytes long, an error 25
head_length : (kind : ℕ) (correlation : ℤ) → frame_length (record { flags = unfragmented; payload = response_head kind correlation }) ≡ 19
head_length kind correlation = refl

error_length : (correlation : ℤ) (error : List ℕ) → error ≡ head_bytes 0 correlation ++ int32_bytes (pos key_locked) ++ int32_bytes (pos 0) ++ int32_bytes (pos 0) → frame_length (record { flags = single; payload = error }) ≡ 31
error_length correlation error e = ap (λ zs. frame_length (record { flags = single; payload = zs })) e

frames_differ : (first second : Frame) (behind : List ℕ) → frame_length first ≡ 19 → frame_length second ≡ 31 → frame_bytes first ++ behind ≢ frame_bytes second
frames_differ first second behind short long e =
    let its : get_or (to_le_bytes w32 (frame_length first)) 0 0 ≡ get_or (to_le_bytes w32 (frame_length second)) 0 0 = ap (λ zs. get_or zs 0 0) e in
    let bytes : ◌≡◌ {A = ℕ} 19 31 = sym (ap (λ n. get_or (to_le_bytes w32 n) 0 0) short) ∙ its ∙ ap (λ n. get_or (to_le_bytes w32 n) 0 0) long in
    cc

not_locked : (kind : ℕ) (correlation : ℤ) (value : Option (List ℕ)) → is_reply kind correlation (Maybe value) KeyLocked ≡ false
not_locked kind correlation value =
    differ (reply_bytes kind correlation (Maybe value)) (reply_bytes kind correlation KeyLocked)
    (frames_differ (record { flags = unfragmented; payload = response_head kind correlation }) (record { flags = single; payload = head_bytes 0 correlation ++ int32_bytes (pos key_locked) ++ int32_bytes (pos 0) ++ int32_bytes (pos 0) }) (nullable_frame value) (head_length kind correlation) (error_length correlation _ refl))

null_differs : (value : List ℕ) → nullable_frame (Some value) ≢ nullable_frame None
null_differs value e = let bytes : ◌≡◌ {A = ℕ} 0x20 0x24 = ap (λ zs. get_or zs 5 0) e in cc

not_null : (kind : ℕ) (correlation : ℤ) (value : List ℕ) → is_reply kind correlation (Maybe (Some value)) (Maybe None) ≡ false
not_null kind correlation value =
    differ (reply_bytes kind correlation (Maybe (Some value))) (reply_bytes kind correlation (Maybe None))
    (λ e. null_differs value (append_cancel_left (framed unfragmented (response_head kind correlation)) (nullable_frame (Some value)) (nullable_frame None) e))

-- what a put does, that a lock may keep out
abbrev put_done : Bool → Option (List ℕ) → MapRecord → MapRecord → Done
put_done may value next current = if may then (Maybe value, next) else (KeyLocked, current)

is_let_in : (is : Answer → Bool) (may : Bool) (value : Option (List ℕ)) (next current : MapRecord) → is (Maybe value) ≡ false → is KeyLocked ≡ true → not (is (put_done may value next current).0) ≡ may
is_let_in is true value next current free locked = ap not free
is_let_in is false value next current free locked = ap not locked

has_value : (is : Answer → Bool) (value : Option (List ℕ)) → ((some : List ℕ) → is (Maybe (Some some)) ≡ false) → is (Maybe None) ≡ true → not (is (Maybe value)) ≡ is_some value
has_value is None some none = ap not none
has_value is (Some value) some none = ap not (some value)

-- by what is kept of an entry and of a queue

on_entry : (settings : Settings) (s : Partition) (kind : ℕ) (correlation : ℤ) (c : MapCall) (now : ℕ)
    → is_wished (call.Map c) (λ a. is_reply kind correlation (answer settings (record_at s (object_of (call.Map c))) (call.Map c) now) a) ≡ is_granted settings.capacity s now (entry_wish c)
on_entry settings s kind correlation (TryLock name key owner lease) now = is_true kind correlation (may_lock (lock_at s name key now) owner)
on_entry settings s kind correlation (Put name key owner value ttl) now =
    let current : MapRecord = cleaned_entry (entry_in (record_at s (object.Entry name key))) now in
    is_let_in (λ a. is_reply kind correlation a KeyLocked) (may_write (lock_at s name key now) owner) current.value (row settings.forms current (Put name key owner value ttl) now).1 current
    (not_locked kind correlation current.value) (same (reply_bytes kind correlation KeyLocked))
on_entry settings s kind correlation (Set name key owner value ttl) now = refl
on_entry settings s kind correlation (PutIfAbsent name key owner value ttl) now = refl
on_entry settings s kind correlation (Get name key owner) now = refl
on_entry settings s kind correlation (ContainsKey name key owner) now = refl
on_entry settings s kind correlation (Remove name key owner) now = refl
on_entry settings s kind correlation (Delete name key owner) now = refl
on_entry settings s kind correlation (Replace name key owner value) now = refl
on_entry settings s kind correlation (ReplaceIfSame name key owner test value) now = refl
on_entry settings s kind correlation (RemoveIfSame name key owner test) now = refl
on_entry settings s kind correlation (Unlock name key owner) now = refl
on_entry settings s kind correlation (IsLocked name key) now = refl
on_entry settings s kind correlation (ForceUnlock name key) now = refl
on_entry settings s kind correlation (ExecuteOnKey name key owner number argument) now = refl
on_entry settings s kind correlation (PutMaxIdle name key owner value ttl idle) now = refl
on_entry settings s kind correlation (SetMaxIdle name key owner value ttl idle) now = refl

on_queue : (settings : Settings) (s : Partition) (kind : ℕ) (correlation : ℤ) (c : QueueCall) (now : ℕ)
    → is_wished (call.Queue c) (λ a. is_reply kind correlation (answer settings (record_at s (object_of (call.Queue c))) (call.Queue c) now) a) ≡ is_granted settings.capacity s now (queue_wish c)
on_queue settings s kind correlation (Offer name value) now = is_true kind correlation (has_room (items_at s name) settings.capacity)
on_queue settings s kind correlation (Poll name) now = has_value (λ a. is_reply kind correlation a (Maybe None)) (front (items_at s name)) (not_null kind correlation) (same (reply_bytes kind correlation (Maybe None)))
on_queue settings s kind correlation (Peek name) now = refl
on_queue settings s kind correlation (Size name) now = refl
on_queue settings s kind correlation (RemainingCapacity name) now = refl
on_queue settings s kind correlation (Clear name) now = refl

on_call : (settings : Settings) (s : Partition) (kind : ℕ) (correlation : ℤ) (c : GridCall) (now : ℕ)
    → is_wished c (λ a. is_reply kind correlation (answer settings (record_at s (object_of c)) c now) a) ≡ is_granted settings.capacity s now (wish_of c)
on_call settings s kind correlation (call.Map c) now = on_entry settings s kind correlation c now
on_call settings s kind correlation (call.Queue c) now = on_queue settings s kind correlation c now

pub ready_where_granted : (settings : Settings) (s : Partition) (r : Request) (now : ℕ) → ReadyWhereGranted settings s r now
ready_where_granted settings s r now = on_call settings s r.kind r.correlation r.call now
