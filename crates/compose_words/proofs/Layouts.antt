-- The message of a saying has the layout that is written.
use Rattle.std.proofs.Common.{◌≡◌, ℕ, ◌<◌, ◌^◌, ℤ, ◌==◌, true, false, List, [], ◌∷◌, refl, sym, ap, ◌∙◌, append_assoc, append-nil, lit<}
use Rattle.grid_base.specs.declared.calls.MapCall.{MapCall}
use Rattle.grid_base.specs.declared.calls.MapCall.TheVariants.{Put, Set, PutIfAbsent, Get, ContainsKey, Remove, Delete, Replace, ReplaceIfSame, RemoveIfSame, TryLock, Unlock, IsLocked, ForceUnlock, ExecuteOnKey, PutMaxIdle, SetMaxIdle}
use Rattle.grid_base.specs.declared.calls.QueueCall.{QueueCall}
use Rattle.grid_base.specs.declared.calls.QueueCall.TheVariants.{Offer, Poll, Peek, Size, RemainingCapacity, Clear}
use Rattle.fixed_fields.specs.Fields.{uuid_bytes}
use Rattle.fixed_fields.specs.Responses.{unfragmented}
use Rattle.fixed_fields.specs.Spelled.{request_head, with_parts}
use Rattle.message_frames.specs.Assembly.{first_payload}
use Rattle.message_frames.specs.Grammar.{Unfragmented, is_piece}
use Rattle.client_codecs.specs.Authentications.{authentication_kind, ping_kind}
use Rattle.map_codecs.specs.SpelledCalls as maps
use Rattle.queue_codecs.specs.SpelledCalls as queues
use Rattle.compose_words.specs.Sayings.{message_of, no_partition, version, first_flags}
use Rattle.compose_words.specs.Layout.{kind_of, partition_of, payload_of, parts_of, frames_with}
use Rattle.compose_words.specs.declared.saying.Saying.{Saying}
use Rattle.compose_words.specs.declared.saying.Saying.TheVariants.{Hello, Ping, OnMap, OnQueue, WaitOnMap, WaitOnQueue, Listen}
use Rattle.compose_words.specs.declared.saying.Listening.{Listening}
use Rattle.compose_words.specs.declared.saying.Listening.TheVariants.{Entries, Invalidations, Rows}
use Rattle.compose_words.specs.declared.saying.MapWait.{MapWait}
use Rattle.compose_words.specs.declared.saying.MapWait.TheVariants as map_waits
use Rattle.compose_words.specs.declared.saying.QueueWait.{QueueWait}
use Rattle.compose_words.specs.declared.saying.QueueWait.TheVariants as queue_waits
use Rattle.compose_words.specs.Waits.{plain_of, plain_of_queue, kind_of_map_wait, kind_of_queue_wait}
use Rattle.compose_words.specs.Listenings.{kind_of_listening}

-- ---- each call on an entry, each call on a queue

map_flags : (call : MapCall) → first_flags (maps.parts_of call) ≡ unfragmented
map_flags (Put name key owner value ttl) = refl
map_flags (Set name key owner value ttl) = refl
map_flags (PutIfAbsent name key owner value ttl) = refl
map_flags (Get name key owner) = refl
map_flags (ContainsKey name key owner) = refl
map_flags (Remove name key owner) = refl
map_flags (Delete name key owner) = refl
map_flags (Replace name key owner value) = refl
map_flags (ReplaceIfSame name key owner test value) = refl
map_flags (RemoveIfSame name key owner test) = refl
map_flags (TryLock name key owner lease) = refl
map_flags (Unlock name key owner) = refl
map_flags (IsLocked name key) = refl
map_flags (ForceUnlock name key) = refl
map_flags (ExecuteOnKey name key owner number argument) = refl
map_flags (PutMaxIdle name key owner value ttl idle) = refl
map_flags (SetMaxIdle name key owner value ttl idle) = refl

queue_flags : (call : QueueCall) → first_flags (queues.parts_of call) ≡ unfragmented
queue_flags (Offer name value) = refl
queue_flags (Poll name) = refl
queue_flags (Peek name) = refl
queue_flags (Size name) = refl
queue_flags (RemainingCapacity name) = refl
queue_flags (Clear name) = refl

map_form : (payload : List ℕ) (call : MapCall) → is_piece (Unfragmented (record { flags = unfragmented; payload = payload } ∷ with_parts (maps.parts_of call) [])) ≡ true
map_form payload (Put name key owner value ttl) = refl
map_form payload (Set name key owner value ttl) = refl
map_form payload (PutIfAbsent name key owner value ttl) = refl
map_form payload (Get name key owner) = refl
map_form payload (ContainsKey name key owner) = refl
map_form payload (Remove name key owner) = refl
map_form payload (Delete name key owner) = refl
map_form payload (Replace name key owner value) = refl
map_form payload (ReplaceIfSame name key owner test value) = refl
map_form payload (RemoveIfSame name key owner test) = refl
map_form payload (TryLock name key owner lease) = refl
map_form payload (Unlock name key owner) = refl
map_form payload (IsLocked name key) = refl
map_form payload (ForceUnlock name key) = refl
map_form payload (ExecuteOnKey name key owner number argument) = refl
map_form payload (PutMaxIdle name key owner value ttl idle) = refl
map_form payload (SetMaxIdle name key owner value ttl idle) = refl

queue_form : (payload : List ℕ) (call : QueueCall) → is_piece (Unfragmented (record { flags = unfragmented; payload = payload } ∷ with_parts (queues.parts_of call) [])) ≡ true
queue_form payload (Offer name value) = refl
queue_form payload (Poll name) = refl
queue_form payload (Peek name) = refl
queue_form payload (Size name) = refl
queue_form payload (RemainingCapacity name) = refl
queue_form payload (Clear name) = refl

map_kind_small : (call : MapCall) → maps.kind_of_call call < 2 ^ 31
map_kind_small (Put name key owner value ttl) = lit< tt
map_kind_small (Set name key owner value ttl) = lit< tt
map_kind_small (PutIfAbsent name key owner value ttl) = lit< tt
map_kind_small (Get name key owner) = lit< tt
map_kind_small (ContainsKey name key owner) = lit< tt
map_kind_small (Remove name key owner) = lit< tt
map_kind_small (Delete name key owner) = lit< tt
map_kind_small (Replace name key owner value) = lit< tt
map_kind_small (ReplaceIfSame name key owner test value) = lit< tt
map_kind_small (RemoveIfSame name key owner test) = lit< tt
map_kind_small (TryLock name key owner lease) = lit< tt
map_kind_small (Unlock name key owner) = lit< tt
map_kind_small (IsLocked name key) = lit< tt
map_kind_small (ForceUnlock name key) = lit< tt
map_kind_small (ExecuteOnKey name key owner number argument) = lit< tt
map_kind_small (PutMaxIdle name key owner value ttl idle) = lit< tt
map_kind_small (SetMaxIdle name key owner value ttl idle) = lit< tt

queue_kind_small : (call : QueueCall) → queues.kind_of_call call < 2 ^ 31
queue_kind_small (Offer name value) = lit< tt
queue_kind_small (Poll name) = lit< tt
queue_kind_small (Peek name) = lit< tt
queue_kind_small (Size name) = lit< tt
queue_kind_small (RemainingCapacity name) = lit< tt
queue_kind_small (Clear name) = lit< tt

-- Its type is neither that of an authentication nor a ping's.
abbrev IsApart : ℕ → Type 0
IsApart kind = ((kind == authentication_kind) ≡ false) × ((kind == ping_kind) ≡ false)

pub map_kind_apart : (call : MapCall) → IsApart (maps.kind_of_call call)
map_kind_apart (Put name key owner value ttl) = (refl, refl)
map_kind_apart (Set name key owner value ttl) = (refl, refl)
map_kind_apart (PutIfAbsent name key owner value ttl) = (refl, refl)
map_kind_apart (Get name key owner) = (refl, refl)
map_kind_apart (ContainsKey name key owner) = (refl, refl)
map_kind_apart (Remove name key owner) = (refl, refl)
map_kind_apart (Delete name key owner) = (refl, refl)
map_kind_apart (Replace name key owner value) = (refl, refl)
map_kind_apart (ReplaceIfSame name key owner test value) = (refl, refl)
map_kind_apart (RemoveIfSame name key owner test) = (refl, refl)
map_kind_apart (TryLock name key owner lease) = (refl, refl)
map_kind_apart (Unlock name key owner) = (refl, refl)
map_kind_apart (IsLocked name key) = (refl, refl)
map_kind_apart (ForceUnlock name key) = (refl, refl)
map_kind_apart (ExecuteOnKey name key owner number argument) = (refl, refl)
map_kind_apart (PutMaxIdle name key owner value ttl idle) = (refl, refl)
map_kind_apart (SetMaxIdle name key owner value ttl idle) = (refl, refl)

pub queue_kind_apart : (call : QueueCall) → IsApart (queues.kind_of_call call)
queue_kind_apart (Offer name value) = (refl, refl)
queue_kind_apart (Poll name) = (refl, refl)
queue_kind_apart (Peek name) = (refl, refl)
queue_kind_apart (Size name) = (refl, refl)
queue_kind_apart (RemainingCapacity name) = (refl, refl)
queue_kind_apart (Clear name) = (refl, refl)

-- ---- each call that may wait, each registration

map_wait_small : (wait : MapWait) → kind_of_map_wait wait < 2 ^ 31
map_wait_small (map_waits.Lock name key owner lease) = lit< tt
map_wait_small (map_waits.Put name key owner value ttl) = lit< tt

queue_wait_small : (wait : QueueWait) → kind_of_queue_wait wait < 2 ^ 31
queue_wait_small (queue_waits.Offer name value) = lit< tt
queue_wait_small (queue_waits.Poll name) = lit< tt

listening_small : (listening : Listening) → kind_of_listening listening < 2 ^ 31
listening_small (Entries name with_value) = lit< tt
listening_small (Invalidations name) = lit< tt
listening_small Rows = lit< tt

pub map_wait_apart : (wait : MapWait) → IsApart (kind_of_map_wait wait)
map_wait_apart (map_waits.Lock name key owner lease) = (refl, refl)
map_wait_apart (map_waits.Put name key owner value ttl) = (refl, refl)

pub queue_wait_apart : (wait : QueueWait) → IsApart (kind_of_queue_wait wait)
queue_wait_apart (queue_waits.Offer name value) = (refl, refl)
queue_wait_apart (queue_waits.Poll name) = (refl, refl)

pub listening_apart : (listening : Listening) → IsApart (kind_of_listening listening)
listening_apart (Entries name with_value) = (refl, refl)
listening_apart (Invalidations name) = (refl, refl)
listening_apart Rows = (refl, refl)

listening_form : (correlation : ℤ) (listening : Listening) → is_piece (Unfragmented (message_of correlation (Listen listening)).frames) ≡ true
listening_form correlation (Entries name with_value) = refl
listening_form correlation (Invalidations name) = refl
listening_form correlation Rows = refl

-- ---- each saying

pub kind_small : (saying : Saying) → kind_of saying < 2 ^ 31
kind_small (Hello authentication) = lit< tt
kind_small Ping = lit< tt
kind_small (OnMap call) = map_kind_small call
kind_small (OnQueue partition call) = queue_kind_small call
kind_small (WaitOnMap wait timeout) = map_wait_small wait
kind_small (WaitOnQueue partition wait timeout) = queue_wait_small wait
kind_small (Listen listening) = listening_small listening

pub form_is : (correlation : ℤ) (saying : Saying) → is_piece (Unfragmented (message_of correlation saying).frames) ≡ true
form_is correlation (Hello authentication) = refl
form_is correlation Ping = refl
form_is correlation (OnMap call) = map_form (first_payload (message_of correlation (OnMap call)).frames) call
form_is correlation (OnQueue partition call) = queue_form (first_payload (message_of correlation (OnQueue partition call)).frames) call
form_is correlation (WaitOnMap wait timeout) = map_form (first_payload (message_of correlation (WaitOnMap wait timeout)).frames) (plain_of wait)
form_is correlation (WaitOnQueue partition wait timeout) = queue_form (first_payload (message_of correlation (WaitOnQueue partition wait timeout)).frames) (plain_of_queue wait)
form_is correlation (Listen listening) = listening_form correlation listening

pub payload_is : (correlation : ℤ) (saying : Saying) → first_payload (message_of correlation saying).frames ≡ payload_of correlation saying
payload_is correlation (Hello authentication) = append_assoc (request_head authentication_kind correlation no_partition) (uuid_bytes authentication.client) (version ∷ [])
payload_is correlation Ping = sym (append-nil (request_head (kind_of Ping) correlation (partition_of Ping)))
payload_is correlation (OnMap call) = append-nil (payload_of correlation (OnMap call))
payload_is correlation (OnQueue partition call) = refl
payload_is correlation (WaitOnMap wait timeout) = append-nil (payload_of correlation (WaitOnMap wait timeout))
payload_is correlation (WaitOnQueue partition wait timeout) = append-nil (payload_of correlation (WaitOnQueue partition wait timeout))
payload_is correlation (Listen listening) = refl

with_payload : (flags : ℕ) (payload other : List ℕ) (parts : List (List ℕ)) → flags ≡ first_flags parts → payload ≡ other → record { flags = flags; payload = payload } ∷ with_parts parts [] ≡ frames_with other parts
with_payload flags payload other parts f p = ap (λ n. record { flags = n; payload = payload } ∷ with_parts parts []) f ∙ ap (λ bytes. frames_with bytes parts) p

pub frames_are : (correlation : ℤ) (saying : Saying) → (message_of correlation saying).frames ≡ frames_with (payload_of correlation saying) (parts_of saying)
frames_are correlation (Hello authentication) = with_payload unfragmented _ _ (authentication.name ∷ []) refl (payload_is correlation (Hello authentication))
frames_are correlation Ping = ap (λ bytes. frames_with bytes []) (payload_is correlation Ping)
frames_are correlation (OnMap call) = with_payload unfragmented _ _ (maps.parts_of call) (sym (map_flags call)) (payload_is correlation (OnMap call))
frames_are correlation (OnQueue partition call) = with_payload unfragmented _ _ (queues.parts_of call) (sym (queue_flags call)) (payload_is correlation (OnQueue partition call))
frames_are correlation (WaitOnMap wait timeout) = with_payload unfragmented _ _ (maps.parts_of (plain_of wait)) (sym (map_flags (plain_of wait))) (payload_is correlation (WaitOnMap wait timeout))
frames_are correlation (WaitOnQueue partition wait timeout) =
    with_payload unfragmented _ _ (queues.parts_of (plain_of_queue wait)) (sym (queue_flags (plain_of_queue wait))) (payload_is correlation (WaitOnQueue partition wait timeout))
frames_are correlation (Listen listening) = refl
