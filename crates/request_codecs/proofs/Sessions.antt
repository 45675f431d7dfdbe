-- What a member's session makes of a request.
use Rattle.std.proofs.Common.{◌≡◌, ℕ, ◌<◌, ◌^◌, ◌==◌, Bool, false, cond, ℤ, pos, List, [], ◌++◌, drop, Option, Some, None, Result, Ok, Err, unwrap_or, refl, ap, sym, subst, ◌∙◌, append-nil, arith, lit<}
use Rattle.std.specs.Int.{w32, w64, to_le_bytes}
use Rattle.std.specs.Int.RustNames.{FitsSigned}
use Rattle.std.specs.Ordering.{int_eq}
use Rattle.std.proofs.lemmas.Bool.Decides.{Decides-int_eq}
use Rattle.std.proofs.lemmas.Int.{ints}
use Rattle.grid_base.specs.Errors.{wrong_partition}
use Rattle.grid_base.specs.Names.{key_of}
use Rattle.grid_base.specs.declared.names.CallId.{CallId}
use Rattle.grid_base.specs.declared.names.ClientKey.{ClientKey}
use Rattle.grid_base.specs.declared.names.ClientKey.TheVariants.{Known}
use Rattle.grid_base.specs.declared.calls.MapCall.{MapCall}
use Rattle.grid_base.specs.declared.calls.MapCall.TheVariants.{Put, Set, PutIfAbsent, Get, ContainsKey, Remove, Delete, Replace, ReplaceIfSame, RemoveIfSame, TryLock, Unlock, IsLocked, ForceUnlock, ExecuteOnKey, PutMaxIdle, SetMaxIdle}
use Rattle.grid_base.specs.declared.calls.QueueCall.{QueueCall}
use Rattle.grid_base.specs.declared.calls.QueueCall.TheVariants.{Offer, Poll, Peek, Size, RemainingCapacity, Clear}
use Rattle.grid_base.specs.declared.calls.GridCall.{GridCall}
use Rattle.grid_base.specs.declared.calls.GridCall.TheVariants.{Map, Queue}
use Rattle.grid_base.specs.declared.refusal.CallRefused.{CallRefused}
use Rattle.grid_base.specs.declared.refusal.CallRefused.TheVariants.{UnknownType}
use Rattle.fixed_fields.specs.Fields.{int32_at, int64_at, int32_bytes, int64_bytes}
use Rattle.fixed_fields.specs.Requests.{kind_of as kind_in, reader_in}
use Rattle.fixed_fields.specs.Responses.{void_bytes}
use Rattle.fixed_fields.specs.Spelled.{request_head}
use Rattle.fixed_fields.proofs.Written.{int64_read, int32_read, kind_read}
use Rattle.message_frames.specs.Assembly.{first_payload}
use Rattle.message_frames.specs.declared.message.Message.{Message}
use Rattle.client_codecs.specs.Authentications.{authentication_kind, ping_kind, authentication_of}
use Rattle.map_codecs.specs.Calls.{Reader, map_calls, map_call_of, call_by}
use Rattle.map_codecs.specs.SpelledCalls.{kind_of_call as kind_of_map_call, call_fields}
use Rattle.map_codecs.proofs.Spelling.{sent_again as map_call_sent}
use Rattle.queue_codecs.specs.Calls.{queue_call_of}
use Rattle.queue_codecs.specs.SpelledCalls.{kind_of_call as kind_of_queue_call}
use Rattle.queue_codecs.proofs.Spelling.{sent_again as queue_call_sent}
use Rattle.session_core.specs.Items.{payload_of, kind_of, correlation_of, stated_partition, authentication_item, served, asked, unless_unknown, wait_or_registration, call_item, call_of, either_call, item_of, error_to}
use Rattle.session_core.specs.Places.{BelongsTo, partition_of_call}
use Rattle.session_core.proofs.CallsAt.{below_partitions}
use Rattle.session_core.specs.declared.item.Item.{Item}
use Rattle.session_core.specs.declared.item.Item.TheVariants.{Call, Reply}
use Rattle.request_codecs.specs.Requests.{MayBeAsked, kind_of_call, request}
use Rattle.request_codecs.specs.Laws.{EveryRequestIsRead}

-- ---- the types of calls

-- A type is a small number, and neither an authentication's nor a ping's.
record IsCallKind (kind : ℕ) : Type 0 where
  small : kind < 2 ^ 31
  apart : (kind == authentication_kind) ≡ false
  other : (kind == ping_kind) ≡ false

map_kind_is : (call : MapCall) → IsCallKind (kind_of_map_call call)
map_kind_is (Put name key owner value ttl) = record { small = lit< tt; apart = refl; other = refl }
map_kind_is (Set name key owner value ttl) = record { small = lit< tt; apart = refl; other = refl }
map_kind_is (PutIfAbsent name key owner value ttl) = record { small = lit< tt; apart = refl; other = refl }
map_kind_is (Get name key owner) = record { small = lit< tt; apart = refl; other = refl }
map_kind_is (ContainsKey name key owner) = record { small = lit< tt; apart = refl; other = refl }
map_kind_is (Remove name key owner) = record { small = lit< tt; apart = refl; other = refl }
map_kind_is (Delete name key owner) = record { small = lit< tt; apart = refl; other = refl }
map_kind_is (Replace name key owner value) = record { small = lit< tt; apart = refl; other = refl }
map_kind_is (ReplaceIfSame name key owner test value) = record { small = lit< tt; apart = refl; other = refl }
map_kind_is (RemoveIfSame name key owner test) = record { small = lit< tt; apart = refl; other = refl }
map_kind_is (TryLock name key owner lease) = record { small = lit< tt; apart = refl; other = refl }
map_kind_is (Unlock name key owner) = record { small = lit< tt; apart = refl; other = refl }
map_kind_is (IsLocked name key) = record { small = lit< tt; apart = refl; other = refl }
map_kind_is (ForceUnlock name key) = record { small = lit< tt; apart = refl; other = refl }
map_kind_is (ExecuteOnKey name key owner number argument) = record { small = lit< tt; apart = refl; other = refl }
map_kind_is (PutMaxIdle name key owner value ttl idle) = record { small = lit< tt; apart = refl; other = refl }
map_kind_is (SetMaxIdle name key owner value ttl idle) = record { small = lit< tt; apart = refl; other = refl }

queue_kind_is : (call : QueueCall) → IsCallKind (kind_of_queue_call call)
queue_kind_is (Offer name value) = record { small = lit< tt; apart = refl; other = refl }
queue_kind_is (Poll name) = record { small = lit< tt; apart = refl; other = refl }
queue_kind_is (Peek name) = record { small = lit< tt; apart = refl; other = refl }
queue_kind_is (Size name) = record { small = lit< tt; apart = refl; other = refl }
queue_kind_is (RemainingCapacity name) = record { small = lit< tt; apart = refl; other = refl }
queue_kind_is (Clear name) = record { small = lit< tt; apart = refl; other = refl }

kind_is : (call : GridCall) → IsCallKind (kind_of_call call)
kind_is (Map call) = map_kind_is call
kind_is (Queue call) = queue_kind_is call

no_map_call : (call : QueueCall) → reader_in (Some (kind_of_queue_call call)) map_calls ≡ None
no_map_call (Offer name value) = refl
no_map_call (Poll name) = refl
no_map_call (Peek name) = refl
no_map_call (Size name) = refl
no_map_call (RemainingCapacity name) = refl
no_map_call (Clear name) = refl

-- ---- the head of a request

-- a payload that begins with such a head
record HasHead (payload : List ℕ) (kind : ℕ) (correlation partition : ℤ) : Type 0 where
  kind_there : kind_in payload ≡ Some kind
  correlation_there : int64_at payload 4 ≡ Some correlation
  partition_there : int32_at payload 12 ≡ Some partition

head_there : (kind : ℕ) (correlation partition : ℤ) (behind : List ℕ) → kind < 2 ^ 31 → FitsSigned w64 correlation → FitsSigned w32 partition
    → HasHead (request_head kind correlation partition ++ behind) kind correlation partition
head_there kind correlation partition behind small fits its = record {
  kind_there = kind_read kind (int64_bytes correlation ++ int32_bytes partition ++ behind) small;
  correlation_there = int64_read (to_le_bytes w32 kind) (to_le_bytes w32 kind ++ int64_bytes correlation) (int64_bytes correlation) correlation fits refl refl (int32_bytes partition ++ behind);
  partition_there = int32_read (to_le_bytes w32 kind ++ int64_bytes correlation) behind partition its;
}

partition_fits : (partition : ℕ) → partition < 271 → FitsSigned w32 (pos partition)
partition_fits partition h = omega (arith, ints)

map_payload : (correlation : ℤ) (partition : ℕ) (call : MapCall)
    → first_payload (request correlation partition (Map call)).frames ≡ request_head (kind_of_map_call call) correlation (pos partition) ++ call_fields call
map_payload correlation partition call = append-nil _

request_has_head : (correlation : ℤ) (partition : ℕ) (call : GridCall) → partition < 271 → FitsSigned w64 correlation
    → HasHead (payload_of (request correlation partition call)) (kind_of_call call) correlation (pos partition)
request_has_head correlation partition (Map call) h fits =
    subst (λ payload. HasHead payload (kind_of_map_call call) correlation (pos partition)) (sym (map_payload correlation partition call))
    (head_there (kind_of_map_call call) correlation (pos partition) (call_fields call) (map_kind_is call).small fits (partition_fits partition h))
request_has_head correlation partition (Queue call) h fits =
    head_there (kind_of_queue_call call) correlation (pos partition) [] (queue_kind_is call).small fits (partition_fits partition h)

-- ---- a request is read as its call

unknown_to_maps : (client : ClientKey) (message : Message) (kind : ℕ) → kind_in (payload_of message) ≡ Some kind → reader_in (Some kind) map_calls ≡ None → map_call_of client message ≡ Err UnknownType
unfolding map_call_of
unknown_to_maps client message kind e none = ap (λ (reader : Option Reader). call_by client (payload_of message) (drop 1 message.frames) reader) (ap (λ (k : Option ℕ). reader_in k map_calls) e ∙ none)

call_is : (client partition : ℕ) (correlation : ℤ) (call : GridCall) → partition < 271 → FitsSigned w64 correlation → MayBeAsked client partition call
    → call_of (Known client) (request correlation partition call) ≡ Ok call
call_is client partition correlation (Map call) h fits asked =
    ap (λ said. either_call said (queue_call_of (request correlation partition (Map call)))) (map_call_sent (Known client) correlation (pos partition) call [] [] asked.read)
call_is client partition correlation (Queue call) h fits asked =
    let message = request correlation partition (Queue call) in
    let none = unknown_to_maps (Known client) message (kind_of_queue_call call) (request_has_head correlation partition (Queue call) h fits).kind_there (no_map_call call) in
    ap (λ said. either_call said (queue_call_of message)) none
    ∙ ap (λ said. either_call (Err UnknownType) said) (queue_call_sent correlation partition call [] [] asked.read h)

placed_below : (call : GridCall) (partition : ℕ) → BelongsTo call partition → partition < 271
placed_below (Map call) partition own = subst (λ n. n < 271) (sym own) (below_partitions (key_of call))
placed_below (Queue call) partition within = within

placed_there : (call : GridCall) (partition : ℕ) → BelongsTo call partition → partition_of_call (pos partition) call ≡ partition
placed_there (Map call) partition own = sym own
placed_there (Queue call) partition within = refl

-- a message of a known client that says all this
item_is : (member : ℕ) (id : CallId) (client : ClientKey) (message : Message) (call : GridCall) (kind partition : ℕ) (correlation : ℤ)
    → kind_of message ≡ kind → correlation_of message ≡ correlation → stated_partition message ≡ pos partition → IsCallKind kind → call_of client message ≡ Ok call
    → partition_of_call (pos partition) call ≡ partition
    → item_of member id (Some client) message ≡ Call (record { id = id; correlation = correlation; kind = kind; partition = partition; call = call })
item_is member id client message call kind partition correlation k c s is read own =
    ap (λ (b : Bool). cond b (authentication_item member message (authentication_of message)) (served id client message)) (ap (λ (n : ℕ). n == authentication_kind) k ∙ is.apart)
    ∙ ap (λ (b : Bool). cond b (Reply (void_bytes ping_kind (correlation_of message))) (asked id client message)) (ap (λ (n : ℕ). n == ping_kind) k ∙ is.other)
    ∙ ap (λ (said : Result GridCall CallRefused). unless_unknown said (call_item id message) (wait_or_registration id client message)) read
    ∙ ap (λ (stated : ℤ). cond (int_eq stated (pos (partition_of_call stated call))) (the_call (partition_of_call stated call)) (error_to message wrong_partition stated (pos (partition_of_call stated call)))) s
    ∙ ap (λ (p : ℕ). cond (int_eq (pos partition) (pos p)) (the_call p) (error_to message wrong_partition (pos partition) (pos p))) own
    ∙ ap (λ (b : Bool). cond b (the_call partition) (error_to message wrong_partition (pos partition) (pos partition))) ((Decides-int_eq (pos partition) (pos partition)).1 refl)
    ∙ (λ i. Call (record { id = id; correlation = c i; kind = k i; partition = partition; call = call }))
  where
    the_call : ℕ → Item
    the_call p = Call (record { id = id; correlation = correlation_of message; kind = kind_of message; partition = p; call = call })

pub every_request_is_read : EveryRequestIsRead
every_request_is_read member id client partition correlation call fits asked =
    let below = placed_below call partition asked.placed in
    let head = request_has_head correlation partition call below fits in
    item_is member id (Known client) (request correlation partition call) call (kind_of_call call) partition correlation
    (ap (λ (o : Option ℕ). unwrap_or o 0) head.kind_there) (ap (λ (o : Option ℤ). unwrap_or o (pos 0)) head.correlation_there) (ap (λ (o : Option ℤ). unwrap_or o (pos 0)) head.partition_there)
    (kind_is call) (call_is client partition correlation call below fits asked) (placed_there call partition asked.placed)
