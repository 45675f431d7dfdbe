-- What is said gives its item.
use Rattle.std.proofs.Common.{◌≡◌, ℕ, ◌==◌, ℤ, pos, SFits, true, false, cond, [], Option, Some, None, Result, Ok, Err, refl, sym, ap, ◌∙◌}
use Rattle.std.specs.Prelude.{unsigned_abs}
use Rattle.std.specs.Ordering.{int_eq}
use Rattle.std.specs.Int.{w64}
use Rattle.std.specs.Int.RustNames.{FitsSigned}
use Rattle.std.proofs.lemmas.Bool.Decides.{Decides-int_eq}
use Rattle.grid_base.specs.Errors.{not_authenticated, wrong_partition}
use Rattle.grid_base.specs.Names.{key_of}
use Rattle.grid_base.specs.declared.names.CallId.{CallId}
use Rattle.grid_base.specs.declared.names.ClientKey.{ClientKey}
use Rattle.grid_base.specs.declared.calls.MapCall.{MapCall}
use Rattle.grid_base.specs.declared.calls.QueueCall.{QueueCall}
use Rattle.grid_base.specs.declared.calls.GridCall.{GridCall}
use Rattle.grid_base.specs.declared.calls.GridCall.TheVariants.{Map, Queue}
use Rattle.grid_base.specs.declared.refusal.CallRefused.{CallRefused}
use Rattle.grid_base.specs.declared.refusal.CallRefused.TheVariants.{UnknownType}
use Rattle.fixed_fields.specs.Responses.{void_bytes, error_bytes}
use Rattle.message_frames.specs.declared.message.Message.{Message}
use Rattle.client_codecs.specs.Authentications.{authentication_kind, ping_kind, authentication_of}
use Rattle.client_codecs.specs.SpelledAuthentications.{IsAuthentication}
use Rattle.client_codecs.specs.Replies.{authentication_reply}
use Rattle.client_codecs.specs.declared.authentications.Authentication.{Authentication}
use Rattle.client_codecs.proofs.Spelling.{sent_again}
use Rattle.event_codecs.specs.Registrations.{registration_of as registration_in}
use Rattle.event_codecs.specs.declared.registration.Registration.{Registration}
use Rattle.map_codecs.specs.SpelledCalls as maps
use Rattle.queue_codecs.specs.SpelledCalls as queues
use Rattle.session_core.specs.Items.{kind_of as kind_of_message, correlation_of, stated_partition, is_accepted, identity_by, identity_after, error_to, authentication_item, call_of, call_item, wait_of, waiting, wait_item, registration_item, unless_unknown, wait_or_registration, asked, served, item_of}
use Rattle.session_core.specs.Places.{partition_of_key}
use Rattle.session_core.specs.declared.item.Item.{Item}
use Rattle.session_core.specs.declared.item.Item.TheVariants.{Call, Register, Reply}
use Rattle.compose_words.specs.Sayings.{message_of, no_partition, version, IsPlaced}
use Rattle.compose_words.specs.Sessions.{made_by, item_after, item_said, identity_said}
use Rattle.compose_words.specs.declared.saying.Saying.{Saying}
use Rattle.compose_words.specs.declared.saying.Saying.TheVariants.{Hello, Ping, OnMap, OnQueue, WaitOnMap, WaitOnQueue, Listen}
use Rattle.compose_words.specs.declared.saying.Listening.{Listening}
use Rattle.compose_words.specs.declared.saying.MapWait.{MapWait}
use Rattle.compose_words.specs.declared.saying.QueueWait.{QueueWait}
use Rattle.compose_words.specs.Waits.{plain_of, plain_of_queue, kind_of_map_wait, kind_of_queue_wait}
use Rattle.compose_words.specs.Listenings.{registration_of, kind_of_listening, IsNamedListening}
use Rattle.compose_words.proofs.Layouts.{map_kind_apart, queue_kind_apart, map_wait_apart, queue_wait_apart, listening_apart}
use Rattle.compose_words.proofs.Heads.{said_head, HasHead, has_head}
use Rattle.compose_words.proofs.ReadCalls.{IsSayable, same_key, map_read, queue_read}
use Rattle.compose_words.proofs.ReadWaits.{no_call, no_wait, map_wait_no_call, queue_wait_no_call, map_wait_read, queue_wait_read}
use Rattle.compose_words.proofs.ReadListenings.{listening_no_call, listening_no_wait, listening_read}

-- what can be said
abbrev pub CanBeSaid : Saying → Type 0
CanBeSaid (Hello authentication) = IsAuthentication authentication
CanBeSaid Ping = Unit {0}
CanBeSaid (OnMap call) = IsSayable call
CanBeSaid (OnQueue partition call) = queues.IsCall call
CanBeSaid (WaitOnMap wait timeout) = IsSayable (plain_of wait) × FitsSigned w64 timeout
CanBeSaid (WaitOnQueue partition wait timeout) = queues.IsCall (plain_of_queue wait) × FitsSigned w64 timeout
CanBeSaid (Listen listening) = IsNamedListening listening

-- ---- one message, by its kind

module _ (member : ℕ) (id : CallId) (message : Message) where
  abbrev refusal : Item
  refusal = error_to message not_authenticated (pos 0) (pos 0)

  abbrev by_client : Option ClientKey → Item
  by_client identity = elim identity [ None ↦ refusal | Some client ↦ served id client message ]

  -- a message that isn't an authentication
  other_item : (identity : Option ClientKey) (kind : ℕ) → kind_of_message message ≡ kind → (kind == authentication_kind) ≡ false → item_of member id identity message ≡ by_client identity
  other_item identity kind e apart =
      ap (λ k. cond (k == authentication_kind) (authentication_item member message (authentication_of message)) (by_client identity)) e
      ∙ ap (λ b. cond b (authentication_item member message (authentication_of message)) (by_client identity)) apart

  other_identity : (conn : ℕ) (identity : Option ClientKey) (kind : ℕ) → kind_of_message message ≡ kind → (kind == authentication_kind) ≡ false → identity_after conn identity message ≡ identity
  other_identity conn identity kind e apart =
      ap (λ k. cond (k == authentication_kind) (identity_by conn identity (authentication_of message)) identity) e
      ∙ ap (λ b. cond b (identity_by conn identity (authentication_of message)) identity) apart

  refused_item : (correlation : ℤ) → correlation_of message ≡ correlation → refusal ≡ Reply (error_bytes correlation (pos not_authenticated) (pos 0) (pos 0))
  refused_item correlation e = ap (λ c. Reply (error_bytes c (pos not_authenticated) (pos 0) (pos 0))) e

  -- a call of a known client
  served_call : (client : ClientKey) (kind : ℕ) (call : GridCall) → kind_of_message message ≡ kind → (kind == ping_kind) ≡ false → call_of client message ≡ Ok call → served id client message ≡ call_item id message (Ok call)
  served_call client kind call e apart read =
      ap (λ k. cond (k == ping_kind) (Reply (void_bytes ping_kind (correlation_of message))) (asked id client message)) e
      ∙ ap (λ b. cond b (Reply (void_bytes ping_kind (correlation_of message))) (asked id client message)) apart
      ∙ ap (λ (found : Result GridCall CallRefused). unless_unknown found (call_item id message) (wait_or_registration id client message)) read

  -- what a known client asks that is no call by its type
  served_other : (client : ClientKey) (kind : ℕ) → kind_of_message message ≡ kind → (kind == ping_kind) ≡ false → call_of client message ≡ Err UnknownType → served id client message ≡ wait_or_registration id client message
  served_other client kind e apart none =
      ap (λ k. cond (k == ping_kind) (Reply (void_bytes ping_kind (correlation_of message))) (asked id client message)) e
      ∙ ap (λ b. cond b (Reply (void_bytes ping_kind (correlation_of message))) (asked id client message)) apart
      ∙ ap (λ (found : Result GridCall CallRefused). unless_unknown found (call_item id message) (wait_or_registration id client message)) none

  -- a call that may wait
  served_wait : (client : ClientKey) (call : GridCall) (timeout : ℤ) → wait_of client message ≡ Ok (call, timeout) → wait_or_registration id client message ≡ waiting timeout (call_item id message (Ok call))
  served_wait client call timeout read =
      ap (λ (found : Result (GridCall × ℤ) CallRefused). unless_unknown found (wait_item id message) (registration_item message (registration_in message))) read

  -- a registration
  served_listening : (client : ClientKey) (registration : Registration) → wait_of client message ≡ Err UnknownType → registration_in message ≡ Ok registration → wait_or_registration id client message ≡ Register registration
  served_listening client registration none read =
      ap (λ (found : Result (GridCall × ℤ) CallRefused). unless_unknown found (wait_item id message) (registration_item message (registration_in message))) none
      ∙ ap (λ (found : Result Registration CallRefused). registration_item message found) read

  -- a call on an entry that states its key's partition
  map_item : (kind : ℕ) (correlation : ℤ) (partition : ℕ) (call : MapCall) → kind_of_message message ≡ kind → correlation_of message ≡ correlation → stated_partition message ≡ pos partition → partition_of_key (key_of call) ≡ partition
      → call_item id message (Ok (Map call)) ≡ Call (record { id = id; correlation = correlation; kind = kind; partition = partition; call = Map call })
  map_item kind correlation partition call k c s p =
      let own = partition_of_key (key_of call) in
      let same : int_eq (stated_partition message) (pos own) ≡ true = (Decides-int_eq (stated_partition message) (pos own)).1 (s ∙ ap pos (sym p)) in
      ap (λ b. cond b (Call (record { id = id; correlation = correlation_of message; kind = kind_of_message message; partition = own; call = Map call })) (error_to message wrong_partition (stated_partition message) (pos own))) same
      ∙ (λ i. Call (record { id = id; correlation = c i; kind = k i; partition = p i; call = Map call }))

  -- a call on a queue that states a partition
  queue_item : (kind : ℕ) (correlation : ℤ) (partition : ℕ) (call : QueueCall) → kind_of_message message ≡ kind → correlation_of message ≡ correlation → stated_partition message ≡ pos partition
      → call_item id message (Ok (Queue call)) ≡ Call (record { id = id; correlation = correlation; kind = kind; partition = partition; call = Queue call })
  queue_item kind correlation partition call k c s =
      let own = unsigned_abs (stated_partition message) in
      let is : own ≡ partition = ap unsigned_abs s in
      let same : int_eq (stated_partition message) (pos own) ≡ true = (Decides-int_eq (stated_partition message) (pos own)).1 (s ∙ ap pos (sym is)) in
      ap (λ b. cond b (Call (record { id = id; correlation = correlation_of message; kind = kind_of_message message; partition = own; call = Queue call })) (error_to message wrong_partition (stated_partition message) (pos own))) same
      ∙ (λ i. Call (record { id = id; correlation = c i; kind = k i; partition = is i; call = Queue call }))

-- ---- each saying

module _ (member : ℕ) (id : CallId) (correlation : ℤ) where
  hello_said : (identity : Option ClientKey) (a : Authentication) → IsAuthentication a → HasHead correlation (Hello a) → item_of member id identity (message_of correlation (Hello a)) ≡ item_said member id identity correlation (Hello a)
  hello_said identity a is head =
      let message = message_of correlation (Hello a) in
      let read = sent_again correlation no_partition version a [] [] is in
      ap (λ k. cond (k == authentication_kind) (authentication_item member message (authentication_of message)) (by_client member id message identity)) head.kind
      ∙ ap (λ (found : Result Authentication CallRefused). authentication_item member message found) read
      ∙ ap (λ c. Reply (authentication_reply c (is_accepted a) member)) head.correlation_is

  ping_said : (identity : Option ClientKey) → HasHead correlation Ping → by_client member id (message_of correlation Ping) identity ≡ item_after id identity correlation Ping
  ping_said None head = refused_item member id (message_of correlation Ping) correlation head.correlation_is
  ping_said (Some client) head =
      let message = message_of correlation Ping in
      ap (λ k. cond (k == ping_kind) (Reply (void_bytes ping_kind (correlation_of message))) (asked id client message)) head.kind
      ∙ ap (λ c. Reply (void_bytes ping_kind c)) head.correlation_is

  map_said : (identity : Option ClientKey) (call : MapCall) → IsSayable call → HasHead correlation (OnMap call) → by_client member id (message_of correlation (OnMap call)) identity ≡ item_after id identity correlation (OnMap call)
  map_said None call s head = refused_item member id (message_of correlation (OnMap call)) correlation head.correlation_is
  map_said (Some client) call s head =
      let message = message_of correlation (OnMap call) in
      let partition = partition_of_key (key_of call) in
      served_call member id message client (maps.kind_of_call call) (Map (made_by client call)) head.kind (map_kind_apart call).1 (map_read client correlation (pos partition) call s)
      ∙ map_item member id message (maps.kind_of_call call) correlation partition (made_by client call) head.kind head.correlation_is head.stated (ap partition_of_key (same_key client call))

  queue_said : (identity : Option ClientKey) (partition : ℕ) (call : QueueCall) → SFits w64 correlation → IsPlaced (OnQueue partition call) → queues.IsCall call → HasHead correlation (OnQueue partition call)
      → by_client member id (message_of correlation (OnQueue partition call)) identity ≡ item_after id identity correlation (OnQueue partition call)
  queue_said None partition call fits placed is head = refused_item member id (message_of correlation (OnQueue partition call)) correlation head.correlation_is
  queue_said (Some client) partition call fits placed is head =
      let message = message_of correlation (OnQueue partition call) in
      let kind = (said_head correlation (OnQueue partition call) fits placed).kind_is in
      served_call member id message client (queues.kind_of_call call) (Queue call) head.kind (queue_kind_apart call).1 (queue_read client correlation partition call kind is placed)
      ∙ queue_item member id message (queues.kind_of_call call) correlation partition call head.kind head.correlation_is head.stated

  map_wait_said : (identity : Option ClientKey) (wait : MapWait) (timeout : ℤ) → SFits w64 correlation → CanBeSaid (WaitOnMap wait timeout) → HasHead correlation (WaitOnMap wait timeout)
      → by_client member id (message_of correlation (WaitOnMap wait timeout)) identity ≡ item_after id identity correlation (WaitOnMap wait timeout)
  map_wait_said None wait timeout fits can head = refused_item member id (message_of correlation (WaitOnMap wait timeout)) correlation head.correlation_is
  map_wait_said (Some client) wait timeout fits can head =
      let message = message_of correlation (WaitOnMap wait timeout) in
      let call = plain_of wait in
      let kind = kind_of_map_wait wait in
      let partition = partition_of_key (key_of call) in
      let typed = (said_head correlation (WaitOnMap wait timeout) fits tt).kind_is in
      served_other member id message client kind head.kind (map_wait_apart wait).1 (no_call client message kind typed (map_wait_no_call wait))
      ∙ served_wait member id message client (Map (made_by client call)) timeout (map_wait_read client correlation (pos partition) timeout wait can.0 can.1)
      ∙ ap (waiting timeout) (map_item member id message kind correlation partition (made_by client call) head.kind head.correlation_is head.stated (ap partition_of_key (same_key client call)))

  queue_wait_said : (identity : Option ClientKey) (partition : ℕ) (wait : QueueWait) (timeout : ℤ) → SFits w64 correlation → IsPlaced (WaitOnQueue partition wait timeout) → CanBeSaid (WaitOnQueue partition wait timeout)
      → HasHead correlation (WaitOnQueue partition wait timeout) → by_client member id (message_of correlation (WaitOnQueue partition wait timeout)) identity ≡ item_after id identity correlation (WaitOnQueue partition wait timeout)
  queue_wait_said None partition wait timeout fits placed can head = refused_item member id (message_of correlation (WaitOnQueue partition wait timeout)) correlation head.correlation_is
  queue_wait_said (Some client) partition wait timeout fits placed can head =
      let message = message_of correlation (WaitOnQueue partition wait timeout) in
      let call = plain_of_queue wait in
      let kind = kind_of_queue_wait wait in
      let typed = (said_head correlation (WaitOnQueue partition wait timeout) fits placed).kind_is in
      served_other member id message client kind head.kind (queue_wait_apart wait).1 (no_call client message kind typed (queue_wait_no_call wait))
      ∙ served_wait member id message client (Queue call) timeout (queue_wait_read client correlation partition timeout wait typed can.0 can.1 placed)
      ∙ ap (waiting timeout) (queue_item member id message kind correlation partition call head.kind head.correlation_is head.stated)

  listening_said : (identity : Option ClientKey) (listening : Listening) → SFits w64 correlation → CanBeSaid (Listen listening) → HasHead correlation (Listen listening)
      → by_client member id (message_of correlation (Listen listening)) identity ≡ item_after id identity correlation (Listen listening)
  listening_said None listening fits can head = refused_item member id (message_of correlation (Listen listening)) correlation head.correlation_is
  listening_said (Some client) listening fits can head =
      let message = message_of correlation (Listen listening) in
      let kind = kind_of_listening listening in
      let typed = (said_head correlation (Listen listening) fits tt).kind_is in
      served_other member id message client kind head.kind (listening_apart listening).1 (no_call client message kind typed (listening_no_call listening))
      ∙ served_listening member id message client (registration_of correlation listening) (no_wait client message kind typed (listening_no_wait listening)) (listening_read correlation listening fits can)

pub item_is_said : (member : ℕ) (id : CallId) (identity : Option ClientKey) (correlation : ℤ) (saying : Saying) → SFits w64 correlation → IsPlaced saying → CanBeSaid saying
    → item_of member id identity (message_of correlation saying) ≡ item_said member id identity correlation saying
item_is_said member id identity correlation (Hello a) fits placed can = hello_said member id correlation identity a can (has_head correlation (Hello a) fits placed)
item_is_said member id identity correlation Ping fits placed can =
    let head = has_head correlation Ping fits placed in
    other_item member id (message_of correlation Ping) identity ping_kind head.kind refl ∙ ping_said member id correlation identity head
item_is_said member id identity correlation (OnMap call) fits placed can =
    let head = has_head correlation (OnMap call) fits placed in
    other_item member id (message_of correlation (OnMap call)) identity (maps.kind_of_call call) head.kind (map_kind_apart call).0 ∙ map_said member id correlation identity call can head
item_is_said member id identity correlation (OnQueue partition call) fits placed can =
    let head = has_head correlation (OnQueue partition call) fits placed in
    other_item member id (message_of correlation (OnQueue partition call)) identity (queues.kind_of_call call) head.kind (queue_kind_apart call).0
    ∙ queue_said member id correlation identity partition call fits placed can head
item_is_said member id identity correlation (WaitOnMap wait timeout) fits placed can =
    let head = has_head correlation (WaitOnMap wait timeout) fits placed in
    other_item member id (message_of correlation (WaitOnMap wait timeout)) identity (kind_of_map_wait wait) head.kind (map_wait_apart wait).0
    ∙ map_wait_said member id correlation identity wait timeout fits can head
item_is_said member id identity correlation (WaitOnQueue partition wait timeout) fits placed can =
    let head = has_head correlation (WaitOnQueue partition wait timeout) fits placed in
    other_item member id (message_of correlation (WaitOnQueue partition wait timeout)) identity (kind_of_queue_wait wait) head.kind (queue_wait_apart wait).0
    ∙ queue_wait_said member id correlation identity partition wait timeout fits placed can head
item_is_said member id identity correlation (Listen listening) fits placed can =
    let head = has_head correlation (Listen listening) fits placed in
    other_item member id (message_of correlation (Listen listening)) identity (kind_of_listening listening) head.kind (listening_apart listening).0
    ∙ listening_said member id correlation identity listening fits can head

pub client_is_said : (member : ℕ) (id : CallId) (conn : ℕ) (identity : Option ClientKey) (correlation : ℤ) (saying : Saying) → SFits w64 correlation → IsPlaced saying → CanBeSaid saying
    → identity_after conn identity (message_of correlation saying) ≡ identity_said conn identity saying
client_is_said member id conn identity correlation (Hello a) fits placed can =
    let message = message_of correlation (Hello a) in
    let head = has_head correlation (Hello a) fits placed in
    let read = sent_again correlation no_partition version a [] [] can in
    ap (λ k. cond (k == authentication_kind) (identity_by conn identity (authentication_of message)) identity) head.kind
    ∙ ap (λ (found : Result Authentication CallRefused). identity_by conn identity found) read
client_is_said member id conn identity correlation Ping fits placed can =
    other_identity member id (message_of correlation Ping) conn identity ping_kind (has_head correlation Ping fits placed).kind refl
client_is_said member id conn identity correlation (OnMap call) fits placed can =
    other_identity member id (message_of correlation (OnMap call)) conn identity (maps.kind_of_call call) (has_head correlation (OnMap call) fits placed).kind (map_kind_apart call).0
client_is_said member id conn identity correlation (OnQueue partition call) fits placed can =
    other_identity member id (message_of correlation (OnQueue partition call)) conn identity (queues.kind_of_call call) (has_head correlation (OnQueue partition call) fits placed).kind (queue_kind_apart call).0
client_is_said member id conn identity correlation (WaitOnMap wait timeout) fits placed can =
    let kind = (has_head correlation (WaitOnMap wait timeout) fits placed).kind in
    other_identity member id (message_of correlation (WaitOnMap wait timeout)) conn identity (kind_of_map_wait wait) kind (map_wait_apart wait).0
client_is_said member id conn identity correlation (WaitOnQueue partition wait timeout) fits placed can =
    let kind = (has_head correlation (WaitOnQueue partition wait timeout) fits placed).kind in
    other_identity member id (message_of correlation (WaitOnQueue partition wait timeout)) conn identity (kind_of_queue_wait wait) kind (queue_wait_apart wait).0
client_is_said member id conn identity correlation (Listen listening) fits placed can =
    let kind = (has_head correlation (Listen listening) fits placed).kind in
    other_identity member id (message_of correlation (Listen listening)) conn identity (kind_of_listening listening) kind (listening_apart listening).0
