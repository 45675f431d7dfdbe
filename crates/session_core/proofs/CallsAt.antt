-- A call among the items of messages is that of the message at its place.
use Rattle.std.specs.Prelude.{slice_get, take, negsuc, unsigned_abs, option_and_then}
use Rattle.std.proofs.Common.{◌≡◌, ℕ, zero, suc, ◌+◌, ◌<◌, ◌%◌, ◌==◌, Bool, true, false, cond, List, [], ◌∷◌, ◌++◌, length, Option, Some, None, Result, Ok, Err, ℤ, pos, refl, ap, sym, ◌∙◌, subst, ◌⊎◌, inl, inr, arith}
use Rattle.std.specs.Ordering.{int_eq}
use Rattle.std.proofs.Math.Nat.{mod-lt}
use Rattle.std.proofs.lemmas.Bool.Decides.{Decides-int_eq}
use Rattle.grid_base.specs.Errors.{not_authenticated, wrong_partition}
use Rattle.grid_base.specs.Limits.{CallFits}
use Rattle.grid_base.specs.Names.{key_of}
use Rattle.grid_base.specs.declared.TheConstants.{PARTITIONS}
use Rattle.grid_base.specs.declared.names.CallId.{CallId}
use Rattle.grid_base.specs.declared.names.ClientKey.{ClientKey}
use Rattle.grid_base.specs.declared.calls.GridCall.{GridCall}
use Rattle.grid_base.specs.declared.calls.GridCall.TheVariants.{Map, Queue}
use Rattle.grid_base.specs.declared.calls.Request.{Request}
use Rattle.grid_base.specs.declared.refusal.CallRefused.{CallRefused}
use Rattle.grid_base.specs.declared.refusal.CallRefused.TheVariants.{UnknownType, BadCall, Memory}
use Rattle.fixed_fields.specs.Responses.{void_bytes}
use Rattle.message_frames.specs.declared.message.Message.{Message}
use Rattle.message_frames.specs.Messages.{messages_of}
use Rattle.message_frames.proofs.Fitting.{AllFit, MessagesFit, messages_fit}
use Rattle.client_codecs.specs.Authentications.{authentication_kind, ping_kind, authentication_of}
use Rattle.client_codecs.specs.declared.authentications.Authentication.{Authentication}
use Rattle.event_codecs.specs.Registrations.{registration_of}
use Rattle.event_codecs.specs.declared.registration.Registration.{Registration}
use Rattle.murmur_partition.specs.Keys.{key_hash_of}
use Rattle.session_core.specs.Items.{kind_of, correlation_of, stated_partition, identity_after, identity_after_all, error_to, authentication_item, call_of, call_item, wait_of, waiting, wait_item, registration_item, unless_unknown, wait_or_registration, asked, served, item_of, items_from, items_of}
use Rattle.session_core.specs.Places.{partition_of_key, partition_of_call, SaysWhere}
use Rattle.session_core.specs.Laws.{request_in, IsCallAt, IsPlaced, every_call_is_numbered, every_call_is_placed, every_partition_is_stated, every_call_fits}
use Rattle.session_core.specs.declared.item.Item.{Item}
use Rattle.session_core.specs.declared.item.Item.TheVariants.{Call, Wait, Reply}
use Rattle.session_core.proofs.CallsRead.{AsksFor, asked_read}

abbrev own_partition : Message → GridCall → ℕ
own_partition message call = partition_of_call (stated_partition message) call

abbrev request_with : CallId → Message → GridCall → Request
request_with id message call = record { id = id; correlation = correlation_of message; kind = kind_of message; partition = own_partition message call; call = call }

-- A message of this client is this call, or has it wait.
pub record IsCallOf (id : CallId) (client : ClientKey) (message : Message) (request : Request) : Type 0 where
  pub call : GridCall
  pub read : AsksFor client message call
  pub stated : stated_partition message ≡ pos (own_partition message call)
  pub request_is : request_with id message call ≡ request

-- one message

module _ (id : CallId) (client : ClientKey) (message : Message) (request : Request) where
  -- what a call gives, which may wait, and what is refused
  abbrev gives : (Request → Item) → Bool → GridCall → Item
  gives make b call = cond b (make (request_with id message call)) (error_to message wrong_partition (stated_partition message) (pos (own_partition message call)))

  -- an item that is a call of its request
  abbrev Makes : (Request → Item) → Type 0
  Makes make = (r : Request) → request_in (make r) ≡ Some r

  placed_item : (make : Request → Item) → Makes make → (call : GridCall) → AsksFor client message call → request_in (gives make (int_eq (stated_partition message) (pos (own_partition message call))) call) ≡ Some request
      → IsCallOf id client message request
  placed_item make makes call read e = go (int_eq (stated_partition message) (pos (own_partition message call))) refl e
    where
      go : (b : Bool) → int_eq (stated_partition message) (pos (own_partition message call)) ≡ b → request_in (gives make b call) ≡ Some request → IsCallOf id client message request
      go true same s =
          let its = makes (request_with id message call) in
          let is : request_with id message call ≡ request = cc in
          record { call = call; read = read; stated = (Decides-int_eq (stated_partition message) (pos (own_partition message call))).0 same; request_is = is }
      go false other s = absurd cc

  waits_so : (timeout : ℤ) (call : GridCall) → waiting timeout (call_item id message (Ok call)) ≡ gives (λ r. Wait r timeout) (int_eq (stated_partition message) (pos (own_partition message call))) call
  waits_so timeout call = go (int_eq (stated_partition message) (pos (own_partition message call)))
    where
      go : (b : Bool) → waiting timeout (gives Call b call) ≡ gives (λ r. Wait r timeout) b call
      go true = refl
      go false = refl

  no_registration : (said : Result Registration CallRefused) → request_in (registration_item message said) ≡ Some request → ⊥
  no_registration (Ok registration) e = cc
  no_registration (Err why) e = cc

  -- none of a message of another type
  read_wait : (said : Result (GridCall × ℤ) CallRefused) → wait_of client message ≡ said → request_in (unless_unknown said (wait_item id message) (registration_item message (registration_of message))) ≡ Some request
      → IsCallOf id client message request
  read_wait (Ok (call, timeout)) read e =
      placed_item (λ r. Wait r timeout) (λ r. refl) call (inr (timeout, read)) (ap request_in (sym (waits_so timeout call)) ∙ e)
  read_wait (Err UnknownType) read e = absurd (no_registration (registration_of message) e)
  read_wait (Err BadCall) read e = absurd cc
  read_wait (Err Memory) read e = absurd cc

  read_call : (said : Result GridCall CallRefused) → call_of client message ≡ said → request_in (unless_unknown said (call_item id message) (wait_or_registration id client message)) ≡ Some request → IsCallOf id client message request
  read_call (Ok call) read e = placed_item Call (λ r. refl) call (inl read) e
  read_call (Err UnknownType) read e = read_wait (wait_of client message) refl e
  read_call (Err BadCall) read e = absurd cc
  read_call (Err Memory) read e = absurd cc

  served_call : request_in (served id client message) ≡ Some request → IsCallOf id client message request
  served_call e = go (kind_of message == ping_kind) e
    where
      go : (b : Bool) → request_in (cond b (Reply (void_bytes ping_kind (correlation_of message))) (asked id client message)) ≡ Some request → IsCallOf id client message request
      go true s = absurd cc
      go false s = read_call (call_of client message) refl s

authentication_no_call : (member : ℕ) (message : Message) (said : Result Authentication CallRefused) (request : Request) → request_in (authentication_item member message said) ≡ Some request → ⊥
authentication_no_call member message (Ok authentication) request e = cc
authentication_no_call member message (Err why) request e = cc

-- A call is of a known client.
item_call : (member : ℕ) (id : CallId) (identity : Option ClientKey) (message : Message) (request : Request) → request_in (item_of member id identity message) ≡ Some request
    → (client : ClientKey) × (identity ≡ Some client) × IsCallOf id client message request
item_call member id identity message request e = go (kind_of message == authentication_kind) identity refl e
  where
    go : (b : Bool) (known : Option ClientKey) → identity ≡ known
        → request_in (cond b (authentication_item member message (authentication_of message)) (elim known [ None ↦ error_to message not_authenticated (pos 0) (pos 0) | Some client ↦ served id client message ])) ≡ Some request
        → (client : ClientKey) × (identity ≡ Some client) × IsCallOf id client message request
    go true known k s = absurd (authentication_no_call member message (authentication_of message) request s)
    go false None k s = absurd cc
    go false (Some client) k s = (client, k, served_call id client message request s)

-- messages one after the other

pub record IsCallFrom (conn number : ℕ) (identity : Option ClientKey) (messages : List Message) (place : ℕ) (request : Request) : Type 0 where
  pub message : Message
  pub there : slice_get messages place ≡ Some message
  pub client : ClientKey
  pub known : identity_after_all conn identity (take place messages) ≡ Some client
  pub is : IsCallOf (record { conn = conn; number = number + place }) client message request

pub call_from : (conn member number : ℕ) (identity : Option ClientKey) (messages : List Message) (place : ℕ) (request : Request)
    → option_and_then request_in (slice_get (items_from conn member number identity messages) place) ≡ Some request → IsCallFrom conn number identity messages place request
call_from conn member number identity [] place request e = absurd cc
call_from conn member number identity (message ∷ messages) zero request e =
    let found = item_call member (record { conn = conn; number = number }) identity message request e in
    let here : number ≡ number + 0 = omega arith in
    record { message = message; there = refl; client = found.0; known = found.1; is = subst (λ n. IsCallOf (record { conn = conn; number = n }) found.0 message request) here found.2 }
call_from conn member number identity (message ∷ messages) (suc place) request e =
    let later = call_from conn member (number + 1) (identity_after conn identity message) messages place request e in
    let there : number + 1 + place ≡ number + suc place = omega arith in
    record { message = later.message; there = later.there; client = later.client; known = later.known; is = subst (λ n. IsCallOf (record { conn = conn; number = n }) later.client later.message request) there later.is }

pub call_at : (conn member : ℕ) (messages : List Message) (place : ℕ) (request : Request) → IsCallAt conn member messages place request → IsCallFrom conn 0 None messages place request
call_at conn member messages place request e = call_from conn member 0 None messages place request e

-- names, partitions, and frames

pub numbered_call : every_call_is_numbered
numbered_call conn member messages place request e =
    let at = call_at conn member messages place request e in
    let here : 0 + place ≡ place = omega arith in
    sym (ap (λ (r : Request). r.id) at.is.request_is) ∙ ap {B = CallId} (λ n. record { conn = conn; number = n }) here

pub below_partitions : (key : List ℕ) → partition_of_key key < PARTITIONS
below_partitions key = go (int_eq (key_hash_of key) (negsuc 0x7fff_ffff))
  where
    go : (b : Bool) → cond b 0 (unsigned_abs (key_hash_of key) % PARTITIONS) < PARTITIONS
    go true = omega arith
    go false = mod-lt (unsigned_abs (key_hash_of key)) (omega arith)

-- A stated partition is the number that it is.
stated_below : (stated : ℤ) (partition : ℕ) → stated ≡ pos partition → partition < PARTITIONS → unsigned_abs stated < PARTITIONS
stated_below stated partition e within = subst (λ n. n < PARTITIONS) (sym (ap unsigned_abs e)) within

placed_with : (id : CallId) (message : Message) (call : GridCall) → SaysWhere (stated_partition message) call → IsPlaced (request_with id message call)
placed_with id message (Map call) says = record { own = refl; within = below_partitions (key_of call) }
placed_with id message (Queue call) says =
    let within = stated_below (stated_partition message) says.0 says.1 says.2 in
    record { own = within; within = within }

pub placed_call : every_call_is_placed
placed_call conn member messages place request e =
    let at = call_at conn member messages place request e in
    let read = asked_read at.client at.message at.is.call at.is.read in
    subst IsPlaced at.is.request_is (placed_with (record { conn = conn; number = 0 + place }) at.message at.is.call read.where_is)

same_some : {X : Type 0} (o : Option X) (x y : X) → o ≡ Some x → o ≡ Some y → x ≡ y
same_some o x y e f = cc

pub stated_call : every_partition_is_stated
stated_call conn member messages place message request there e =
    let at = call_at conn member messages place request e in
    let same = same_some (slice_get messages place) at.message message at.there there in
    ap stated_partition (sym same) ∙ at.is.stated ∙ ap (λ (r : Request). pos r.partition) at.is.request_is

fits_at : (messages : List Message) (place : ℕ) (message : Message) → MessagesFit messages → slice_get messages place ≡ Some message → AllFit message.frames
fits_at [] place message fit e = absurd cc
fits_at (first ∷ messages) zero message fit e = let same : first ≡ message = cc in subst (λ (m : Message). AllFit m.frames) same fit.0
fits_at (first ∷ messages) (suc place) message fit e = fits_at messages place message fit.1 e

pub fitting_call : every_call_fits
fitting_call conn member text place request e =
    let at = call_at conn member (messages_of true text) place request e in
    let fit = fits_at (messages_of true text) place at.message (messages_fit true text) at.there in
    let parts = (asked_read at.client at.message at.is.call at.is.read).fits fit in
    subst (λ (r : Request). CallFits r.call) at.is.request_is parts

-- the calls of a piece

slice_get-behind : {X : Type 0} (front behind : List X) (place : ℕ) → slice_get (front ++ behind) (length front + place) ≡ slice_get behind place
slice_get-behind [] behind place = let here : 0 + place ≡ place = omega arith in ap (slice_get behind) here
slice_get-behind {X} (x ∷ front) behind place =
    let there : length (x ∷ front) + place ≡ suc (length front + place) = omega arith in
    ap (slice_get (x ∷ (front ++ behind))) there ∙ slice_get-behind front behind place

-- A call among the items that a piece added is one of the connection's, at the place behind those before it.
pub added_call : (conn member : ℕ) (messages : List Message) (front added : List Item) (place : ℕ) (request : Request) → front ++ added ≡ items_of conn member messages
    → option_and_then request_in (slice_get added place) ≡ Some request → IsCallAt conn member messages (length front + place) request
added_call conn member messages front added place request all e =
    ap (option_and_then request_in) (ap (λ (items : List Item). slice_get items (length front + place)) (sym all) ∙ slice_get-behind front added place) ∙ e
