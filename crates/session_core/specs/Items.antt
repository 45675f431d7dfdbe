-- What the messages of a connection give: answers of the session itself, calls, and registrations.
use Rattle.std.specs.Prelude.{ℕ, ◌+◌, ◌==◌, Bool, if◌then◌else◌, ℤ, pos, List, [], ◌∷◌, Option, Some, None, Result, Ok, Err, unwrap_or, nat_eq, codes}
use Rattle.std.specs.Cmp.Lexicographic.{pointwise}
use Rattle.std.specs.Ordering.{int_eq}
use Rattle.grid_base.specs.Errors.{not_authenticated, unknown_type, bad_call, wrong_partition, want_of_memory}
use Rattle.grid_base.specs.declared.names.CallId.{CallId}
use Rattle.grid_base.specs.declared.names.ClientKey.{ClientKey}
use Rattle.grid_base.specs.declared.names.ClientKey.TheVariants.{Known, OfConn}
use Rattle.grid_base.specs.declared.calls.MapCall.{MapCall}
use Rattle.grid_base.specs.declared.calls.QueueCall.{QueueCall}
use Rattle.grid_base.specs.declared.calls.GridCall.{GridCall}
use Rattle.grid_base.specs.declared.calls.GridCall.TheVariants.{Map, Queue}
use Rattle.grid_base.specs.declared.refusal.CallRefused.{CallRefused}
use Rattle.grid_base.specs.declared.refusal.CallRefused.TheVariants.{UnknownType, BadCall, Memory}
use Rattle.fixed_fields.specs.Fields.{int32_at, int64_at}
use Rattle.fixed_fields.specs.Requests.{kind_of as kind_in}
use Rattle.fixed_fields.specs.Responses.{void_bytes, error_bytes}
use Rattle.message_frames.specs.Assembly.{first_payload}
use Rattle.message_frames.specs.declared.message.Message.{Message}
use Rattle.client_codecs.specs.Authentications.{authentication_kind, ping_kind, authentication_of}
use Rattle.client_codecs.specs.Replies.{authentication_reply}
use Rattle.client_codecs.specs.declared.authentications.Authentication.{Authentication}
use Rattle.event_codecs.specs.Registrations.{registration_of}
use Rattle.event_codecs.specs.declared.registration.Registration.{Registration}
use Rattle.map_codecs.specs.Calls.{map_call_of}
use Rattle.map_codecs.specs.Waits.{map_wait_of}
use Rattle.queue_codecs.specs.Calls.{queue_call_of}
use Rattle.queue_codecs.specs.Waits.{queue_wait_of}
use Rattle.session_core.specs.Places.{partition_of_call}
use Rattle.session_core.specs.declared.item.Item.{Item}
use Rattle.session_core.specs.declared.item.Item.TheVariants.{Call, Wait, Register, Reply}

-- The head of a message's first payload. Each message of a connection to a member has it whole.

abbrev pub payload_of : Message → List ℕ
payload_of message = first_payload message.frames

-- the type
abbrev pub kind_of : Message → ℕ
kind_of message = unwrap_or (kind_in (payload_of message)) 0

-- the client's own number for the message, which the answer repeats
abbrev pub correlation_of : Message → ℤ
correlation_of message = unwrap_or (int64_at (payload_of message) 4) (pos 0)

abbrev pub stated_partition : Message → ℤ
stated_partition message = unwrap_or (int32_at (payload_of message) 12) (pos 0)

-- Who the client is. Its name for the cluster has to be this grid's.

abbrev pub cluster_name : List ℕ
cluster_name = codes "dev"

abbrev pub is_accepted : Authentication → Bool
is_accepted authentication = pointwise nat_eq authentication.name cluster_name

-- A client that gives no number is the connection itself.
abbrev pub client_of : ℕ → Option ℕ → ClientKey
client_of conn None = OfConn conn
client_of conn (Some number) = Known number

abbrev pub identity_by : ℕ → Option ClientKey → Result Authentication CallRefused → Option ClientKey
identity_by conn identity (Err why) = identity
identity_by conn identity (Ok authentication) = if is_accepted authentication then Some (client_of conn authentication.client) else identity

-- the client after a message, if one was made known: the last accepted authentication says who it is
abbrev pub identity_after : ℕ → Option ClientKey → Message → Option ClientKey
identity_after conn identity message =
    if kind_of message == authentication_kind then identity_by conn identity (authentication_of message) else identity

abbrev pub identity_after_all : ℕ → Option ClientKey → List Message → Option ClientKey
identity_after_all conn identity [] = identity
identity_after_all conn identity (message ∷ messages) = identity_after_all conn (identity_after conn identity message) messages

-- The answers of the session.

abbrev pub error_to : Message → ℕ → ℤ → ℤ → Item
error_to message code first second = Reply (error_bytes (correlation_of message) (pos code) first second)

abbrev pub number_of : CallRefused → ℕ
number_of UnknownType = unknown_type
number_of BadCall = bad_call
number_of Memory = want_of_memory

abbrev pub refused : Message → CallRefused → Item
refused message why = error_to message (number_of why) (pos 0) (pos 0)

abbrev pub authentication_item : ℕ → Message → Result Authentication CallRefused → Item
authentication_item member message (Err why) = refused message why
authentication_item member message (Ok authentication) = Reply (authentication_reply (correlation_of message) (is_accepted authentication) member)

-- What is no call on a map's entry by its type may be one on a queue.
abbrev pub either_call : Result MapCall CallRefused → Result QueueCall CallRefused → Result GridCall CallRefused
either_call (Ok call) queue = Ok (Map call)
either_call (Err UnknownType) (Ok call) = Ok (Queue call)
either_call (Err UnknownType) (Err why) = Err why
either_call (Err why) queue = Err why

-- the call of that client which a message is, or why it is none
abbrev pub call_of : ClientKey → Message → Result GridCall CallRefused
call_of client message = either_call (map_call_of client message) (queue_call_of message)

-- A call states the partition that it is in. On a map's entry another one is answered with both; a queue is where the message says.
abbrev pub call_item : CallId → Message → Result GridCall CallRefused → Item
call_item id message (Err why) = refused message why
call_item id message (Ok call) =
    let partition = partition_of_call (stated_partition message) call in
    if int_eq (stated_partition message) (pos partition) then
    Call (record { id = id; correlation = correlation_of message; kind = kind_of message; partition = partition; call = call })
    else error_to message wrong_partition (stated_partition message) (pos partition)

-- The same of a call that may wait, with its timeout.
abbrev pub either_wait : Result (MapCall × ℤ) CallRefused → Result (QueueCall × ℤ) CallRefused → Result (GridCall × ℤ) CallRefused
either_wait (Ok wait) queue = Ok (Map wait.0, wait.1)
either_wait (Err UnknownType) (Ok wait) = Ok (Queue wait.0, wait.1)
either_wait (Err UnknownType) (Err why) = Err why
either_wait (Err why) queue = Err why

abbrev pub wait_of : ClientKey → Message → Result (GridCall × ℤ) CallRefused
wait_of client message = either_wait (map_wait_of client message) (queue_wait_of message)

-- a call, that may wait so long; what was refused stays refused
abbrev pub waiting : ℤ → Item → Item
waiting timeout (Call request) = Wait request timeout
waiting timeout item = item

-- A waiting call is refused as its plain call would be.
abbrev pub wait_item : CallId → Message → Result (GridCall × ℤ) CallRefused → Item
wait_item id message (Err why) = refused message why
wait_item id message (Ok wait) = waiting wait.1 (call_item id message (Ok wait.0))

abbrev pub registration_item : Message → Result Registration CallRefused → Item
registration_item message (Err why) = refused message why
registration_item message (Ok registration) = Register registration

-- what is read, or where its types are others than the message's, something else
abbrev pub unless_unknown : {A : Type 0} → Result A CallRefused → (Result A CallRefused → Item) → Item → Item
unless_unknown (Err UnknownType) item other = other
unless_unknown read item other = item read

-- What isn't a call by its type may be one that waits, and what is neither a registration.
abbrev pub wait_or_registration : CallId → ClientKey → Message → Item
wait_or_registration id client message = unless_unknown (wait_of client message) (wait_item id message) (registration_item message (registration_of message))

abbrev pub asked : CallId → ClientKey → Message → Item
asked id client message = unless_unknown (call_of client message) (call_item id message) (wait_or_registration id client message)

-- what a message of a known client gives that is no authentication
abbrev pub served : CallId → ClientKey → Message → Item
served id client message =
    if kind_of message == ping_kind then Reply (void_bytes ping_kind (correlation_of message))
    else asked id client message

-- An authentication is always looked at; before an accepted one nothing else is.
abbrev pub item_of : ℕ → CallId → Option ClientKey → Message → Item
item_of member id identity message =
    if kind_of message == authentication_kind then authentication_item member message (authentication_of message)
    else elim identity [ None ↦ error_to message not_authenticated (pos 0) (pos 0) | Some client ↦ served id client message ]

-- The messages of a connection are numbered in the order in which they are complete, from 0. Each gives one item.
abbrev pub items_from : ℕ → ℕ → ℕ → Option ClientKey → List Message → List Item
items_from conn member number identity [] = []
items_from conn member number identity (message ∷ messages) =
    item_of member (record { conn = conn; number = number }) identity message ∷ items_from conn member (number + 1) (identity_after conn identity message) messages

-- the items of all messages of a connection to a member
abbrev pub items_of : ℕ → ℕ → List Message → List Item
items_of conn member messages = items_from conn member 0 None messages
