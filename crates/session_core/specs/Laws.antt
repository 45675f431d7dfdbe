-- What holds of the items of a connection.
use Rattle.std.specs.Prelude.{◌≡◌, ◌≢◌, ℕ, ◌<◌, true, pos, List, ◌∷◌, ◌++◌, length, take, slice_get, All, Option, Some, None, option_and_then, IfSome, Ok, ⊤}
use Rattle.grid_base.specs.Errors.{not_authenticated}
use Rattle.grid_base.specs.Limits.{CallFits}
use Rattle.grid_base.specs.declared.TheConstants.{PARTITIONS}
use Rattle.grid_base.specs.declared.names.ClientKey.{ClientKey}
use Rattle.grid_base.specs.declared.calls.GridCall.{GridCall}
use Rattle.grid_base.specs.declared.calls.GridCall.TheVariants.{Map, Queue}
use Rattle.grid_base.specs.declared.calls.Request.{Request}
use Rattle.frame_codec.specs.declared.malformed.Malformed.{Malformed}
use Rattle.message_frames.specs.Messages.{messages_of, fault_of}
use Rattle.message_frames.specs.declared.message.Message.{Message}
use Rattle.client_codecs.specs.Authentications.{authentication_kind, authentication_of}
use Rattle.client_codecs.specs.declared.authentications.Authentication.{Authentication}
use Rattle.map_codecs.specs.SpelledCalls.{caller_of}
use Rattle.session_core.specs.Items.{kind_of, stated_partition, cluster_name, client_of, identity_after_all, error_to, items_of}
use Rattle.session_core.specs.Places.{BelongsTo}
use Rattle.session_core.specs.declared.item.Item.{Item}
use Rattle.session_core.specs.declared.item.Item.TheVariants.{Call, Wait, Register, Reply}

-- The items

-- Each message gives one item.
abbrev pub each_message_gives_one_item : Type 0
each_message_gives_one_item = (conn member : ℕ) (messages : List Message) → length (items_of conn member messages) ≡ length messages

-- More messages only add items behind those that were given.
abbrev pub items_stay : Type 0
items_stay = (conn member : ℕ) (messages later : List Message) → (more : List Item) × (items_of conn member (messages ++ later) ≡ items_of conn member messages ++ more)

-- After the fault that closes the connection its bytes give nothing further.
abbrev pub nothing_is_given_after_a_fault : Type 0
nothing_is_given_after_a_fault =
    (conn member : ℕ) (text more : List ℕ) (fault : Malformed) → fault_of true text ≡ Some fault →
    items_of conn member (messages_of true (text ++ more)) ≡ items_of conn member (messages_of true text)

-- Who the client is

-- A message makes a client known that is an authentication, can be read, and has the name of this grid's cluster.
pub record Accepts (message : Message) (authentication : Authentication) : Type 0 where
  pub kind : kind_of message ≡ authentication_kind
  pub read : authentication_of message ≡ Ok authentication
  pub cluster : authentication.name ≡ cluster_name

abbrev pub AcceptsNone : Message → Type 0
AcceptsNone message = (authentication : Authentication) → ¬ Accepts message authentication

-- The last of these messages that makes a client known makes known this one.
pub record IsLastAccepted (conn : ℕ) (messages : List Message) (client : ClientKey) : Type 0 where
  pub before : List Message
  pub message : Message
  pub behind : List Message
  pub authentication : Authentication
  pub whole : messages ≡ before ++ message ∷ behind
  pub accepts : Accepts message authentication
  pub last : All AcceptsNone behind
  pub client_is : client ≡ client_of conn authentication.client

abbrev pub the_last_accepted_is_the_client : Type 0
the_last_accepted_is_the_client =
    (conn : ℕ) (messages : List Message) (client : ClientKey) → IsLastAccepted conn messages client → identity_after_all conn None messages ≡ Some client

-- The calls

-- the call that an item is, at once or one that may wait
abbrev pub request_in : Item → Option Request
request_in (Call request) = Some request
request_in (Wait request timeout) = Some request
request_in (Register registration) = None
request_in (Reply bytes) = None

-- the item at this place, which the message at this place gives, is this call
abbrev pub IsCallAt : ℕ → ℕ → List Message → ℕ → Request → Type 0
IsCallAt conn member messages place request = option_and_then request_in (slice_get (items_of conn member messages) place) ≡ Some request

-- A call that says who makes it is of this client.
abbrev pub IsOf : ClientKey → GridCall → Type 0
IsOf client (Map call) = IfSome (caller_of call) (λ owner. owner.client ≡ client)
IsOf client (Queue call) = ⊤

-- Before each call an authentication was accepted, and the call is of the client that the last one made known.
abbrev pub every_call_is_authenticated : Type 0
every_call_is_authenticated =
    (conn member : ℕ) (messages : List Message) (place : ℕ) (request : Request) → IsCallAt conn member messages place request →
    (client : ClientKey) × IsLastAccepted conn (take place messages) client × IsOf client request.call

-- Where none was accepted before, each message but an authentication is answered so.
abbrev pub nothing_else_is_served_before : Type 0
nothing_else_is_served_before =
    (conn member : ℕ) (messages : List Message) (place : ℕ) (message : Message) → slice_get messages place ≡ Some message →
    All AcceptsNone (take place messages) → kind_of message ≢ authentication_kind →
    slice_get (items_of conn member messages) place ≡ Some (error_to message not_authenticated (pos 0) (pos 0))

-- A call is named by its connection and the place of its message.
abbrev pub every_call_is_numbered : Type 0
every_call_is_numbered =
    (conn member : ℕ) (messages : List Message) (place : ℕ) (request : Request) → IsCallAt conn member messages place request →
    request.id ≡ record { conn = conn; number = place }

-- An entry's partition is its key's, and each is one of the grid's.
pub record IsPlaced (request : Request) : Type 0 where
  pub own : BelongsTo request.call request.partition
  pub within : request.partition < PARTITIONS

abbrev pub every_call_is_placed : Type 0
every_call_is_placed =
    (conn member : ℕ) (messages : List Message) (place : ℕ) (request : Request) → IsCallAt conn member messages place request → IsPlaced request

-- It is the one that the message states.
abbrev pub every_partition_is_stated : Type 0
every_partition_is_stated =
    (conn member : ℕ) (messages : List Message) (place : ℕ) (message : Message) (request : Request) → slice_get messages place ≡ Some message →
    IsCallAt conn member messages place request → stated_partition message ≡ pos request.partition

-- The parts of a call that arrived fit frames.
abbrev pub every_call_fits : Type 0
every_call_fits =
    (conn member : ℕ) (text : List ℕ) (place : ℕ) (request : Request) → IsCallAt conn member (messages_of true text) place request → CallFits request.call
