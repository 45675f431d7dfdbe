-- What the session of a near connection makes of what its client sends: the opening, and then gets.
use Rattle.std.specs.Prelude.{◌≡◌, ℕ, ◌^◌, ◌<◌, ◌≤◌, true, List, [], ◌∷◌, ◌++◌, length, Some, None}
use Rattle.std.specs.Str.{IsUtf8}
use Rattle.grid_base.specs.Objects.{Object}
use Rattle.grid_base.specs.declared.calls.Request.{Request}
use Rattle.grid_base.specs.declared.names.CallId.{CallId}
use Rattle.grid_base.specs.declared.names.ClientKey.TheVariants.{Known}
use Rattle.message_frames.specs.Assembly.{most_messages}
use Rattle.message_frames.specs.Grammar.{Piece, stream_of}
use Rattle.message_frames.specs.Laws.{IsStream}
use Rattle.message_frames.specs.Messages.{shortest_start, messages_of, fault_of}
use Rattle.message_frames.specs.Writing.{IsWritable}
use Rattle.client_codecs.specs.Replies.{authentication_reply}
use Rattle.event_codecs.specs.declared.registration.Registration.TheVariants as registration
use Rattle.object_store.specs.Partitions.{Partition}
use Rattle.session_core.specs.Items.{identity_after_all, items_of}
use Rattle.session_core.specs.Places.{partition_of_key}
use Rattle.session_core.specs.declared.item.Item.{Item}
use Rattle.session_core.specs.declared.item.Item.TheVariants.{Call, Register, Reply}
use Rattle.request_codecs.specs.Openings.{authentication_correlation, invalidations_correlation, rows_correlation, listener_frames, opening}
use Rattle.request_codecs.specs.Requests.{request, request_bytes}
use Rattle.grid_client.specs.Calls.{correlation_of}
use Rattle.grid_client.specs.States.{get_of}
use Rattle.replay_run.specs.Runs.{Run, Connection, connection_of, takes_bytes, took_bytes, told, registers, calls, bytes_arrived}
use Rattle.near_run_laws.specs.Maps.{get_request}

-- Whole messages arrived on the connection, without a fault, and by them its client is known.
pub record HasSent (conn client : ℕ) (text : List ℕ) : Type 0 where
  pub pieces : List Piece
  pub is : text ≡ stream_of true pieces
  pub stream : IsStream (shortest_start true) pieces
  pub known : identity_after_all conn None (messages_of true text) ≡ Some (Known client)
  pub whole : fault_of true text ≡ None

-- ---- the opening

pub record MayOpen (client : ℕ) (name : List ℕ) : Type 0 where
  pub small : client < 2 ^ 128
  pub text : IsUtf8 name
  pub fits : IsWritable (listener_frames (Some name))

-- It is answered that it is known, and registered twice.
abbrev pub opening_items : ℕ → List ℕ → List Item
opening_items member name =
    Reply (authentication_reply authentication_correlation true member)
    ∷ Register (registration.Invalidations invalidations_correlation name)
    ∷ Register (registration.Rows rows_correlation)
    ∷ []

abbrev pub EveryOpeningIsHeard : Type 0
EveryOpeningIsHeard = (conn member client : ℕ) (name : List ℕ) → MayOpen client name
    → let text = opening client (Some name) in
    HasSent conn client text × (items_of conn member (messages_of true text) ≡ opening_items member name)

-- ---- a get

-- the bytes of the get of a key, under a number
abbrev pub get_bytes : List ℕ → ℕ → ℕ → List ℕ → List ℕ
get_bytes name client number key = request_bytes (correlation_of number) (partition_of_key key) (get_of name key client)

pub record MayGet (name : List ℕ) (client number : ℕ) (key : List ℕ) : Type 0 where
  pub text : IsUtf8 name
  pub whole : 8 ≤ length key
  pub room : number < most_messages
  pub fits : IsWritable (request (correlation_of number) (partition_of_key key) (get_of name key client)).frames

-- It is heard as the call that the machine makes, under the number of its message.
abbrev pub EveryGetIsHeard : Type 0
EveryGetIsHeard = (conn member client : ℕ) (name key text : List ℕ)
    → let number = length (messages_of true text) in
    let after = text ++ get_bytes name client number key in
    HasSent conn client text → MayGet name client number key
    → HasSent conn client after × (items_of conn member (messages_of true after) ≡ items_of conn member (messages_of true text) ++ Call (get_request conn name client number key) ∷ [])

-- ---- lines

-- after the opening's line: the client is known, and listens
abbrev pub near_opened : {State : Type 0} → Object Request State → Run → Connection → List ℕ → List ℕ → Run
near_opened o r k name bytes =
    let known = told (took_bytes r k bytes) k.conn (authentication_reply authentication_correlation true k.member) in
    registers o (registers o known k.conn k.member (registration.Invalidations invalidations_correlation name)) k.conn k.member (registration.Rows rows_correlation)

abbrev pub EveryOpeningIsServed : Type 0
EveryOpeningIsServed = (o : Object Request Partition) (skips : List CallId) (r : Run) (k : Connection) (client : ℕ) (name : List ℕ)
    → connection_of r k.conn ≡ Some k → takes_bytes o r k ≡ true → k.bytes ≡ [] → MayOpen client name
    → bytes_arrived o skips r k (opening client (Some name)) ≡ near_opened o r k name (opening client (Some name))

abbrev pub EveryGetIsServed : Type 0
EveryGetIsServed = (o : Object Request Partition) (skips : List CallId) (r : Run) (k : Connection) (client : ℕ) (name key : List ℕ)
    → let number = length (messages_of true k.bytes) in
    let bytes = get_bytes name client number key in
    let taken = took_bytes r k bytes in
    connection_of r k.conn ≡ Some k → takes_bytes o r k ≡ true → HasSent k.conn client k.bytes → MayGet name client number key
    → bytes_arrived o skips r k bytes ≡ calls o skips taken k.member (get_request k.conn name client number key)
