-- What the session of a connection makes of what is said on it.
use Rattle.std.specs.Prelude.{◌≡◌, ℕ, ◌<◌, true, if◌then◌else◌, ℤ, pos, List, [], ◌∷◌, ◌++◌, length, Option, Some, None}
use Rattle.grid_base.specs.Errors.{not_authenticated}
use Rattle.grid_base.specs.Names.{key_of}
use Rattle.grid_base.specs.declared.names.CallId.{CallId}
use Rattle.grid_base.specs.declared.names.ClientKey.{ClientKey}
use Rattle.grid_base.specs.declared.names.Owner.{Owner}
use Rattle.grid_base.specs.declared.calls.MapCall.{MapCall}
use Rattle.grid_base.specs.declared.calls.MapCall.TheVariants.{Put, Set, PutIfAbsent, Get, ContainsKey, Remove, Delete, Replace, ReplaceIfSame, RemoveIfSame, TryLock, Unlock, IsLocked, ForceUnlock, ExecuteOnKey, PutMaxIdle, SetMaxIdle}
use Rattle.grid_base.specs.declared.calls.GridCall.TheVariants.{Map, Queue}
use Rattle.fixed_fields.specs.Responses.{void_bytes, error_bytes}
use Rattle.message_frames.specs.Assembly.{most_messages}
use Rattle.message_frames.specs.Grammar.{Piece, stream_of, piece_bytes}
use Rattle.message_frames.specs.Laws.{IsStream, messages_in}
use Rattle.message_frames.specs.Messages.{shortest_start, messages_of, fault_of}
use Rattle.client_codecs.specs.Authentications.{ping_kind}
use Rattle.client_codecs.specs.Replies.{authentication_reply}
use Rattle.map_codecs.specs.SpelledCalls as maps
use Rattle.queue_codecs.specs.SpelledCalls as queues
use Rattle.session_core.specs.Items.{is_accepted, client_of, identity_after_all, items_of}
use Rattle.session_core.specs.Places.{partition_of_key}
use Rattle.session_core.specs.declared.item.Item.{Item}
use Rattle.session_core.specs.declared.item.Item.TheVariants.{Call, Wait, Register, Reply}
use Rattle.compose_words.specs.declared.saying.Saying.{Saying}
use Rattle.compose_words.specs.declared.saying.Saying.TheVariants.{Hello, Ping, OnMap, OnQueue, WaitOnMap, WaitOnQueue, Listen}
use Rattle.compose_words.specs.Waits.{plain_of, plain_of_queue, kind_of_map_wait, kind_of_queue_wait}
use Rattle.compose_words.specs.Listenings.{registration_of}

-- a thread of that client
abbrev pub thread_of : ClientKey → Owner → Owner
thread_of client owner = record { client = client; thread = owner.thread }

-- The call as that client makes it: words say which thread calls, and the connection says whose.
abbrev pub made_by : ClientKey → MapCall → MapCall
made_by client (Put name key owner value ttl) = Put name key (thread_of client owner) value ttl
made_by client (Set name key owner value ttl) = Set name key (thread_of client owner) value ttl
made_by client (PutIfAbsent name key owner value ttl) = PutIfAbsent name key (thread_of client owner) value ttl
made_by client (Get name key owner) = Get name key (thread_of client owner)
made_by client (ContainsKey name key owner) = ContainsKey name key (thread_of client owner)
made_by client (Remove name key owner) = Remove name key (thread_of client owner)
made_by client (Delete name key owner) = Delete name key (thread_of client owner)
made_by client (Replace name key owner value) = Replace name key (thread_of client owner) value
made_by client (ReplaceIfSame name key owner test value) = ReplaceIfSame name key (thread_of client owner) test value
made_by client (RemoveIfSame name key owner test) = RemoveIfSame name key (thread_of client owner) test
made_by client (TryLock name key owner lease) = TryLock name key (thread_of client owner) lease
made_by client (Unlock name key owner) = Unlock name key (thread_of client owner)
made_by client (IsLocked name key) = IsLocked name key
made_by client (ForceUnlock name key) = ForceUnlock name key
made_by client (ExecuteOnKey name key owner number argument) = ExecuteOnKey name key (thread_of client owner) number argument
made_by client (PutMaxIdle name key owner value ttl idle) = PutMaxIdle name key (thread_of client owner) value ttl idle
made_by client (SetMaxIdle name key owner value ttl idle) = SetMaxIdle name key (thread_of client owner) value ttl idle

-- ---- the item

-- What a known client's saying gives that is no authentication: a ping is answered, a call is exactly that call, in the partition of its key or the
-- queue's, a call that may wait is that one with its timeout, and a registration is exactly that one, under its correlation.
abbrev pub served_item : CallId → ClientKey → ℤ → Saying → Item
served_item id client correlation (Hello authentication) = Reply (error_bytes correlation (pos not_authenticated) (pos 0) (pos 0))
served_item id client correlation Ping = Reply (void_bytes ping_kind correlation)
served_item id client correlation (OnMap call) =
    Call (record {
      id = id;
      correlation = correlation;
      kind = maps.kind_of_call call;
      partition = partition_of_key (key_of call);
      call = Map (made_by client call);
    })
served_item id client correlation (OnQueue partition call) =
    Call (record {
      id = id;
      correlation = correlation;
      kind = queues.kind_of_call call;
      partition = partition;
      call = Queue call;
    })
served_item id client correlation (WaitOnMap wait timeout) =
    Wait
    (record {
      id = id;
      correlation = correlation;
      kind = kind_of_map_wait wait;
      partition = partition_of_key (key_of (plain_of wait));
      call = Map (made_by client (plain_of wait));
    })
    timeout
served_item id client correlation (WaitOnQueue partition wait timeout) =
    Wait
    (record {
      id = id;
      correlation = correlation;
      kind = kind_of_queue_wait wait;
      partition = partition;
      call = Queue (plain_of_queue wait);
    })
    timeout
served_item id client correlation (Listen listening) = Register (registration_of correlation listening)

-- nothing but an authentication is served before one was accepted
abbrev pub item_after : CallId → Option ClientKey → ℤ → Saying → Item
item_after id None correlation saying = Reply (error_bytes correlation (pos not_authenticated) (pos 0) (pos 0))
item_after id (Some client) correlation saying = served_item id client correlation saying

-- what a saying gives at a member, where the client is known or not
abbrev pub item_said : ℕ → CallId → Option ClientKey → ℤ → Saying → Item
item_said member id identity correlation (Hello authentication) = Reply (authentication_reply correlation (is_accepted authentication) member)
item_said member id identity correlation Ping = item_after id identity correlation Ping
item_said member id identity correlation (OnMap call) = item_after id identity correlation (OnMap call)
item_said member id identity correlation (OnQueue partition call) = item_after id identity correlation (OnQueue partition call)
item_said member id identity correlation (WaitOnMap wait timeout) = item_after id identity correlation (WaitOnMap wait timeout)
item_said member id identity correlation (WaitOnQueue partition wait timeout) = item_after id identity correlation (WaitOnQueue partition wait timeout)
item_said member id identity correlation (Listen listening) = item_after id identity correlation (Listen listening)

-- who the client is after it: a hello to this grid's cluster makes one known
abbrev pub identity_said : ℕ → Option ClientKey → Saying → Option ClientKey
identity_said conn identity (Hello authentication) = if is_accepted authentication then Some (client_of conn authentication.client) else identity
identity_said conn identity Ping = identity
identity_said conn identity (OnMap call) = identity
identity_said conn identity (OnQueue partition call) = identity
identity_said conn identity (WaitOnMap wait timeout) = identity
identity_said conn identity (WaitOnQueue partition wait timeout) = identity
identity_said conn identity (Listen listening) = identity

-- ---- the connection

-- what came on a connection to a member before, as pieces, whose messages leave a number for one more
pub record HasRoom (pieces : List Piece) : Type 0 where
  pub stream : IsStream (shortest_start true) pieces
  pub number : length (messages_in pieces) < most_messages

-- Bytes behind these pieces go on the stream as one more piece, which adds one item, that of the saying.
pub record AddsSaying (correlation : ℤ) (saying : Saying) (bytes : List ℕ) (pieces : List Piece) : Type 0 where
  pub piece : Piece
  pub spelled : bytes ≡ piece_bytes piece
  pub stream : IsStream (shortest_start true) (pieces ++ piece ∷ [])
  pub whole : fault_of true (stream_of true pieces ++ bytes) ≡ None
  pub item : (conn member : ℕ) → items_of conn member (messages_of true (stream_of true pieces ++ bytes))
      ≡ items_of conn member (messages_of true (stream_of true pieces))
      ++ item_said member (record { conn = conn; number = length (messages_of true (stream_of true pieces)) }) (identity_after_all conn None (messages_of true (stream_of true pieces))) correlation saying ∷ []
  pub client : (conn : ℕ) → identity_after_all conn None (messages_of true (stream_of true pieces ++ bytes))
      ≡ identity_said conn (identity_after_all conn None (messages_of true (stream_of true pieces))) saying

-- Wherever these bytes come on a connection, they say this, and nothing else.
abbrev pub Say : ℤ → Saying → List ℕ → Type 0
Say correlation saying bytes = (pieces : List Piece) → HasRoom pieces → AddsSaying correlation saying bytes pieces
