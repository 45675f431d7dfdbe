-- What a client makes of what it hears.
use Rattle.std.specs.Prelude.{◌≡◌, ℕ, ◌+◌, Bool, false, ◌&&◌, ◌==◌, nat_lt, bytes_eq, ℤ, if◌then◌else◌, List, [], ◌∷◌, ◌++◌, length, drop, Option, Some, None, option_map, option_and_then}
use Rattle.std.specs.List.{find}
use Rattle.std.specs.Option.{option_map_or}
use Rattle.std.specs.Ordering.{int_eq}
use Rattle.std.specs.Result.{result_ok}
use Rattle.message_frames.specs.MessageReaders.{standing}
use Rattle.message_frames.specs.Messages.{messages_of, fault_of}
use Rattle.message_frames.specs.declared.message.Message.{Message}
use Rattle.near_cache.specs.declared.look_up.Filled.{Filled}
use Rattle.near_cache.specs.declared.look_up.Filled.TheVariants as told
use Rattle.event_codecs.specs.Events.{event_of}
use Rattle.event_codecs.specs.declared.events.ClientEvent.{ClientEvent}
use Rattle.event_codecs.specs.declared.events.ClientEvent.TheVariants.{Entry, Invalidation, Rows}
use Rattle.event_codecs.specs.declared.seen.SeenRow.{SeenRow}
use Rattle.client_codecs.specs.Authentications.{authentication_kind}
use Rattle.request_codecs.specs.Openings.{authentication_correlation}
use Rattle.grid_client.specs.Nears.{Near, Value, answered, closed, outcome, invalidated, cleared}
use Rattle.grid_client.specs.Calls.{is_answered_by, answered_number, settled}
use Rattle.grid_client.specs.Messages.{head_of, code_of, value_of, bytes_of, accepted_of}
use Rattle.grid_client.specs.Rows.{version_in, knowing}
use Rattle.grid_client.specs.Connections.{is_conn, with_uuid, with_reader}
use Rattle.grid_client.specs.States.{State}
use Rattle.grid_client.specs.declared.connections.Connection.{Connection}
use Rattle.grid_client.specs.declared.heard.FedClient.{FedClient}
use Rattle.grid_client.specs.declared.heard.Heard.{Heard}
use Rattle.grid_client.specs.declared.heard.Heard.TheVariants as heard
use Rattle.grid_client.specs.declared.messages.Head.{Head}

-- the client after something, and what it says of it
pub record Told : Type 0 where
  pub after : State
  pub heard : List Heard

abbrev pub nothing : State → Told
nothing s = record { after = s; heard = [] }

-- one thing after another
abbrev pub followed : Told → (State → Told) → Told
followed t more = let u = more t.after in record { after = u.after; heard = t.heard ++ u.heard }

-- The client is as it is told, and what it says stands behind what it said before.
pub record HasTold (t : Told) (new : State) (before after : List Heard) : Type 0 where
  pub state : new ≡ t.after
  pub heard : after ≡ before ++ t.heard

-- ---- answers

-- A refusal gives a look-up up. Any other answer closes it, with the value if there is one.
abbrev pub near_answered : ℕ → Option ℤ → Option Value → Near → Near
near_answered number (Some code) value n = closed number n
near_answered number None value n = answered number value n

abbrev pub heard_filled : Filled → Heard
heard_filled told.Kept = heard.Kept
heard_filled (told.Overtaken version number) = heard.Overtaken version number

abbrev pub heard_answer : ℤ → Message → Option Filled → Heard
heard_answer correlation message None = heard.Answered correlation (bytes_of message)
heard_answer correlation message (Some filled) = heard_filled filled

-- what became of a look-up's value, where an answer brings one
abbrev pub filled_by : ℕ → Option ℤ → Option Value → Option Near → Option Filled
filled_by number (Some code) value near = None
filled_by number None value near = option_and_then (outcome number value) near

abbrev pub answer_told : ℤ → Option ℤ → Option Filled → Message → Heard
answer_told correlation (Some code) filled message = heard.Refused correlation code
answer_told correlation None filled message = heard_answer correlation message filled

-- the answer to a call that waits
abbrev pub told_by_answer : ℕ → ℕ → Head → Message → State → Told
told_by_answer conn number head message s =
    let code = code_of head.kind message in
    record {
      after = record s {
        calls = settled (is_answered_by conn number head.kind) code s.calls;
        near = option_map (near_answered number code (value_of message)) s.near;
      };
      heard = answer_told head.correlation code (filled_by number code (value_of message) s.near) message ∷ [];
    }

-- What an answer does beside its call
pub record HasAnswered (correlation : ℤ) (number : ℕ) (code : Option ℤ) (message : Message) (old new : State) (before after : List Heard) : Type 0 where
  pub state : new ≡ record old { near = option_map (near_answered number code (value_of message)) old.near }
  pub heard : after ≡ before ++ answer_told correlation code (filled_by number code (value_of message) old.near) message ∷ []

-- ---- events

abbrev pub is_near_map : List ℕ → Option Near → Bool
is_near_map name near = option_map_or (λ (n : Near). bytes_eq n.name name) near false

abbrev pub told_by_invalidation : List ℕ → List ℕ → ℕ → ℕ → State → Told
told_by_invalidation name key version number s =
    if is_near_map name s.near
    then record { after = record s { near = option_map (invalidated key version number) s.near }; heard = heard.Invalidated ∷ [] }
    else nothing s

abbrev pub clearing : SeenRow → State → State
clearing row s = record s { near = option_map (cleared row.partition row.version) s.near }

abbrev pub cleared_by : SeenRow → Option Near → List Heard
cleared_by row None = []
cleared_by row (Some near) = heard.Cleared row.partition ∷ []

abbrev pub knowing_row : SeenRow → State → State
knowing_row row s = record s { rows = knowing row s.rows }

-- A row later than the known one clears its partition, where there is a near cache; the first row of a partition clears nothing.
abbrev pub told_by_row : SeenRow → State → Told
told_by_row row s =
    elim (version_in row.partition s.rows) [
      | None ↦ nothing (knowing_row row s)
      | Some version ↦ if nat_lt version row.version
          then record { after = knowing_row row (clearing row s); heard = cleared_by row s.near }
          else nothing s
    ]

abbrev pub told_by_rows : List SeenRow → State → Told
told_by_rows [] s = nothing s
told_by_rows (row ∷ rows) s = followed (told_by_row row s) (told_by_rows rows)

abbrev pub told_by_event : Option ClientEvent → State → Told
told_by_event None s = nothing s
told_by_event (Some (Entry correlation partition kind key new old)) s = nothing s
told_by_event (Some (Invalidation correlation partition version number name key)) s = told_by_invalidation name key version number s
told_by_event (Some (Rows correlation rows)) s = told_by_rows rows s

-- ---- messages

-- the answer to an authentication
abbrev pub is_welcome : Head → Bool
is_welcome head = (head.kind == authentication_kind + 1) && int_eq head.correlation authentication_correlation

abbrev pub welcomed : ℕ → Option (Option ℕ) → State → State
welcomed conn None s = s
welcomed conn (Some uuid) s = record s { connections = with_uuid conn uuid s.connections }

-- what is no answer to a call
abbrev pub told_otherwise : ℕ → Head → Message → State → Told
told_otherwise conn head message s =
    if is_welcome head then nothing (welcomed conn (accepted_of message) s) else told_by_event (result_ok (event_of message)) s

abbrev pub told_by_number : ℕ → Option ℕ → Head → Message → State → Told
told_by_number conn None head message s = told_otherwise conn head message s
told_by_number conn (Some number) head message s = told_by_answer conn number head message s

abbrev pub told_by_head : ℕ → Option Head → Message → State → Told
told_by_head conn None message s = nothing s
told_by_head conn (Some head) message s = told_by_number conn (answered_number conn head s.calls) head message s

-- a message on a connection
abbrev pub told_by_message : ℕ → Message → State → Told
told_by_message conn message s = told_by_head conn (head_of message) message s

abbrev pub told_by_messages : ℕ → List Message → State → Told
told_by_messages conn [] s = nothing s
told_by_messages conn (message ∷ messages) s = followed (told_by_message conn message s) (told_by_messages conn messages)

-- ---- bytes

-- the bytes that were heard on a connection so far
abbrev pub HasHeard : ℕ → List ℕ → State → Type 0
HasHeard conn text s = option_map (λ (c : Connection). c.reader) (find (is_conn conn) s.connections) ≡ Some (standing false text)

-- the messages that a piece completes behind a text
abbrev pub messages_by : List ℕ → List ℕ → List Message
messages_by text piece = drop (length (messages_of false text)) (messages_of false (text ++ piece))

abbrev pub reading : ℕ → List ℕ → State → State
reading conn text s = record s { connections = with_reader conn (standing false text) s.connections }

abbrev pub told_by_piece : ℕ → List ℕ → List ℕ → State → Told
told_by_piece conn text piece s = told_by_messages conn (messages_by text piece) (reading conn (text ++ piece) s)

-- A piece behind a text was handled message by message, up to the first fault.
pub record HasFed (conn : ℕ) (text piece : List ℕ) (old new : State) (fed : FedClient) : Type 0 where
  pub heard : fed.heard.items ≡ (told_by_piece conn text piece old).heard
  pub after : new ≡ (told_by_piece conn text piece old).after
  pub fault : fed.fault ≡ fault_of false (text ++ piece)
