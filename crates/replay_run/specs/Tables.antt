-- The table of connections: the session of each, and at which lines each of its calls arrived and was answered.
use Rattle.std.specs.Prelude.{◌≡◌, ℕ, zero, suc, Bool, true, false, List, [], ◌∷◌, ◌++◌, Option, Some, None, is_some, map, option_map, option_and_then, slice_get, slice_set, replicate, count_by, sum_by}
use Rattle.message_frames.specs.Messages.{messages_of, fault_of}
use Rattle.session_core.specs.Items.{items_of}
use Rattle.session_core.specs.Sessions.{SessionState, session_after}
use Rattle.session_core.specs.declared.session.FedSession.{FedSession}
use Rattle.grid_base.specs.declared.names.CallId.{CallId}
use Rattle.replay_run.specs.declared.connections.CallLines.{CallLines}
use Rattle.replay_run.specs.declared.connections.Connection.{Connection}

-- A connection that was opened: its session, and for each of its messages, by their numbers, the lines of the call that it is; none where the session answered it itself.
pub record Opened : Type 0 where
  pub session : SessionState
  pub calls : List (Option CallLines)

-- a slot for each number; none where the connection wasn't opened
abbrev pub Table : Type 0
Table = List (Option Opened)

abbrev pub most_connections : ℕ
most_connections = 64

abbrev pub unopened : ℕ → Table
unopened slots = replicate slots None

unfoldable pub no_connections : Table
no_connections = unopened most_connections

-- as the code has it

abbrev pub opened_as : Connection → Opened
opened_as connection = record { session = connection.session; calls = connection.calls.items }

abbrev pub slots_as : List (Option Connection) → Table
slots_as slots = map (option_map opened_as) slots

-- reading

abbrev pub present : {X : Type 0} → Option (Option X) → Option X
present None = None
present (Some slot) = slot

abbrev pub opened_at : Table → ℕ → Option Opened
opened_at table c = present (slice_get table c)

abbrev pub lines_of : Table → CallId → Option CallLines
lines_of table id = option_and_then (λ (opened : Opened). present (slice_get opened.calls id.number)) (opened_at table id.conn)

-- a call that was answered
abbrev pub is_marked : Option CallLines → Bool
is_marked None = false
is_marked (Some lines) = is_some lines.answered

abbrev pub marked_in : Option Opened → ℕ
marked_in None = 0
marked_in (Some opened) = count_by is_marked opened.calls

-- how many calls were answered
abbrev pub answered_count : Table → ℕ
answered_count table = sum_by marked_in table

-- changes

-- a connection on which nothing has arrived
abbrev pub silent : ℕ → ℕ → Opened
silent c member = record { session = session_after c member []; calls = [] }

abbrev pub with_opened : Table → ℕ → ℕ → Table
with_opened table c member = slice_set table c (Some (silent c member))

-- the list with a change to the element at a place, if there is one
abbrev pub changed_at : {X : Type 0} → List X → ℕ → (X → X) → List X
changed_at [] place change = []
changed_at (x ∷ xs) zero change = change x ∷ xs
changed_at (x ∷ xs) (suc place) change = x ∷ changed_at xs place change

-- A change to one connection, if it was opened.
abbrev pub with_change : Table → ℕ → (Opened → Opened) → Table
with_change table c change = changed_at table c (option_map change)

-- the session was handed bytes and stands so
abbrev pub heard : SessionState → Opened → Opened
heard session opened = record opened { session = session }

abbrev pub with_session : Table → ℕ → SessionState → Table
with_session table c session = with_change table c (heard session)

-- What was given of bytes that came on a connection after others, of which nothing was given twice.
pub record FeedGives (fed : FedSession) (conn member : ℕ) (text bytes : List ℕ) : Type 0 where
  pub items : items_of conn member (messages_of true text) ++ fed.items.items ≡ items_of conn member (messages_of true (text ++ bytes))
  pub closed : fed.closed ≡ fault_of true (text ++ bytes)

abbrev pub Gives : Option FedSession → ℕ → ℕ → List ℕ → List ℕ → Type 0
Gives None conn member text bytes = ⊥
Gives (Some fed) conn member text bytes = FeedGives fed conn member text bytes

-- one message more, which its session answered itself
abbrev pub replied : Opened → Opened
replied opened = record opened { calls = opened.calls ++ None ∷ [] }

abbrev pub with_reply : Table → ℕ → Table
with_reply table c = with_change table c replied

-- one message more, whose call arrived at a line
abbrev pub called : ℕ → Opened → Opened
called line opened = record opened { calls = opened.calls ++ Some (record { arrived = line; answered = None }) ∷ [] }

abbrev pub with_arrival : Table → ℕ → ℕ → Table
with_arrival table c line = with_change table c (called line)

-- The first answer counts.
abbrev pub or_line : Option ℕ → ℕ → Option ℕ
or_line None line = Some line
or_line (Some earlier) line = Some earlier

abbrev pub lines_answered : ℕ → CallLines → CallLines
lines_answered line lines = record { arrived = lines.arrived; answered = or_line lines.answered line }

-- the call of that number, if there is one, was answered at a line
abbrev pub answered : ℕ → ℕ → Opened → Opened
answered number line opened = record opened { calls = changed_at opened.calls number (option_map (lines_answered line)) }

abbrev pub with_answer : Table → CallId → ℕ → Table
with_answer table id line = with_change table id.conn (answered id.number line)
