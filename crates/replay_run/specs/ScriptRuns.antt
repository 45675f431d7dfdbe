-- The runs that the lines of scripts make, one step at a time: a line is counted, and then each of its items is handled.
use Rattle.std.specs.Prelude.{◌≡◌, ℕ, ◌+◌, ◌<◌, ◌≤◌, List, [], length, Option, Some, None, Contains}
use Rattle.std.specs.List.{filter_map}
use Rattle.grid_base.specs.Names.{key_of}
use Rattle.grid_base.specs.Objects.{Object}
use Rattle.grid_base.specs.declared.calls.GridCall.{GridCall}
use Rattle.grid_base.specs.declared.calls.GridCall.TheVariants as call
use Rattle.grid_base.specs.declared.TheConstants.{PARTITIONS}
use Rattle.grid_base.specs.declared.names.CallId.{CallId}
use Rattle.grid_base.specs.declared.calls.Request.{Request}
use Rattle.partition_protocol.specs.Arrivals.{asked_by}
use Rattle.partition_protocol.specs.Events.{Event}
use Rattle.object_store.specs.Partitions.{Partition}
use Rattle.listeners.specs.declared.listener.Listener.{Listener}
use Rattle.session_core.specs.Places.{partition_of_key}
use Rattle.session_core.specs.declared.item.Item.{Item}
use Rattle.session_core.specs.declared.item.Item.TheVariants.{Call as Asks, Wait, Register, Reply}
use Rattle.partition_protocol.specs.Execution.{Reached}
use Rattle.replay_run.specs.Endings.{AreAmong, new_arrivals}
use Rattle.replay_run.specs.Runs.{Run, Connection, Arrival, Waiter, begun, connection_of, messages_on, next_line, clock_set, opened, with_bytes, took_bytes, listener_registered, told, arrived, occurred, given_up, asked, handled_all, arrival_at, waits, without, ending, leaves, refused_at}

-- the partition that has a call's object: a map's entry is where its key is, and a queue where it was asked for
abbrev pub home_of : GridCall → ℕ → ℕ
home_of (call.Map c) stated = partition_of_key (key_of c)
home_of (call.Queue c) stated = stated

abbrev pub home : Request → ℕ
home request = home_of request.call request.partition

-- A request is for the partition of its object, which is one of the grid's.
pub record IsPlaced (request : Request) : Type 0 where
  pub own : home request ≡ request.partition
  pub within : request.partition < PARTITIONS

-- A call on this connection may arrive now and have this number: the calls so far of the connection, waiting or not, have smaller ones, and those of the line are on it.
pub record MayAsk (r : Run) (connection : Connection) (number : ℕ) : Type 0 where
  pub there : connection_of r connection.conn ≡ Some connection
  pub after : (a : Arrival) → Contains r.arrivals a → a.request.id.conn ≡ connection.conn → a.request.id.number < number
  pub of_line : (a : Arrival) → Contains r.arrivals a → a.line ≡ r.lines → a.request.id.conn ≡ connection.conn
  pub after_waiters : (w : Waiter) → Contains r.waiters w → w.request.id.conn ≡ connection.conn → w.request.id.number < number
  pub waiters_of_line : (w : Waiter) → Contains r.waiters w → w.line ≡ r.lines → w.request.id.conn ≡ connection.conn

-- The call is one of the messages of its connection, and may arrive now.
pub record IsNext (r : Run) (request : Request) : Type 0 where
  pub connection : Connection
  pub on : request.id.conn ≡ connection.conn
  pub complete : request.id.number < length (messages_on connection)
  pub may : MayAsk r connection request.id.number
  pub placed : IsPlaced request

-- the runs of scripts, also those between two calls of one line, where partitions are this object
pub data IsRun (o : Object Request Partition) : Run → Type 0 where
  grid_begun : (members backups : ℕ) → 1 ≤ members → IsRun o (begun members backups)
  -- a line that changes nothing
  line_counted : (r : Run) → IsRun o r → IsRun o (next_line r)
  clock_was_set : (r : Run) (member moment : ℕ) → IsRun o r → IsRun o (clock_set r member moment)
  connection_opened : (r : Run) (c member : ℕ) → IsRun o r → connection_of r c ≡ None → IsRun o (opened r c member)
  bytes_taken : (r : Run) (connection : Connection) (bytes : List ℕ) → IsRun o r → connection_of r connection.conn ≡ Some connection → IsRun o (took_bytes r connection bytes)
  -- a connection that was opened registers a listener
  listener_was_registered : (r : Run) (listener : Listener) (connection : Connection) → IsRun o r → connection_of r listener.conn ≡ Some connection → IsRun o (listener_registered r listener)
  answer_told : (r : Run) (c : ℕ) (bytes : List ℕ) → IsRun o r → IsRun o (told r c bytes)
  event_occurred : (r : Run) (p : ℕ) (event : Event Request) → IsRun o r → asked_by event ≡ [] → IsRun o (occurred o r p event)
  -- a call that makes no event and isn't answered
  call_arrived : (r : Run) (member : ℕ) (request : Request) → IsRun o r → IsNext r request → IsRun o (arrived r (arrival_at r member request) [] [])
  run_given_up : (r : Run) → IsRun o r → IsRun o (given_up r)
  call_asked : (skips : List CallId) (r : Run) (own : Option ℕ) (member : ℕ) (request : Request) → IsRun o r → IsNext r request → IsRun o (asked o skips r own (arrival_at r member request))
  -- a waiting call arrives
  waiter_came : (r : Run) (member : ℕ) (request : Request) (deadline : Option ℕ) → IsRun o r → IsNext r request → IsRun o (waits r (record { line = r.lines; member = member; request = request; deadline = deadline }))
  -- its plain call is made, or it is refused, or it leaves without an answer
  waiter_asked : (skips : List CallId) (r : Run) (own : Option ℕ) (w : Waiter) → IsRun o r → Contains r.waiters w → IsRun o (asked o skips (without r w) own (ending r w))
  waiter_refused : (r : Run) (w : Waiter) (why : Reached) → IsRun o r → Contains r.waiters w → IsRun o (arrived (without r w) (ending r w) [] (refused_at r.lines w.request why))
  waiter_left : (r : Run) (w : Waiter) → IsRun o r → Contains r.waiters w → IsRun o (leaves r w)

-- the names of the calls among items, waiting or not
abbrev pub call_in : Item → Option CallId
call_in (Asks request) = Some request.id
call_in (Wait request timeout) = Some request.id
call_in (Register registration) = None
call_in (Reply bytes) = None

abbrev pub calls_in : List Item → List CallId
calls_in items = filter_map call_in items

-- In the midst of a line of bytes: these of its items were handled, in order, and these of their calls found no memory.
pub record IsMidway (o : Object Request Partition) (r : Run) (connection : Connection) (bytes : List ℕ) (done : List Item) (skips : List CallId) (now : Run) : Type 0 where
  pub run : IsRun o now
  pub is : now ≡ handled_all o skips (took_bytes r connection bytes) connection done
  pub own : AreAmong (new_arrivals r now) skips
  pub may : MayAsk now (with_bytes connection bytes) (length (messages_on connection) + length done)
