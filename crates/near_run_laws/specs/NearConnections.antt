-- Near connections in a run, and what each event says on one.
use Rattle.std.specs.Prelude.{◌≡◌, ℕ, ◌<◌, ◌≤◌, true, ◌==◌, Bool, List, [], map, filter, Option, Some, Contains}
use Rattle.grid_base.specs.declared.calls.GridCall.TheVariants.{Map}
use Rattle.grid_base.specs.declared.calls.MapCall.TheVariants.{Get}
use Rattle.grid_base.specs.declared.calls.Request.{Request}
use Rattle.grid_base.specs.declared.names.Owner.{Owner}
use Rattle.message_frames.specs.Assembly.{most_messages}
use Rattle.map_codecs.specs.Calls.{get_kind}
use Rattle.call_engine.specs.Calls.{Settings}
use Rattle.call_engine.specs.Objects.{partition_object}
use Rattle.partition_protocol.specs.Events.{Event, Call}
use Rattle.partition_protocol.specs.Arrivals.{asked_by}
use Rattle.listeners.specs.declared.listener.Listener.{Listener}
use Rattle.near_protocol.specs.Near.{At as MachineAt, Grid, new_grid, world, happened, all_happened, said_by}
use Rattle.near_protocol.specs.Claims.{AreNamedOnce}
use Rattle.grid_client.specs.Calls.{correlation_of}
use Rattle.replay_run.specs.Runs.{Run, Connection, Arrival, At, events_at, connection_of, is_open, call_of, happening, given_out}
use Rattle.replay_run.specs.ScriptRuns.{home}
use Rattle.near_run_laws.specs.Maps.{keyed}
use Rattle.near_run_laws.specs.Messages.{sent_to, near_listeners, AreSaid}

-- the machine's grid of a run, for a near client of a map on a connection

abbrev pub machine_events : List At → List (MachineAt Request)
machine_events events = map (λ (e : At). record { partition = e.partition; event = e.event }) events

abbrev pub grid_of : Settings → ℕ → List ℕ → ℕ → Run → Grid Request (List ℕ)
grid_of settings c name client r = all_happened (partition_object settings) (keyed settings c name client) (new_grid r.members r.backups) (machine_events r.events)

-- and with one event more
abbrev pub grid_after : Settings → ℕ → List ℕ → ℕ → Run → ℕ → Event Request → Grid Request (List ℕ)
grid_after settings c name client r p e = happened (partition_object settings) (keyed settings c name client) (grid_of settings c name client r) p e

abbrev pub is_of : ℕ → Listener → Bool
is_of c listener = listener.conn == c

-- the get of a key, by the number of its message
pub record IsGet (number : ℕ) (request : Request) : Type 0 where
  pub map : List ℕ
  pub key : List ℕ
  pub owner : Owner
  pub call : request.call ≡ Map (Get map key owner)
  pub kind : request.kind ≡ get_kind
  pub correlation : request.correlation ≡ correlation_of number
  pub small : number < most_messages

-- A call is in the partition of its object. One on the near connection is a get that reaches that connection's member.
abbrev pub IsRight : ℕ → ℕ → ℕ → Event Request → Type 0
IsRight c m p (Call k conn number request now) = (home request ≡ p) × (conn ≡ c → (k ≡ m) × IsGet number request)
IsRight c m p event = Unit {0}

-- A connection to a member, which is open, on which a client listens to the invalidations of a map and to rows, and to nothing else.
pub record IsNear (r : Run) (c m : ℕ) (name : List ℕ) : Type 0 where
  pub connection : Connection
  pub there : connection_of r c ≡ Some connection
  pub member : connection.member ≡ m
  pub opened : is_open (Some connection) ≡ true
  pub listens : filter (is_of c) r.registered ≡ near_listeners c name
  pub events : (p : ℕ) (e : Event Request) → Contains (events_at p r.events) e → IsRight c m p e

-- What an event brings to a near connection is what the machine says at it, message by message and in order.

abbrev pub EveryCallSays : Type 0
EveryCallSays = (settings : Settings) (r : Run) (c m : ℕ) (name : List ℕ) (client : ℕ) (own : Option ℕ) (a : Arrival)
    → let p = a.request.partition in
    let next = grid_after settings c name client r p (call_of a) in
    1 ≤ r.members → IsNear r c m name → IsRight c m p (call_of a) → AreNamedOnce next
    → AreSaid name (sent_to c (happening (partition_object settings) r own a)) (said_by (partition_object settings) m c (world (partition_object settings) (grid_of settings c name client r) p) next.changes p (call_of a))

abbrev pub EveryEventSays : Type 0
EveryEventSays = (settings : Settings) (r : Run) (c m : ℕ) (name : List ℕ) (client p : ℕ) (e : Event Request)
    → let next = grid_after settings c name client r p e in
    1 ≤ r.members → IsNear r c m name → asked_by e ≡ [] → AreNamedOnce next
    → AreSaid name (sent_to c (given_out (partition_object settings) r p e)) (said_by (partition_object settings) m c (world (partition_object settings) (grid_of settings c name client r) p) next.changes p e)
