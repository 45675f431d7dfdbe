-- A near client comes to the grid: after its opening it is attached, as the machine's is.
use Rattle.std.specs.Prelude.{◌≡◌, ℕ, ◌<◌, ◌≤◌, List, [], ◌∷◌, ◌++◌, filter, Some, Contains}
use Rattle.grid_base.specs.declared.calls.Request.{Request}
use Rattle.call_engine.specs.Calls.{Settings}
use Rattle.call_engine.specs.Objects.{partition_object}
use Rattle.partition_protocol.specs.Events.{Event}
use Rattle.request_codecs.specs.Openings.{opening}
use Rattle.near_protocol.specs.Near.{attached}
use Rattle.grid_client.specs.Nears.{Value}
use Rattle.replay_run.specs.Runs.{Run, Connection, events_at, connection_of, partitions}
use Rattle.near_run_laws.specs.Messages.{sent_to, AreSaid}
use Rattle.near_run_laws.specs.NearConnections.{is_of, IsRight, IsNear, grid_of}
use Rattle.near_run_laws.specs.Sessions.{MayOpen, near_opened}

-- Nothing arrived on the connection, and nobody listens on it.
pub record IsFresh (r : Run) (k : Connection) : Type 0 where
  pub there : connection_of r k.conn ≡ Some k
  pub empty : k.bytes ≡ []
  pub silent : filter (is_of k.conn) r.registered ≡ []
  pub events : (p : ℕ) (e : Event Request) → Contains (events_at p r.events) e → IsRight k.conn k.member p e

-- The opening is answered three times, and then the client is told all rows that its member knows, as the machine's is.
pub record IsAttached (settings : Settings) (r : Run) (k : Connection) (client : ℕ) (name : List ℕ) (next : Run) : Type 0 where
  pub near : IsNear next k.conn k.member name
  pub first : List ℕ
  pub second : List ℕ
  pub third : List ℕ
  pub rows : List ℕ
  pub sent : sent_to k.conn next.appended ≡ sent_to k.conn r.appended ++ first ∷ second ∷ third ∷ rows ∷ []
  pub told : (number capacity : ℕ) → AreSaid name (rows ∷ []) (attached {V = Value} (partition_object settings) partitions k.member k.conn number capacity (grid_of settings k.conn name client next)).unread

abbrev pub EveryOpeningAttaches : Type 0
EveryOpeningAttaches = (settings : Settings) (r : Run) (k : Connection) (client : ℕ) (name : List ℕ) → 1 ≤ r.members → k.member < r.members → IsFresh r k → MayOpen client name
    → IsAttached settings r k client name (near_opened (partition_object settings) r k name (opening client (Some name)))
