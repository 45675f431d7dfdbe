-- A near client's own lines leave its run one that goes with the machine.
use Rattle.std.specs.Prelude.{◌≡◌, ℕ, ◌+◌, ◌<◌, ◌≤◌, true, false, List, [], length, Some, None}
use Rattle.grid_base.specs.declared.names.CallId.{CallId}
use Rattle.message_frames.specs.Messages.{messages_of}
use Rattle.session_core.specs.Places.{partition_of_key}
use Rattle.call_engine.specs.Calls.{Settings}
use Rattle.call_engine.specs.Objects.{partition_object}
use Rattle.partition_protocol.specs.World.{is_live}
use Rattle.script_lang.specs.declared.line.Line.TheVariants.{Arrive}
use Rattle.request_codecs.specs.Openings.{opening}
use Rattle.near_protocol.specs.Client.{Said, hit, opened}
use Rattle.near_protocol.specs.Near.{attached}
use Rattle.near_protocol.specs.Claims.{IsNew, AreNamedOnce}
use Rattle.replay_run.specs.Runs.{Run, Connection, connection_of, takes_bytes, world_at, is_full, partitions}
use Rattle.replay_run.specs.AfterLines.{after_line}
use Rattle.near_run_laws.specs.Maps.{keyed}
use Rattle.near_run_laws.specs.NearConnections.{machine_events, grid_of}
use Rattle.near_run_laws.specs.Messages.{sent_to}
use Rattle.near_run_laws.specs.Sessions.{HasSent, MayOpen, MayGet, get_bytes}
use Rattle.near_run_laws.specs.Attaching.{IsFresh}
use Rattle.near_run_laws.specs.Following.{Machine}
use Rattle.near_run_laws.specs.NearRuns.{IsNearRun}
use Rattle.near_run_laws.specs.Lines.{WaitElsewhere}

-- The opening arrives: the client is attached.
abbrev pub EveryOpeningLineIsFollowed : Type 0
EveryOpeningLineIsFollowed = (settings : Settings) (client : ℕ) (name : List ℕ) (r : Run) (k : Connection) (skips : List CallId) (first capacity : ℕ)
    → let next = after_line (partition_object settings) skips r (Arrive k.conn (opening client (Some name))) in
    1 ≤ r.members → k.member < r.members → IsFresh r k → IsNew k.conn (machine_events r.events) → MayOpen client name → takes_bytes (partition_object settings) r k ≡ true
    → IsNearRun settings client name next (attached (partition_object settings) partitions k.member k.conn first capacity (grid_of settings k.conn name client next)) (sent_to k.conn r.appended) []

-- what a look-up finds as it misses: the connection takes bytes, its client has sent as many messages as the machine has numbers, and the partition's member lives and has room; whoever waits is on another connection
pub record MayMiss (settings : Settings) (client : ℕ) (name key : List ℕ) (r : Run) (s : Machine) (k : Connection) : Type 0 where
  pub there : connection_of r s.conn ≡ Some k
  pub member_is : k.member ≡ s.member
  pub sent : HasSent k.conn client k.bytes
  pub number : length (messages_of true k.bytes) ≡ s.next_number
  pub takes : takes_bytes (partition_object settings) r k ≡ true
  pub lives : is_live (world_at (partition_object settings) r (partition_of_key key)) s.member ≡ true
  pub room : is_full (world_at (partition_object settings) r (partition_of_key key)) ≡ false
  pub fits : MayGet name client s.next_number key
  pub elsewhere : WaitElsewhere s.conn r

-- the run after it, with its machine: a look-up is open
pub record HasOpened (settings : Settings) (client : ℕ) (name key : List ℕ) (s : Machine) (earlier : List (List ℕ)) (heard : List (Said (List ℕ))) (next : Run) : Type 0 where
  pub machine : Machine
  pub run : IsNearRun settings client name next machine earlier heard
  pub conn : machine.conn ≡ s.conn
  pub looks : machine.client ≡ opened s.next_number key s.client
  pub number : machine.next_number ≡ s.next_number + 1
  pub elsewhere : WaitElsewhere s.conn next

-- A get arrives, whether it finds memory or not.
abbrev pub EveryGetLineIsFollowed : Type 0
EveryGetLineIsFollowed = (settings : Settings) (client : ℕ) (name key : List ℕ) (r : Run) (s : Machine) (earlier : List (List ℕ)) (heard : List (Said (List ℕ))) (k : Connection) (skips : List CallId)
    → IsNearRun settings client name r s earlier heard → AreNamedOnce s.grid → MayMiss settings client name key r s k → hit (keyed settings s.conn name client) key s.client ≡ None
    → HasOpened settings client name key s earlier heard (after_line (partition_object settings) skips r (Arrive s.conn (get_bytes name client s.next_number key)))
