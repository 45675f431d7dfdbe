-- Runs with a near client, made step by step with its machine, and what its hits are worth.
use Rattle.std.specs.Prelude.{◌≡◌, ◌≢◌, ℕ, ◌<◌, ◌≤◌, true, false, List, [], ◌∷◌, ◌++◌, Option, Some, None}
use Rattle.grid_base.specs.declared.calls.Request.{Request}
use Rattle.grid_base.specs.declared.names.CallId.{CallId}
use Rattle.call_engine.specs.Calls.{Settings}
use Rattle.call_engine.specs.Objects.{partition_object}
use Rattle.partition_protocol.specs.Events.{Event}
use Rattle.partition_protocol.specs.Arrivals.{asked_by}
use Rattle.request_codecs.specs.Openings.{opening}
use Rattle.near_protocol.specs.Client.{Said, hit}
use Rattle.near_protocol.specs.Near.{Occurs, LooksUp, LooksUpInVain, Hears, attached}
use Rattle.near_protocol.specs.Claims.{IsNew, AreNamedOnce, IsHit}
use Rattle.grid_client.specs.Nears.{Value}
use Rattle.replay_run.specs.Runs.{Run, Connection, Arrival, partitions, call_of, is_skipped, asked, occurred}
use Rattle.near_run_laws.specs.Maps.{keyed, get_request}
use Rattle.near_run_laws.specs.Messages.{sent_to}
use Rattle.near_run_laws.specs.NearConnections.{IsRight, machine_events, grid_of}
use Rattle.near_run_laws.specs.Sessions.{MayOpen, MayGet, near_opened}
use Rattle.near_run_laws.specs.Attaching.{IsFresh}
use Rattle.near_run_laws.specs.Following.{Machine, Follows, step, IsAside, IsNextGet}

-- The runs of lines that a near client of a map came to, with its machine; with what had been sent on its connection before that,
-- and with what the client has heard since. The first number is that of its first get.
pub data IsNearRun (settings : Settings) (client : ℕ) (name : List ℕ) : Run → Machine → List (List ℕ) → List (Said (List ℕ)) → Type 0 where
  -- its opening arrives
  client_came : (r : Run) (k : Connection) (first capacity : ℕ) → 1 ≤ r.members → k.member < r.members → IsFresh r k → IsNew k.conn (machine_events r.events) → MayOpen client name
      → IsNearRun settings client name (near_opened (partition_object settings) r k name (opening client (Some name)))
      (attached (partition_object settings) partitions k.member k.conn first capacity (grid_of settings k.conn name client (near_opened (partition_object settings) r k name (opening client (Some name)))))
      (sent_to k.conn r.appended) []
  -- something that its machine doesn't see
  went_aside : (r next : Run) (s : Machine) (earlier : List (List ℕ)) (heard : List (Said (List ℕ))) → IsNearRun settings client name r s earlier heard → IsAside s.conn r next → IsNearRun settings client name next s earlier heard
  -- an event that is no call, or a call on another connection
  event_happened : (r : Run) (s : Machine) (earlier : List (List ℕ)) (heard : List (Said (List ℕ))) (p : ℕ) (e : Event Request) → IsNearRun settings client name r s earlier heard → asked_by e ≡ []
      → IsNearRun settings client name (occurred (partition_object settings) r p e) (step settings client name s (Occurs p e)) earlier heard
  call_arrived : (r : Run) (s : Machine) (earlier : List (List ℕ)) (heard : List (Said (List ℕ))) (own : Option ℕ) (a : Arrival) (skips : List CallId) → IsNearRun settings client name r s earlier heard → a.request.id.conn ≢ s.conn → IsRight s.conn s.member a.request.partition (call_of a)
      → is_skipped skips a.request.id ≡ false → IsNearRun settings client name (asked (partition_object settings) skips r own a) (step settings client name s (Occurs a.request.partition (call_of a))) earlier heard
  -- the client looks a key up, and misses or hits
  client_missed : (r : Run) (s : Machine) (earlier : List (List ℕ)) (heard : List (Said (List ℕ))) (key : List ℕ) (own : Option ℕ) (a : Arrival) (skips : List CallId) → IsNearRun settings client name r s earlier heard → IsNextGet settings client name key r s a
      → hit (keyed settings s.conn name client) key s.client ≡ None → is_skipped skips a.request.id ≡ false
      → IsNearRun settings client name (asked (partition_object settings) skips r own a) (step settings client name s (LooksUp key a.now)) earlier heard
  -- its get finds no memory
  client_missed_in_vain : (r : Run) (s : Machine) (earlier : List (List ℕ)) (heard : List (Said (List ℕ))) (key : List ℕ) (own : Option ℕ) (a : Arrival) (skips : List CallId) → IsNearRun settings client name r s earlier heard → MayGet name client s.next_number key
      → a.request ≡ get_request s.conn name client s.next_number key → hit (keyed settings s.conn name client) key s.client ≡ None → is_skipped skips a.request.id ≡ true
      → IsNearRun settings client name (asked (partition_object settings) skips r own a) (step settings client name s (LooksUpInVain key)) earlier heard
  client_hit : (r : Run) (s : Machine) (earlier : List (List ℕ)) (heard : List (Said (List ℕ))) (key : List ℕ) (value : Value) (now : ℕ) → IsNearRun settings client name r s earlier heard → hit (keyed settings s.conn name client) key s.client ≡ Some value
      → IsNearRun settings client name r (step settings client name s (LooksUp key now)) earlier heard
  -- it hears the next message
  client_heard : (r : Run) (s : Machine) (earlier : List (List ℕ)) (heard : List (Said (List ℕ))) (message : Said (List ℕ)) (rest : List (Said (List ℕ))) → IsNearRun settings client name r s earlier heard → s.unread ≡ message ∷ rest
      → IsNearRun settings client name r (step settings client name s Hears) earlier (heard ++ message ∷ [])

-- The machine goes with the run, and each of its hits stands: `IsHit` says what holds of it.
pub record GoesWell (settings : Settings) (client : ℕ) (name : List ℕ) (r : Run) (s : Machine) : Type 0 where
  pub members : 1 ≤ r.members
  pub follows : Follows settings client name r s
  pub hits : (key : List ℕ) (value : Value) → hit (keyed settings s.conn name client) key s.client ≡ Some value → IsHit (partition_object settings) (keyed settings s.conn name client) s key value

abbrev pub EveryNearRunGoesWell : Type 0
EveryNearRunGoesWell = (settings : Settings) (client : ℕ) (name : List ℕ) (r : Run) (s : Machine) (earlier : List (List ℕ)) (heard : List (Said (List ℕ))) → IsNearRun settings client name r s earlier heard → AreNamedOnce s.grid → GoesWell settings client name r s
