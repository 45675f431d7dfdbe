-- How a run goes with a near client's machine, event by event.
use Rattle.std.specs.Prelude.{◌≡◌, ◌≢◌, ℕ, ◌≤◌, true, false, List, [], ◌∷◌, ◌++◌, filter, Option, Some, None}
use Rattle.grid_base.specs.declared.calls.Request.{Request}
use Rattle.grid_base.specs.declared.names.CallId.{CallId}
use Rattle.call_engine.specs.Calls.{Settings}
use Rattle.call_engine.specs.Objects.{partition_object}
use Rattle.partition_protocol.specs.World.{is_live}
use Rattle.partition_protocol.specs.Events.{Event}
use Rattle.partition_protocol.specs.Arrivals.{asked_by}
use Rattle.near_protocol.specs.Client.{Said, hit}
use Rattle.near_protocol.specs.Near.{Near, Move, Occurs, LooksUp, Hears, moved}
use Rattle.near_protocol.specs.Claims.{AreNamedOnce}
use Rattle.grid_client.specs.Nears.{Value}
use Rattle.replay_run.specs.Runs.{Run, Connection, Arrival, world_at, connection_of, is_open, call_of, is_skipped, asked, occurred}
use Rattle.near_run_laws.specs.Maps.{keyed, get_request}
use Rattle.near_run_laws.specs.Messages.{sent_to, AreSaid}
use Rattle.near_run_laws.specs.Sessions.{MayGet}
use Rattle.near_run_laws.specs.NearConnections.{is_of, IsRight, IsNear, grid_of, grid_after}

abbrev pub Machine : Type 0
Machine = Near Request (List ℕ) Value

-- The machine has the run's grid, and a near connection of it. What was sent on that connection since its client came is
-- what the machine said: what the client has heard of that, and what it hasn't.
pub record Follows (settings : Settings) (client : ℕ) (name : List ℕ) (r : Run) (s : Machine) : Type 0 where
  pub grid : s.grid ≡ grid_of settings s.conn name client r
  pub near : IsNear r s.conn s.member name
  pub earlier : List (List ℕ)
  pub since : List (List ℕ)
  pub heard : List (Said (List ℕ))
  pub sent : sent_to s.conn r.appended ≡ earlier ++ since
  pub said : AreSaid name since (heard ++ s.unread)

abbrev pub step : Settings → ℕ → List ℕ → Machine → Move Request (List ℕ) → Machine
step settings client name s move = moved (partition_object settings) (keyed settings s.conn name client) s move

-- The connection is there still, to the same member, and open.
abbrev pub StaysOpen : ℕ → Run → Run → Type 0
StaysOpen c r next = (k : Connection) → connection_of r c ≡ Some k → is_open (Some k) ≡ true → (j : Connection) × (connection_of next c ≡ Some j) × (j.member ≡ k.member) × (is_open (Some j) ≡ true)

-- what changes nothing that the machine sees
pub record IsAside (c : ℕ) (r next : Run) : Type 0 where
  pub members : next.members ≡ r.members
  pub backups : next.backups ≡ r.backups
  pub events : next.events ≡ r.events
  pub connection : StaysOpen c r next
  pub registered : filter (is_of c) next.registered ≡ filter (is_of c) r.registered
  pub sent : sent_to c next.appended ≡ sent_to c r.appended

abbrev pub EveryOtherStepIsAside : Type 0
EveryOtherStepIsAside = (settings : Settings) (client : ℕ) (name : List ℕ) (r next : Run) (s : Machine) → Follows settings client name r s → IsAside s.conn r next → Follows settings client name next s

-- an event that is no call
abbrev pub EveryEventIsFollowed : Type 0
EveryEventIsFollowed = (settings : Settings) (client : ℕ) (name : List ℕ) (r : Run) (s : Machine) (p : ℕ) (e : Event Request)
    → 1 ≤ r.members → Follows settings client name r s → asked_by e ≡ [] → AreNamedOnce (grid_after settings s.conn name client r p e)
    → Follows settings client name (occurred (partition_object settings) r p e) (step settings client name s (Occurs p e))

-- a call on another connection
abbrev pub EveryOtherCallIsFollowed : Type 0
EveryOtherCallIsFollowed = (settings : Settings) (client : ℕ) (name : List ℕ) (r : Run) (s : Machine) (own : Option ℕ) (a : Arrival) (skips : List CallId)
    → 1 ≤ r.members → Follows settings client name r s → a.request.id.conn ≢ s.conn → IsRight s.conn s.member a.request.partition (call_of a)
    → AreNamedOnce (grid_after settings s.conn name client r a.request.partition (call_of a)) → is_skipped skips a.request.id ≡ false
    → Follows settings client name (asked (partition_object settings) skips r own a) (step settings client name s (Occurs a.request.partition (call_of a)))

-- A look-up that misses: its get arrives at the connection's member, under the machine's next number.
pub record IsNextGet (settings : Settings) (client : ℕ) (name key : List ℕ) (r : Run) (s : Machine) (a : Arrival) : Type 0 where
  pub may : MayGet name client s.next_number key
  pub member : a.member ≡ s.member
  pub request : a.request ≡ get_request s.conn name client s.next_number key
  pub lives : is_live (world_at (partition_object settings) r a.request.partition) s.member ≡ true

abbrev pub EveryMissIsFollowed : Type 0
EveryMissIsFollowed = (settings : Settings) (client : ℕ) (name key : List ℕ) (r : Run) (s : Machine) (own : Option ℕ) (a : Arrival) (skips : List CallId)
    → 1 ≤ r.members → Follows settings client name r s → IsNextGet settings client name key r s a → hit (keyed settings s.conn name client) key s.client ≡ None
    → AreNamedOnce (grid_after settings s.conn name client r a.request.partition (call_of a)) → is_skipped skips a.request.id ≡ false
    → Follows settings client name (asked (partition_object settings) skips r own a) (step settings client name s (LooksUp key a.now))

-- A look-up that hits is nothing to the run.
abbrev pub EveryHitIsFollowed : Type 0
EveryHitIsFollowed = (settings : Settings) (client : ℕ) (name key : List ℕ) (r : Run) (s : Machine) (now : ℕ) (value : Value)
    → Follows settings client name r s → hit (keyed settings s.conn name client) key s.client ≡ Some value → Follows settings client name r (step settings client name s (LooksUp key now))

-- So is a message that the client hears.
abbrev pub EveryHearingIsFollowed : Type 0
EveryHearingIsFollowed = (settings : Settings) (client : ℕ) (name : List ℕ) (r : Run) (s : Machine) (message : Said (List ℕ)) (rest : List (Said (List ℕ)))
    → Follows settings client name r s → s.unread ≡ message ∷ rest → Follows settings client name r (step settings client name s Hears)
