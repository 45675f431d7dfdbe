-- What a hit of a near client is worth.
use Rattle.std.specs.Prelude.{◌≡◌, ℕ, List, Some}
use Rattle.call_engine.specs.Calls.{Settings}
use Rattle.call_engine.specs.Objects.{partition_object}
use Rattle.near_protocol.specs.Client.{Said}
use Rattle.near_protocol.specs.Claims.{AreNamedOnce, IsHit}
use Rattle.grid_client.specs.Nears.{Value, hit}
use Rattle.grid_client.specs.States.{State}
use Rattle.replay_run.specs.Runs.{Run}
use Rattle.near_run_laws.specs.Maps.{keyed}
use Rattle.near_run_laws.specs.Following.{Machine}
use Rattle.near_run_laws.specs.NearRuns.{IsNearRun}
use Rattle.near_run_laws.specs.Clients.{GoesWith}

-- Where the client goes with the machine of a run, a value that it hits is a hit of the run: `IsHit` says what holds of it.
abbrev pub EveryHitOfANearClientStands : Type 0
EveryHitOfANearClientStands = (settings : Settings) (client : ℕ) (name key : List ℕ) (r : Run) (s : Machine) (earlier : List (List ℕ)) (heard : List (Said (List ℕ))) (st : State) (value : Value)
    → IsNearRun settings client name r s earlier heard → AreNamedOnce s.grid → (g : GoesWith s.conn name st s.client) → hit key g.near ≡ Some value
    → IsHit (partition_object settings) (keyed settings s.conn name client) s key value
