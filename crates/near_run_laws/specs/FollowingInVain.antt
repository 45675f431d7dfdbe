-- A look-up that misses, and whose get finds no memory.
use Rattle.std.specs.Prelude.{◌≡◌, ℕ, true, List, Option, None}
use Rattle.grid_base.specs.declared.names.CallId.{CallId}
use Rattle.call_engine.specs.Calls.{Settings}
use Rattle.call_engine.specs.Objects.{partition_object}
use Rattle.near_protocol.specs.Client.{hit}
use Rattle.near_protocol.specs.Near.{LooksUpInVain}
use Rattle.replay_run.specs.Runs.{Run, Arrival, is_skipped, asked}
use Rattle.near_run_laws.specs.Maps.{keyed, get_request}
use Rattle.near_run_laws.specs.Following.{Machine, Follows, step}

-- It makes no event, and the client is told so.
abbrev pub EveryMissInVainIsFollowed : Type 0
EveryMissInVainIsFollowed = (settings : Settings) (client : ℕ) (name key : List ℕ) (r : Run) (s : Machine) (own : Option ℕ) (a : Arrival) (skips : List CallId)
    → Follows settings client name r s → a.request ≡ get_request s.conn name client s.next_number key → hit (keyed settings s.conn name client) key s.client ≡ None
    → is_skipped skips a.request.id ≡ true
    → Follows settings client name (asked (partition_object settings) skips r own a) (step settings client name s (LooksUpInVain key))
