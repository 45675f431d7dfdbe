-- What a near client does at a look-up is what the machine's does.
use Rattle.std.specs.Prelude.{◌≡◌, ℕ, ◌≤◌, List, length, Some, None}
use Rattle.session_core.specs.Places.{partition_of_key}
use Rattle.call_engine.specs.Calls.{Settings}
use Rattle.near_protocol.specs.Client.{Client}
use Rattle.near_protocol.specs.Client as machine
use Rattle.grid_client.specs.Nears.{Value, hit}
use Rattle.grid_client.specs.Calls.{asked_call}
use Rattle.grid_client.specs.States.{State, target, asking, looked, opening_look_up, get_of}
use Rattle.near_run_laws.specs.Maps.{keyed}
use Rattle.near_run_laws.specs.Clients.{GoesWith}

-- Where the client hits a value the machine's does, and both bring its entry to the front.
abbrev pub EveryHitIsTheMachines : Type 0
EveryHitIsTheMachines = (settings : Settings) (client c : ℕ) (name key : List ℕ) (s : State) (m : Client (List ℕ) Value) (value : Value) (g : GoesWith c name s m) → hit key g.near ≡ Some value
    → (machine.hit (keyed settings c name client) key m ≡ Some value) × GoesWith c name (looked key s) (machine.used (keyed settings c name client) key m)

-- Where it misses, both open a look-up, whose get is sent on the connection under the client's next number.
abbrev pub EveryMissIsTheMachines : Type 0
EveryMissIsTheMachines = (settings : Settings) (client c : ℕ) (name key : List ℕ) (s : State) (m : Client (List ℕ) Value) (g : GoesWith c name s m) → 8 ≤ length key → s.client ≡ client → target (partition_of_key key) s ≡ Some c → hit key g.near ≡ None
    → (machine.hit (keyed settings c name client) key m ≡ None)
    × GoesWith c name (asking (asked_call s.next c (partition_of_key key) (get_of name key client)) (opening_look_up key s)) (machine.opened s.next key m)
