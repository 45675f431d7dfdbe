-- The client of a near connection, and what it does at the lines of a script.
use Rattle.std.specs.Prelude.{ℕ, ◌+◌, ◌==◌, Bool, List, [], ◌++◌, take, drop, Option, Some, option_and_then}
use Rattle.std.specs.Option.{option_map_or}
use Rattle.session_core.specs.Places.{partition_of_key}
use Rattle.request_codecs.specs.Openings.{opening}
use Rattle.grid_client.specs.Nears.{Near, Value, hit}
use Rattle.grid_client.specs.Calls.{asked_call}
use Rattle.grid_client.specs.States.{State, new_client, attached, asking, looked, opening_look_up, get_of}
use Rattle.grid_client.specs.Hearing.{Told, told_by_piece}
use Rattle.grid_client.specs.declared.calls.Call.{Call}

-- A near connection: its number; the client on it; the bytes of the connection's output that the client was handed, and those that it wasn't handed yet
pub record NearClient : Type 0 where
  pub conn : ℕ
  pub state : State
  pub read : List ℕ
  pub unread : List ℕ

abbrev pub is_near : ℕ → NearClient → Bool
is_near c n = n.conn == c

-- beginning

-- by which number the client of a near connection makes itself known
abbrev pub client_number : ℕ → ℕ
client_number c = 1000 + c

-- what arrives on the connection at once
abbrev pub opening_of : ℕ → List ℕ → List ℕ
opening_of c name = opening (client_number c) (Some name)

abbrev pub new_near : ℕ → List ℕ → ℕ → NearClient
new_near c name capacity = record {
  conn = c;
  state = attached c (new_client (client_number c) (Some (name, capacity)));
  read = [];
  unread = [];
}

-- looking up

abbrev pub value_kept : NearClient → List ℕ → Option Value
value_kept n key = option_and_then (hit key) n.state.near

-- a hit: the entry comes to the front
abbrev pub used : List ℕ → NearClient → NearClient
used key n = record n { state = looked key n.state }

-- the name of the client's map
abbrev pub map_name : NearClient → List ℕ
map_name n = option_map_or (λ (near : Near). near.name) n.state.near []

-- a miss: the get of the key, with the next number
abbrev pub get_sent : NearClient → List ℕ → Call
get_sent n key = asked_call n.state.next n.conn (partition_of_key key) (get_of (map_name n) key n.state.client)

-- a look-up is open, and its get waits for the answer
abbrev pub missed : List ℕ → NearClient → NearClient
missed key n = record n { state = asking (get_sent n key) (opening_look_up key n.state) }

-- reading

-- the next bytes of the output, up to so many
abbrev pub piece : ℕ → NearClient → List ℕ
piece most n = take most n.unread

-- what the client makes of them
abbrev pub told : ℕ → NearClient → Told
told most n = told_by_piece n.conn n.read (piece most n) n.state

abbrev pub fed : ℕ → NearClient → NearClient
fed most n = record {
  conn = n.conn;
  state = (told most n).after;
  read = n.read ++ piece most n;
  unread = drop most n.unread;
}
