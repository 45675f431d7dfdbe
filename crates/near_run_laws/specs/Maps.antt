-- What a map is to the machine of a near client, where partitions are those of the grid.
use Rattle.std.specs.Prelude.{ℕ, false, bytes_eq, if◌then◌else◌, List, [], ◌∷◌, Option, Some, None}
use Rattle.grid_base.specs.declared.calls.Change.{Change}
use Rattle.grid_base.specs.declared.calls.Request.{Request}
use Rattle.message_frames.specs.Messages.{messages_of}
use Rattle.message_frames.specs.declared.message.Message.{Message}
use Rattle.session_core.specs.Places.{partition_of_key}
use Rattle.object_store.specs.Partitions.{Partition}
use Rattle.call_engine.specs.Calls.{Settings}
use Rattle.call_engine.specs.Objects.{partition_object}
use Rattle.request_codecs.specs.Requests.{kind_of_call}
use Rattle.near_protocol.specs.Keyed.{Keyed, IsKeyed}
use Rattle.grid_client.specs.Nears.{Value}
use Rattle.grid_client.specs.Calls.{correlation_of}
use Rattle.grid_client.specs.Messages.{value_of}
use Rattle.grid_client.specs.States.{get_of}
use Rattle.grid_client.specs.Ties.{GoesByKeys}
use Rattle.replay_run.specs.Changes.{change_by}
use Rattle.replay_run.specs.Runs.{partitions}

-- the value that the first message of a reply brings
abbrev pub value_said : List Message → Option Value
value_said [] = None
value_said (message ∷ messages) = value_of message

abbrev pub value_in : List ℕ → Option Value
value_in reply = value_said (messages_of false reply)

-- the get of a key, as the session hears it under a number
abbrev pub get_request : ℕ → List ℕ → ℕ → ℕ → List ℕ → Request
get_request conn name client number key = record {
  id = record { conn = conn; number = number };
  correlation = correlation_of number;
  kind = kind_of_call (get_of name key client);
  partition = partition_of_key key;
  call = get_of name key client;
}

-- the key of a change, where that is one of this map
abbrev pub key_changed : List ℕ → Option Change → Option (List ℕ)
key_changed name None = None
key_changed name (Some change) = if bytes_eq name change.name then Some change.key else None

-- the map of that name, to the client of that number on a connection
abbrev pub keyed : Settings → ℕ → List ℕ → ℕ → Keyed Request Partition (List ℕ) Value
keyed settings conn name client = record {
  same = bytes_eq;
  partition = partition_of_key;
  get = get_request conn name client;
  value_in = value_in;
  altered = λ s r now. key_changed name (change_by (partition_object settings) s r now);
}

-- Each map is one that the machine can go by.
abbrev pub EveryMapIsKeyed : Type 0
EveryMapIsKeyed = (settings : Settings) (conn : ℕ) (name : List ℕ) (client : ℕ)
    → IsKeyed (partition_object settings) (keyed settings conn name client) partitions × GoesByKeys (keyed settings conn name client)
