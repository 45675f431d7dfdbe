-- The run of a script with its near clients, and what a line does to them. To the grid a near client is a client: the bytes that it sends arrive on its connection.
use Rattle.std.specs.Prelude.{ℕ, ◌&&◌, Bool, true, false, not, nat_lt, if◌then◌else◌, List, [], ◌∷◌, ◌++◌, length, Option, Some, None, is_some}
use Rattle.std.specs.List.{find}
use Rattle.std.specs.Str.{is_utf8}
use Rattle.grid_base.specs.Objects.{Object}
use Rattle.grid_base.specs.declared.calls.Request.{Request}
use Rattle.grid_client.specs.Lists.{changed_by}
use Rattle.grid_client.specs.Nears.{Value}
use Rattle.script_lang.specs.declared.line.Line.{Line}
use Rattle.script_lang.specs.declared.line.Line.TheVariants.{Arrive, Near, NearGet, NearFeed, Comment}
use Rattle.replay_run.specs.Runs.{Run, Connection, connection_of, is_open, takes_bytes}
use Rattle.replay_run.specs.Runs as grid
use Rattle.masters_protocol.specs.Machine.{Masters}
use Rattle.masters_world.specs.Decisions.{Decision}
use Rattle.masters_run.specs.Runs.{RuledRun}
use Rattle.script_run.specs.NearClients.{NearClient, is_near, opening_of, new_near, value_kept, used, get_sent, missed, fed}

-- the run of the grid; the masters of its partitions, where its table service runs on its members; and the near clients in the order in which they came
pub record ScriptRun : Type 0 where
  pub run : Run
  pub masters : List (Masters Decision)
  pub nears : List NearClient

-- after the first line
abbrev pub begun : ℕ → ℕ → ScriptRun
begun members backups = record { run = grid.begun members backups; masters = []; nears = [] }

-- the grid, with its masters
abbrev pub ruled_of : ScriptRun → RuledRun
ruled_of s = record { run = s.run; masters = s.masters }

-- the client of a near connection
abbrev pub near_of : ScriptRun → ℕ → Option NearClient
near_of s c = find (is_near c) s.nears

abbrev pub is_near_connection : ScriptRun → ℕ → Bool
is_near_connection s c = is_some (near_of s c)

-- what the lines need

abbrev pub is_silent : List ℕ → Bool
is_silent [] = true
is_silent (byte ∷ bytes) = false

-- The connection is open, and no byte has arrived on it.
abbrev pub is_new : Option Connection → Bool
is_new None = false
is_new (Some k) = is_open (Some k) && is_silent k.bytes

-- `near C NAME CAP`: it is no near connection yet, and the name is one.
abbrev pub can_begin : ScriptRun → ℕ → List ℕ → Bool
can_begin s c name = not (is_near_connection s c) && (is_new (connection_of s.run c) && is_utf8 name)

-- Bytes can arrive on the connection: it is open, and its member lives.
abbrev pub takes : {State : Type 0} → Object Request State → Run → Option Connection → Bool
takes o r None = false
takes o r (Some k) = takes_bytes o r k

-- what a look-up comes to: it isn't made, a value is kept for the key, or none is
pub data Look : Type 0 where
  Unmade : Look
  Hit : (n : NearClient) (value : Value) → Look
  Miss : (n : NearClient) → Look

abbrev pub look_at : NearClient → Option Value → Look
look_at n (Some value) = Hit n value
look_at n None = Miss n

abbrev pub look_of : List ℕ → Option NearClient → Look
look_of key None = Unmade
look_of key (Some n) = look_at n (value_kept n key)

-- the key has eight bytes at least, and bytes can arrive on the connection
abbrev pub may_look : {State : Type 0} → Object Request State → ScriptRun → ℕ → List ℕ → Bool
may_look o s c key = not (nat_lt (length key) 8) && takes o s.run (connection_of s.run c)

-- `nearget C KEY`
abbrev pub look : {State : Type 0} → Object Request State → ScriptRun → ℕ → List ℕ → Look
look o s c key = if may_look o s c key then look_of key (near_of s c) else Unmade

-- what a line is to the grid

abbrev pub asked_line : ℕ → List ℕ → Look → Line
asked_line c key Unmade = Comment
asked_line c key (Hit n value) = Comment
asked_line c key (Miss n) = Arrive c (get_sent n key).request

-- The opening arrives, or the get of a look-up that misses. A near connection takes no other bytes.
abbrev pub grid_line : {State : Type 0} → Object Request State → ScriptRun → Line → Line
grid_line o s (Near c name capacity) = if can_begin s c name then Arrive c (opening_of c name) else Comment
grid_line o s (NearGet c key) = asked_line c key (look o s c key)
grid_line o s (NearFeed c most) = Comment
grid_line o s (Arrive c bytes) = if is_near_connection s c then Comment else Arrive c bytes
grid_line o s line = line

-- what a line is to the near clients

abbrev pub changed : ℕ → (NearClient → NearClient) → List NearClient → List NearClient
changed c change nears = changed_by (is_near c) change nears

abbrev pub after_look : ℕ → List ℕ → Look → List NearClient → List NearClient
after_look c key Unmade nears = nears
after_look c key (Hit n value) nears = changed c (used key) nears
after_look c key (Miss n) nears = changed c (missed key) nears

abbrev pub nears_by : {State : Type 0} → Object Request State → ScriptRun → Line → List NearClient
nears_by o s (Near c name capacity) = if can_begin s c name then s.nears ++ new_near c name capacity ∷ [] else s.nears
nears_by o s (NearGet c key) = after_look c key (look o s c key) s.nears
nears_by o s (NearFeed c most) = changed c (fed most) s.nears
nears_by o s line = s.nears
