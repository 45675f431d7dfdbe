-- What a value is worth that a near client of a script hits: which get brought it, and what stands before that get.
use Rattle.std.specs.Prelude.{◌≡◌, ℕ, ◌^◌, ◌<◌, ◌≤◌, ◌⊎◌, false, ℤ, List, length, Some, Ok, Contains}
use Rattle.grid_base.specs.declared.calls.Request.{Request}
use Rattle.grid_base.specs.declared.names.CallId.{CallId}
use Rattle.message_frames.specs.Assembly.{most_messages}
use Rattle.message_frames.specs.Messages.{messages_of}
use Rattle.message_frames.specs.declared.message.Message.{Message}
use Rattle.session_core.specs.Places.{partition_of_key}
use Rattle.event_codecs.specs.Events.{event_of}
use Rattle.event_codecs.specs.declared.events.ClientEvent.TheVariants.{Invalidation, Rows}
use Rattle.event_codecs.specs.declared.seen.SeenRow.{SeenRow}
use Rattle.call_engine.specs.Calls.{Settings}
use Rattle.call_engine.specs.Objects.{partition_object}
use Rattle.partition_protocol.specs.History.{Executed, Entry, Called, Reset}
use Rattle.partition_protocol.specs.World.{World, trail}
use Rattle.partition_protocol.specs.NamedStates.{effect_call}
use Rattle.near_protocol.specs.Near.{known_version, name_of}
use Rattle.near_protocol.specs.Claims.{Before, WasReleased, Changed}
use Rattle.grid_client.specs.Nears.{Value}
use Rattle.grid_client.specs.Hearing.{messages_by}
use Rattle.script_lang.specs.Limits.{most_lines, most_line_bytes}
use Rattle.script_lang.specs.Lines.{IsWithin}
use Rattle.script_lang.specs.declared.line.Line.{Line}
use Rattle.replay_run.specs.Runs.{Run, Connection, connection_of, world_at}
use Rattle.near_run_laws.specs.Maps.{get_request, value_in}
use Rattle.near_run_laws.specs.Messages.{sent_to}
use Rattle.near_run_laws.specs.NearConnections.{grid_of}
use Rattle.script_run.specs.NearClients.{NearClient, map_name, value_kept}
use Rattle.script_run.specs.Runs.{ScriptRun, near_of}
use Rattle.script_run.specs.Laws.{run_with}

-- ---- the partition of a key

-- its world
abbrev pub world_of : Settings → Run → List ℕ → World Request
world_of settings r key = world_at (partition_object settings) r (partition_of_key key)

-- what stands of the calls that it executed, in order, and of its resets
abbrev pub trail_of : Settings → Run → List ℕ → List (Entry Request)
trail_of settings r key = trail (world_of settings r key)

-- The call changed the key's value in the client's map.
abbrev pub ChangedKey : Settings → Run → NearClient → List ℕ → Executed Request → Type 0
ChangedKey settings r n key write = Changed (grid_of settings n.conn (map_name n) n.state.client r) (partition_of_key key) key write

-- ---- messages to the client

-- those that it was handed whole
abbrev pub heard_by : NearClient → List Message
heard_by n = messages_of false n.read

-- and those that were sent to it and that it wasn't handed whole yet
abbrev pub unheard_by : NearClient → List Message
unheard_by n = messages_by n.read n.unread

-- The message is an invalidation of the key in a map, by the write that was executed in that version and saw that count.
abbrev pub Invalidates : List ℕ → List ℕ → ℕ → ℕ → Message → Type 0
Invalidates name key version number message =
    (correlation : ℤ) × ((partition : ℤ) × (event_of message ≡ Ok (Invalidation correlation partition version number name key)))

-- It tells a row of the key's partition.
abbrev pub TellsRow : List ℕ → Message → Type 0
TellsRow key message =
    (correlation : ℤ) × ((rows : List SeenRow) × (event_of message ≡ Ok (Rows correlation rows)) × ((row : SeenRow) × Contains rows row × (row.partition ≡ partition_of_key key)))

abbrev pub SpeaksOf : List ℕ → List ℕ → Message → Type 0
SpeaksOf name key message = ((version : ℕ) × ((number : ℕ) × Invalidates name key version number message)) ⊎ TellsRow key message

-- No message speaks of the key that was sent to the client and that it hasn't heard.
abbrev pub HasRead : NearClient → List ℕ → Type 0
HasRead n key = (message : Message) → Contains (unheard_by n) message → SpeaksOf (map_name n) key message → ⊥

-- ---- a hit

-- The get stands after the write that an invalidation of the key names: the first call of its partition that was executed in that
-- version and saw that count.
pub record IsAfterNamed (settings : Settings) (r : Run) (n : NearClient) (key : List ℕ) (version number : ℕ) (get : Executed Request) : Type 0 where
  pub write : Executed Request
  pub named : effect_call (world_of settings r key) version number ≡ Some write
  pub changed : ChangedKey settings r n key write
  pub before : Before (trail_of settings r key) (Called write) (Called get)

-- a write of the key that stands and was answered, of a version up to this one
pub record IsAnsweredWrite (settings : Settings) (r : Run) (n : NearClient) (key : List ℕ) (newest : ℕ) (write : Executed Request) : Type 0 where
  pub changed : ChangedKey settings r n key write
  pub stands : Contains (trail_of settings r key) (Called write)
  pub released : WasReleased (world_of settings r key) (name_of write)
  pub known : write.version ≤ newest

-- of a value that the client hits for a key
pub record HitStands (settings : Settings) (r : Run) (n : NearClient) (key : List ℕ) (value : Value) : Type 0 where
  -- It is the reply to a get of the key that the client sent, which was executed and answered, and stands in the trail of the key's partition.
  pub get : Executed Request
  pub conn : get.conn ≡ n.conn
  pub call : get.call ≡ get_request n.conn (map_name n) n.state.client get.number key
  pub says : value_in get.reply ≡ Some value
  pub released : WasReleased (world_of settings r key) (name_of get)
  pub stands : Contains (trail_of settings r key) (Called get)
  -- It stands after the write that an invalidation of the key names, whichever of those the client has heard.
  pub after : (message : Message) (version number : ℕ) → Contains (heard_by n) message → Invalidates (map_name n) key version number message
      → IsAfterNamed settings r n key version number get
  -- Where the client has read all that was sent to it of the key, it stands after each answered write of a version up to the one that
  -- the client's member knows, and after each reset.
  pub connection : Connection
  pub there : connection_of r n.conn ≡ Some connection
  pub fresh : HasRead n key → (write : Executed Request) → IsAnsweredWrite settings r n key (known_version connection.member (world_of settings r key)) write
      → Before (trail_of settings r key) (Called write) (Called get)
  pub reopened : HasRead n key → (version : ℕ) → Contains (trail_of settings r key) (Reset version) → version ≤ known_version connection.member (world_of settings r key)
      → Before (trail_of settings r key) (Reset version) (Called get)

-- What each near client keeps stands, where the run isn't given up, and the client was sent no more messages than it can number. `nearget`
-- hits the value that the client of its connection keeps for its key.
abbrev pub HitsStand : Settings → ScriptRun → Type 0
HitsStand settings s = s.run.full ≡ false → (conn : ℕ) (n : NearClient) → near_of s conn ≡ Some n → length (sent_to conn s.run.appended) ≤ most_messages
    → (key : List ℕ) (value : Value) → value_kept n key ≡ Some value → HitStands settings s.run n key value

-- ---- scripts

-- lines behind the first, as a script can have them: each within its grammar, and no more than a script may have
pub record AreLines (members : ℕ) (lines : List Line) : Type 0 where
  pub each : (line : Line) → Contains lines line → IsWithin members most_line_bytes line
  pub few : length lines < most_lines

-- whatever the processors, the queues' capacity, the lines, and the calls that find no memory
abbrev pub EveryHitOfAScriptStands : Type 0
EveryHitOfAScriptStands = (settings : Settings) (members backups : ℕ) (skips : List CallId) (lines : List Line) → 1 ≤ members → members < 2 ^ 8 → AreLines members lines
    → HitsStand settings (run_with settings members backups skips lines)
