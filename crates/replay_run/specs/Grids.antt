-- The grid of the code stands for a run: its worlds for the events of their partitions, its table for the connections and the calls.
use Rattle.std.specs.Prelude.{◌≡◌, ◌≢◌, ℕ, ◌+◌, ◌*◌, ◌<◌, ◌≤◌, ◌==◌, ◌&&◌, Bool, true, false, List, [], ◌++◌, length, map, filter, count_by, Option, Some, None, option_map, slice_get, Contains}
use Rattle.std.specs.declared.alloc.Global.{Global}
use Rattle.std.specs.declared.dyn_box.DynBox.{DynBox}
use Rattle.entry_processors.specs.Processors.{ProcessorForm}
use Rattle.grid_base.specs.Limits.{CallFits}
use Rattle.grid_base.specs.declared.names.CallId.{CallId}
use Rattle.grid_base.specs.declared.calls.Request.{Request}
use Rattle.partition_protocol.specs.Events.{Event}
use Rattle.partition_world.specs.declared.world.World.{World}
use Rattle.partition_world.specs.Worlds.{StandsFor, setup_of, waiting}
use Rattle.replay_run.specs.declared.connections.CallLines.{CallLines}
use Rattle.replay_run.specs.declared.grid.Grid.{Grid}
use Rattle.listeners.specs.StandsFor.{StandFor}
use Rattle.listeners.specs.declared.listeners.Listeners.{Listeners}
use Rattle.replay_run.specs.declared.tally.Tally.{Tally}
use Rattle.script_lang.specs.declared.line.Line.{Line}
use Rattle.script_lang.specs.Limits.{most_lines}
use Rattle.script_lang.specs.Lines.{IsWithin}
use Rattle.session_core.specs.Sessions.{session_after}
use Rattle.call_engine.specs.declared.shelf.GridShelf.{GridShelf}
use Rattle.call_engine.specs.Calls.{Settings}
use Rattle.call_engine.specs.Env.{settings_of}
use Rattle.call_engine.specs.Limits.{RequestFits}
use Rattle.call_engine.specs.Objects.{partition_object}
use Rattle.partition_world.specs.LinkOrder.{links_of}
use Rattle.wait_sets.specs.declared.waiter.Waiter.{Waiter as ListedWaiter}
use Rattle.wait_sets.specs.Lists.{list_at}
use Rattle.replay_run.specs.Runs.{Run, Connection, Waiter, Appended, partitions, connection_of, messages_on, bytes_of, events_at, listening}
use Rattle.replay_run.specs.AfterLines.{after_line}
use Rattle.replay_run.specs.Counts.{is_refused, is_out_of_memory}
use Rattle.replay_run.specs.Rebalancing.{most_line_events}
use Rattle.replay_run.specs.Shelves.{grid_meaning}
use Rattle.replay_run.specs.Printing.{answer_of, came_at}
use Rattle.line_told.specs.declared.told.Told.{Told}
use Rattle.line_told.specs.declared.told.Ready.{Ready}
use Rattle.replay_run.specs.LineTold.{line_told, line_printed}
use Rattle.replay_run.specs.ScriptRuns.{IsRun}
use Rattle.replay_run.specs.Skips.{AreOfLine}
use Rattle.replay_run.specs.Tables.{Table, Opened, most_connections, opened_at, lines_of}
use Rattle.partition_world.specs.Recorders.{KeepsAll}
use Rattle.partition_world.specs.declared.recorder.Recorder.{Recorder}

-- the table

-- A slot's session is that of all the connection's bytes.
abbrev pub IsConnection : Opened → Connection → Type 0
IsConnection opened k = opened.session ≡ session_after k.conn k.member k.bytes

abbrev pub Matches : Option Opened → Option Connection → Type 0
Matches None None = Unit {0}
Matches (Some opened) (Some k) = IsConnection opened k
Matches _ _ = ⊥

-- It has the connections of the run.
abbrev pub HasConnections : Table → Run → Type 0
HasConnections table r = (c : ℕ) → Matches (opened_at table c) (connection_of r c)

-- the lines of a call, where it arrived
abbrev pub lines_in : Run → CallId → Option CallLines
lines_in r id = option_map (λ line. record { arrived = line; answered = option_map (λ (m : Appended). m.line) (answer_of r id) }) (came_at r id)

pub record HasTable (table : Table) (r : Run) : Type 0 where
  pub size : length table ≡ most_connections
  pub connections : HasConnections table r
  pub calls : (id : CallId) → lines_of table id ≡ lines_in r id

-- Every message of a connection was handled.
abbrev pub IsSettled : Table → Run → Type 0
IsSettled table r = (c : ℕ) (opened : Opened) (k : Connection) → opened_at table c ≡ Some opened → connection_of r c ≡ Some k → length opened.calls ≡ length (messages_on k)

-- So many messages of this connection were handled, and all of the others.
pub record IsCounting (table : Table) (r : Run) (conn number : ℕ) : Type 0 where
  pub here : (opened : Opened) → opened_at table conn ≡ Some opened → length opened.calls ≡ number
  pub others : (c : ℕ) (opened : Opened) (k : Connection) → c ≢ conn → opened_at table c ≡ Some opened → connection_of r c ≡ Some k → length opened.calls ≡ length (messages_on k)

-- the worlds

-- it records all that happens
abbrev pub GridWorld : Type 0
GridWorld = World GridShelf (Recorder Request) Settings Request

abbrev pub StandsForEvents : Settings → GridWorld → List (Event Request) → Type 0
StandsForEvents settings world events = StandsFor (grid_meaning settings) KeepsAll RequestFits world events

-- The world is that of a partition's events.
pub record IsWorld (settings : Settings) (world : GridWorld) (r : Run) (p : ℕ) : Type 0 where
  pub stands : StandsForEvents settings world (events_at p r.events)
  pub setup : setup_of world ≡ record { partition = p; members = r.members; backups = r.backups }

-- A partition has its world, which has given out every answer that it released.
pub record HasWorld (settings : Settings) (worlds : List GridWorld) (r : Run) (p : ℕ) : Type 0 where
  pub world : GridWorld
  pub there : slice_get worlds p ≡ Some world
  pub is : IsWorld settings world r p
  pub given : (member : ℕ) → waiting world member ≡ []

-- what contracts see of a boxed processor, and of one behind its table of methods
abbrev pub FormOf : (V : Type 0) → (V → Type 0) → Type 0
FormOf V T = DynBox V Global T → ProcessorForm

abbrev pub boxed : {V : Type 0} {T : V → Type 0} → ((v : V) × T v → ProcessorForm) → FormOf V T
boxed form b = form (b.vtable, b.value)

-- who waits

abbrev pub waits_at : ℕ → ℕ → Waiter → Bool
waits_at member p w = (w.member == member) && (w.request.partition == p)

-- as a list of the code has it
abbrev pub as_listed : Waiter → ListedWaiter
as_listed w = record { request = w.request; deadline = w.deadline }

-- Each member's list of a partition has those who wait there, in order of arrival, and whoever waits is in one, with a call that fits.
pub record HasWaiters (lists : List (List ListedWaiter)) (r : Run) : Type 0 where
  pub size : length lists ≡ r.members * partitions
  pub listed : (member p : ℕ) → member < r.members → p < partitions → list_at lists member p ≡ map as_listed (filter (waits_at member p) r.waiters)
  pub there : (w : Waiter) → Contains r.waiters w → (w.member < r.members) × (w.request.partition < partitions)
  pub fit : (w : Waiter) → Contains r.waiters w → CallFits w.request.call

-- The calls that arrived were counted, and those that were refused.
pub record IsTally (tally : Tally) (r : Run) : Type 0 where
  pub arrived : tally.arrived ≡ length r.arrivals + length r.waiters
  pub refused : tally.refused ≡ count_by (is_refused r) r.arrivals
  pub memory : tally.memory ≡ count_by (is_out_of_memory r) r.arrivals

-- The grid has what the run has, and goes by the settings.
pub record Holds {V : Type 0} {T : V → Type 0} (form : FormOf V T) (settings : Settings) (grid : Grid V T) (r : Run) : Type 0 where
  pub goes_by : settings_of form grid.env ≡ settings
  -- the run goes on
  pub goes_on : r.full ≡ false
  pub lines : grid.lines ≡ r.lines
  pub members : grid.members ≡ r.members
  pub links : grid.links.items ≡ links_of r.members
  pub moments : grid.moments.items ≡ r.moments
  pub clocks : length r.moments ≡ r.members
  pub table : HasTable grid.connections r
  pub waiters : HasWaiters grid.waiters r
  pub tally : IsTally grid.tally r
  pub reopened : grid.reopened.items ≡ r.reopened
  pub worlds : (p : ℕ) → p < partitions → HasWorld settings grid.worlds.items r p

-- Each member has its listeners, which stand for those who listen there, on a connection of its own too.
pub record AreListening (all : List Listeners) (r : Run) (own : Option ℕ) : Type 0 where
  pub size : length all ≡ r.members
  pub each : (member : ℕ) (here : Listeners) → slice_get all member ≡ Some here → StandFor here (listening r own member)

-- how many digits the bytes have that a line may bring: what a near client sends has a name and a key, each from a line of its own, and less than 256 bytes besides
abbrev pub most_arriving : ℕ
most_arriving = 131584

-- The lines brought no more bytes than so many lines can: each byte has two digits.
abbrev pub IsSmall : Run → Type 0
IsSmall r = 2 * bytes_of r ≤ most_arriving * r.lines

-- No partition has more events than there were calls, and 5,014 for each line. Those of 200,000 lines are 1,002,800,000, and the calls of as many lines of 131,584 digits stay below 2,200,000,000: four bytes count both.
abbrev pub AreFew : Run → Type 0
AreFew r = (p : ℕ) → length (events_at p r.events) ≤ length r.arrivals + most_line_events * r.lines

-- It has no more lines than a script may have, and no more reopenings than 5,014 for each line: a line's own event makes one at most, but a line that is taken apart may reopen many partitions.
pub record IsBounded (r : Run) : Type 0 where
  pub lines : r.lines ≤ most_lines
  pub reopenings : length r.reopened ≤ most_line_events * r.lines

-- Each connection is to a member of the grid.
abbrev pub AreReached : Run → Type 0
AreReached r = (c : ℕ) (k : Connection) → connection_of r c ≡ Some k → k.member < r.members

-- between two lines
pub record Stands {V : Type 0} {T : V → Type 0} (form : FormOf V T) (settings : Settings) (grid : Grid V T) (r : Run) : Type 0 where
  pub run : IsRun (partition_object settings) r
  pub small : IsSmall r
  pub few : AreFew r
  pub bounded : IsBounded r
  pub holds : Holds form settings grid r
  pub listeners : AreListening grid.listeners.items r None
  pub settled : IsSettled grid.connections r
  pub reached : AreReached r

-- lines

-- The line is one that the grid's script can have next: a line of its grammar, and within the limit of lines.
pub record MayRun {V : Type 0} {T : V → Type 0} (form : FormOf V T) (grid : Grid V T) (number : ℕ) (line : Line) : Type 0 where
  pub settings : Settings
  pub run : Run
  pub stands : Stands form settings grid run
  pub read : IsWithin run.members most_arriving line
  pub next : number ≡ run.lines + 1
  pub within : number ≤ most_lines

-- The line ran: the grid stands for the run after it, and what it tells was added. Its calls were skipped that found no memory.
pub record HasRun {V : Type 0} {T : V → Type 0} (form : FormOf V T) (settings : Settings) (new : Grid V T) (r : Run) (line : Line) (earlier later : List Told) : Type 0 where
  pub skips : List CallId
  pub of_line : AreOfLine (partition_object settings) r line skips
  pub stands : Stands form settings new (after_line (partition_object settings) skips r line)
  pub added : later ≡ earlier ++ line_told settings skips r line (after_line (partition_object settings) skips r line)

-- It ran, and what it wrote as it went was added too.
pub record HasGiven {V : Type 0} {T : V → Type 0} (form : FormOf V T) (settings : Settings) (new : Grid V T) (r : Run) (line : Line) (earlier later : Ready) : Type 0 where
  pub told : HasRun form settings new r line earlier.told.items later.told.items
  pub printed : later.printed.items ≡ earlier.printed.items ++ line_printed settings r line

-- The run is given up at the line, of whose calls these found no memory: an event met a full partition.
pub record IsGivenUp (settings : Settings) (r : Run) (line : Line) : Type 0 where
  pub skips : List CallId
  pub of_line : AreOfLine (partition_object settings) r line skips
  pub full : (after_line (partition_object settings) skips r line).full ≡ true
