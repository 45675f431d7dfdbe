-- What a call does to its partition's world, and the messages that it makes.
use Rattle.std.specs.Prelude.{◌≡◌, ◌≢◌, ℤ, ℕ, ◌+◌, ◌-◌, ◌*◌, ◌<◌, ◌≤◌, ◌^◌, Bool, true, false, if◌then◌else◌, is_none, option_and_then, pos, List, length, filter, [], ◌∷◌, ◌++◌, Option, Some, None, slice_get, Contains}
use Rattle.std.specs.List.{flat_map}
use Rattle.grid_base.specs.declared.names.CallId.{CallId}
use Rattle.grid_base.specs.declared.calls.Request.{Request}
use Rattle.partition_protocol.specs.Events.{Event, happens}
use Rattle.partition_protocol.specs.Events as event
use Rattle.partition_protocol.specs.Service.{numbers_below}
use Rattle.partition_world.specs.declared.event.Happened.{Happened}
use Rattle.partition_world.specs.Events.{happened_of}
use Rattle.primary_hold.specs.declared.answer.CallAnswer.{CallAnswer}
use Rattle.partition_world.specs.declared.world.World.{World}
use Rattle.grid_base.specs.Shelves.{Meaning}
use Rattle.partition_world.specs.Answers.{released_at}
use Rattle.partition_world.specs.Worlds.{StandsFor, run_of, setup_of, waiting}
use Rattle.replay_run.specs.declared.calls.Refusal.{Refusal}
use Rattle.replay_run.specs.declared.tally.Reception.{Reception}
use Rattle.replay_run.specs.declared.tally.Reception.TheVariants.{OutOfMemory}
use Rattle.script_lang.specs.declared.line.Line.{Line}
use Rattle.script_lang.specs.declared.line.Line.TheVariants as line
use Rattle.event_codecs.specs.declared.registration.Registration.{Registration}
use Rattle.listeners.specs.Telling.{rows_of}
use Rattle.grid_base.specs.Objects.{Object}
use Rattle.object_store.specs.Partitions.{Partition}
use Rattle.listeners.specs.StandsFor.{StandFor}
use Rattle.listeners.specs.declared.listeners.Listeners.{Listeners}
use Rattle.listeners.specs.declared.listener.Listener.{Listener}
use Rattle.replay_run.specs.declared.outgoing.Reaching.{Reaching}
use Rattle.replay_run.specs.declared.events.Fate.{Fate}
use Rattle.replay_run.specs.declared.events.Fate.TheVariants.{Crash, Detect}
use Rattle.replay_run.specs.declared.grid.Grid.{Grid}
use Rattle.call_engine.specs.Calls.{Settings}
use Rattle.call_engine.specs.Changes.{change_of}
use Rattle.call_engine.specs.Objects.{partition_object}
use Rattle.grid_base.specs.Errors.{want_of_memory}
use Rattle.grid_base.specs.Limits.{CallFits}
use Rattle.session_core.specs.declared.item.Item.{Item}
use Rattle.session_core.specs.declared.item.Item.TheVariants.{Call as Asks, Wait}
use Rattle.replay_run.specs.Runs.{Run, Connection, Arrival, Appended, partitions, connection_of, messages_on, takes_bytes, took_bytes, told, refusal, refused_by, call_of, arrival_at, items_by, asked, handled_all, event_by, events_at, world_at, is_full, meets_full, occurred, takes, takes_in, goes_out, version_known, adopted_since, messages_at, events_to, rows_known, registers}
use Rattle.replay_run.specs.Printing.{appended_text, new_messages, outcome_at, deliveries}
use Rattle.replay_run.specs.Endings.{AreAmong, new_arrivals}
use Rattle.replay_run.specs.ScriptRuns.{IsRun, IsMidway}
use Rattle.replay_run.specs.Tables.{Table, with_answer}
use Rattle.replay_run.specs.Tallies.{received}
use Rattle.rebalance.specs.declared.Step.{Step}
use Rattle.rebalance.specs.Plans.{Planned}
use Rattle.replay_run.specs.Rebalancing.{most_line_events, stepped_all, first_steps}
use Rattle.line_told.specs.declared.told.Told.{Told}
use Rattle.replay_run.specs.LineTold.{all_told, ran_all_told}
use Rattle.replay_run.specs.Shelves.{grid_meaning}
use Rattle.replay_run.specs.Grids.{FormOf, GridWorld, StandsForEvents, HasConnections, IsSettled, IsCounting, AreListening, Holds}
use Rattle.partition_protocol.specs.Recorded.{Recorded}

-- the call of a request that arrives and reaches a member at a line, at the member's moment
abbrev pub arrival_to : ℕ → ℕ → ℕ → Request → Arrival
arrival_to line member now request = record { line = line; made = line; member = member; now = now; request = request; waits = false }

-- the message that refuses a call, if it is refused
abbrev pub refusals : ℕ → Request → Option Refusal → List Appended
refusals line request None = []
refusals line request (Some r) = refusal line request r.code r.version ∷ []

abbrev pub texts_of : List Appended → List ℕ
texts_of messages = flat_map appended_text messages

-- The call is one event more, with the answers that it released and the refusal that was written.
pub record IsCalled (settings : Settings) (old new : GridWorld) (events : List (Event Request)) (a : Arrival) (added : List Told) : Type 0 where
  pub stands : StandsForEvents settings new (events ++ call_of a ∷ [])
  pub setup : setup_of new ≡ setup_of old
  pub waiting : (member : ℕ) → waiting new member ≡ waiting old member ++ released_at (partition_object settings) (change_of settings) (run_of (grid_meaning settings) old events) (call_of a) member
  pub told : added ≡ all_told (refused_by a.made a.request (happens (partition_object settings) (run_of (grid_meaning settings) old events) (call_of a)).outcome)

-- The call found no memory, is no event and was answered so.
pub record IsSkipped (settings : Settings) (old new : GridWorld) (events : List (Event Request)) (a : Arrival) (added : List Told) : Type 0 where
  pub stands : StandsForEvents settings new events
  pub setup : setup_of new ≡ setup_of old
  pub waiting : (member : ℕ) → waiting new member ≡ waiting old member
  pub told : added ≡ all_told (refusal a.made a.request (pos want_of_memory) 0 ∷ [])

-- and so it was told

pub record IsCalledSo (settings : Settings) (old new : GridWorld) (events : List (Event Request)) (a : Arrival) (added : List Told) (reception : Reception) : Type 0 where
  pub called : IsCalled settings old new events a added
  pub so : reception ≡ received (refused_by a.made a.request (happens (partition_object settings) (run_of (grid_meaning settings) old events) (call_of a)).outcome)

pub record IsSkippedSo (settings : Settings) (old new : GridWorld) (events : List (Event Request)) (a : Arrival) (added : List Told) (reception : Reception) : Type 0 where
  pub skipped : IsSkipped settings old new events a added
  pub so : reception ≡ OutOfMemory

abbrev pub with_answers : Table → ℕ → List CallAnswer → Table
with_answers table line [] = table
with_answers table line (answer ∷ answers) = with_answers (with_answer table answer.id line) line answers

-- those that go out
abbrev pub going_out : Run → Option ℕ → List CallAnswer → List CallAnswer
going_out r own answers = filter (goes_out r own) answers

-- All answers that waited at a member were taken, which is no event by any plan.
pub record GivesOut {S R Plan C State : Type 0} (meaning_in : Plan → Meaning S C State) (records : R → Recorded C → Type 0) (limits : C → Type 0) (old new : World S R Plan C) (member : ℕ) : Type 0 where
  pub stands : (plan : Plan) (events : List (Event C)) → StandsFor (meaning_in plan) records limits old events → StandsFor (meaning_in plan) records limits new events
  pub setup : setup_of new ≡ setup_of old
  pub given : waiting new member ≡ []
  pub others : (other : ℕ) → other ≢ member → waiting new other ≡ waiting old other

-- where an event reaches a member

-- The listeners of the member, if it is one, stand for these.
abbrev pub StandAt : List Listeners → ℕ → List Listener → Type 0
StandAt listeners member all = (here : Listeners) → slice_get listeners member ≡ Some here → StandFor here all

-- The connections are those of a run at its line, and these listen at the member.
pub record AreOfRun (table : Table) (listeners : List Listeners) (at : Reaching) (r : Run) (all : List Listener) : Type 0 where
  pub line : r.lines ≡ at.line
  pub connections : HasConnections table r
  pub stand : StandAt listeners at.member all

-- what a world has to append there: the row that the member has adopted since, and what waits there
abbrev pub messages_in : {S R Plan C State : Type 0} → Meaning S C State → World S R Plan C → List (Event C) → Reaching → Run → List Listener → List Appended
messages_in k world events at r all = messages_at r at.own at.partition all (adopted_since at.known (run_of k world events) at.member) (waiting world at.member)

-- It was told, if the world is that of these events.
abbrev pub IsAppended : {S R Plan C State : Type 0} → Meaning S C State → (R → Recorded C → Type 0) → (C → Type 0) → World S R Plan C → List (Event C) → Reaching → Run → List Listener → List Told → List Told → Type 0
IsAppended k records limits world events at r all earlier later = StandsFor k records limits world events → later ≡ earlier ++ all_told (messages_in k world events at r all)

-- Of the answers those are marked as answered that go out.
abbrev pub MarksGoing : Run → Reaching → List CallAnswer → Table → Table → Type 0
MarksGoing r at answers old new = new ≡ with_answers old at.line (going_out r at.own answers)

-- where a message reaches a member, at an event of a partition
abbrev pub reaching_of : Settings → Run → ℕ → ℕ → Reaching
reaching_of settings r p member = record { line = r.lines; partition = p; member = member; known = version_known (world_at (partition_object settings) r p) member; own = None }

-- The call of a request was run, or skipped for want of memory, and the messages that it appended were told.
pub record HasAsked {V : Type 0} {T : V → Type 0} (form : FormOf V T) (settings : Settings) (new : Grid V T) (r : Run) (member : ℕ) (request : Request) (earlier later : List Told) : Type 0 where
  pub skips : List CallId
  pub its_own : (id : CallId) → Contains skips id → request.id ≡ id
  pub holds : Holds form settings new (asked (partition_object settings) skips r (Some request.id.conn) (arrival_at r member request))
  pub listeners : AreListening new.listeners.items (asked (partition_object settings) skips r (Some request.id.conn) (arrival_at r member request)) (Some request.id.conn)
  pub counting : IsCounting new.connections (asked (partition_object settings) skips r (Some request.id.conn) (arrival_at r member request)) request.id.conn (request.id.number + 1)
  pub added : later ≡ earlier ++ all_told (new_messages r (asked (partition_object settings) skips r (Some request.id.conn) (arrival_at r member request)))
  -- its partition wasn't full
  pub goes : is_full (world_at (partition_object settings) r request.partition) ≡ false

-- A session's own answer was appended to its connection and told.
pub record HasTold {V : Type 0} {T : V → Type 0} (form : FormOf V T) (settings : Settings) (new : Grid V T) (r : Run) (conn number : ℕ) (answer : List ℕ) (earlier later : List Told) : Type 0 where
  pub holds : Holds form settings new (told r conn answer)
  pub listeners : AreListening new.listeners.items (told r conn answer) (Some conn)
  pub counting : IsCounting new.connections (told r conn answer) conn (number + 1)
  pub added : later ≡ earlier ++ all_told (new_messages r (told r conn answer))

-- Each partition may have one event more: four bytes count them.
abbrev pub HasCallRoom : Run → Type 0
HasCallRoom r = length r.arrivals + length r.waiters + most_line_events * r.lines + 1 < 2 ^ 32 - 1

-- A registration came on a connection of this number and to this member: it was answered and listens, and what was appended was told.
pub record HasRegistered {V : Type 0} {T : V → Type 0} (form : FormOf V T) (settings : Settings) (new : Grid V T) (r : Run) (conn member number : ℕ) (registration : Registration) (earlier later : List Told) : Type 0 where
  pub holds : Holds form settings new (registers (partition_object settings) r conn member registration)
  pub listeners : AreListening new.listeners.items (registers (partition_object settings) r conn member registration) (Some conn)
  pub counting : IsCounting new.connections (registers (partition_object settings) r conn member registration) conn (number + 1)
  pub added : later ≡ earlier ++ all_told (new_messages r (registers (partition_object settings) r conn member registration))

-- what is sent behind the answer of a registration: to a connection that listens to rows those that its member knows
abbrev pub first_events : Object Request Partition → Run → ℕ → ℕ → Registration → List Appended
first_events o r conn member registration = events_to r.lines (rows_of (rows_known o r member) (record { conn = conn; registration = registration } ∷ []))

-- The connection of this number is to this member.
pub record IsTo (r : Run) (conn member : ℕ) : Type 0 where
  pub connection : Connection
  pub there : connection_of r conn ≡ Some connection
  pub to : connection.member ≡ member

-- However many of the bytes' items are calls, and of the calls that wait are made, no partition has more events than four bytes can count.
abbrev pub HasRoom : Run → Connection → List ℕ → Type 0
HasRoom r k bytes = length r.arrivals + length r.waiters + length (items_by k bytes) + most_line_events * (r.lines + 1) + 1 < 2 ^ 32 - 1

-- the member of a connection, where bytes can arrive on it
abbrev pub member_if_open : Settings → Run → Connection → Option ℕ
member_if_open settings r k = if takes_bytes (partition_object settings) r k then Some k.member else None

abbrev pub open_member_in : Settings → Run → ℕ → Option ℕ
open_member_in settings r c = option_and_then (member_if_open settings r) (connection_of r c)

-- Bytes bring these items on a connection of a run to a member of the grid, and each call among them can be answered.
pub record Brings (settings : Settings) (r : Run) (k : Connection) (bytes : List ℕ) (items : List Item) : Type 0 where
  pub run : IsRun (partition_object settings) r
  pub there : connection_of r k.conn ≡ Some k
  pub reached : k.member < r.members
  pub come : items_by k bytes ≡ items
  pub fit : (q : Request) → Contains items (Asks q) → CallFits q.call
  pub waits_fit : (q : Request) (timeout : ℤ) → Contains items (Wait q timeout) → CallFits q.call

-- In the midst of a line of bytes: these of its items were handled, and the messages that they appended were told.
pub record HasHandledSome {V : Type 0} {T : V → Type 0} (form : FormOf V T) (settings : Settings) (grid : Grid V T) (r : Run) (k : Connection) (bytes : List ℕ) (done : List Item) (earlier later : List Told) : Type 0 where
  pub skips : List CallId
  pub now : Run
  pub midway : IsMidway (partition_object settings) r k bytes done skips now
  pub holds : Holds form settings grid now
  pub listeners : AreListening grid.listeners.items now (Some k.conn)
  pub counting : IsCounting grid.connections now k.conn (length (messages_on k) + length done)
  pub added : later ≡ earlier ++ all_told (new_messages r now)

-- The run is given up in the midst of a line of bytes: with these of its calls skipped, one of them met a full partition.
pub record IsGivenUpMidway (settings : Settings) (r : Run) (k : Connection) (bytes : List ℕ) (items : List Item) : Type 0 where
  pub skips : List CallId
  pub own : AreAmong (new_arrivals r (handled_all (partition_object settings) skips (took_bytes r k bytes) k items)) skips
  pub full : (handled_all (partition_object settings) skips (took_bytes r k bytes) k items).full ≡ true

-- events

-- what happens to a member in all partitions, and its line

abbrev pub event_in_all : Fate → Event Request
event_in_all (Crash member) = event.Crash member
event_in_all (Detect member) = event.Detect member

abbrev pub line_of_fate : Fate → Line
line_of_fate (Crash member) = line.Crash member
line_of_fate (Detect member) = line.Detect member

-- a line at which nothing happens in a partition
abbrev pub is_quiet : Line → Bool
is_quiet (line.Arrive c bytes) = false
is_quiet (line.Clock member moment) = false
is_quiet (line.Flow partition most) = false
is_quiet (line.FlowAll most) = false
is_quiet (line.Crash member) = false
is_quiet (line.Detect member) = false
is_quiet (line.Rebalance most) = false
is_quiet line = is_none (event_by line)

-- A partition may have so many events more, and those of all calls that wait: four bytes count them.
abbrev pub HasRoomAt : Run → ℕ → ℕ → Type 0
HasRoomAt r p most = length (events_at p r.events) + length r.waiters + most + 1 < 2 ^ 32

-- In the midst of a line of events: the grid has what the run has by then, and every message was handled.
pub record IsAmid {V : Type 0} {T : V → Type 0} (form : FormOf V T) (settings : Settings) (grid : Grid V T) (r : Run) : Type 0 where
  pub run : IsRun (partition_object settings) r
  pub holds : Holds form settings grid r
  pub listeners : AreListening grid.listeners.items r None
  pub settled : IsSettled grid.connections r

-- The run has gone on, and the messages that this appended were told.
pub record HasGoneOn {V : Type 0} {T : V → Type 0} (form : FormOf V T) (settings : Settings) (new : Grid V T) (r next : Run) (earlier later : List Told) : Type 0 where
  pub amid : IsAmid form settings new next
  pub messages : List Appended
  pub appended : next.appended ≡ r.appended ++ messages
  pub added : later ≡ earlier ++ all_told messages

-- what a run goes on to, by the calls that find no memory
abbrev pub Onward : Type 0
Onward = List CallId → Run

-- The run has gone on so, where calls that came to their end found no memory.
pub record HasGoneOnSo {V : Type 0} {T : V → Type 0} (form : FormOf V T) (settings : Settings) (new : Grid V T) (r : Run) (onward : Onward) (earlier later : List Told) : Type 0 where
  pub skips : List CallId
  pub own : AreAmong (new_arrivals r (onward skips)) skips
  pub on : HasGoneOn form settings new r (onward skips) earlier later

-- So it is given up.
pub record GivesUpSo (r : Run) (onward : Onward) : Type 0 where
  pub skips : List CallId
  pub own : AreAmong (new_arrivals r (onward skips)) skips
  pub full : (onward skips).full ≡ true

-- The event has happened, and what it appended was told; those whom it stirs are still to have their turns.
pub record HasOccurred {V : Type 0} {T : V → Type 0} (form : FormOf V T) (settings : Settings) (new : Grid V T) (r : Run) (p : ℕ) (event : Event Request) (happened : Happened) (earlier later : List Told) : Type 0 where
  pub goes : meets_full (world_at (partition_object settings) r p) event ≡ false
  pub on : HasGoneOn form settings new r (occurred (partition_object settings) r p event) earlier later
  pub outcome : happened_of happened ≡ outcome_at (partition_object settings) r p event

-- The event has happened, and those whom it stirred had their turns.
pub record HasTaken {V : Type 0} {T : V → Type 0} (form : FormOf V T) (settings : Settings) (new : Grid V T) (r : Run) (p : ℕ) (event : Event Request) (happened : Happened) (earlier later : List Told) : Type 0 where
  pub on : HasGoneOnSo form settings new r (λ skips. takes (partition_object settings) skips r p event) earlier later
  pub outcome : happened_of happened ≡ outcome_at (partition_object settings) r p event

-- Messages were delivered, each by an event.
pub record HasFlowed {V : Type 0} {T : V → Type 0} (form : FormOf V T) (settings : Settings) (new : Grid V T) (r : Run) (onward : Onward) (number : ℕ) (earlier later : List Told) : Type 0 where
  pub on : HasGoneOnSo form settings new r onward earlier later
  pub deliveries : deliveries r (onward on.skips) ≡ number

-- It happened in the first partition and in all others.
pub record HasTakenInAll {V : Type 0} {T : V → Type 0} (form : FormOf V T) (settings : Settings) (new : Grid V T) (r : Run) (event : Event Request) (first : Happened) (earlier later : List Told) : Type 0 where
  pub on : HasGoneOnSo form settings new r (λ skips. takes_in (partition_object settings) skips r event (numbers_below partitions)) earlier later
  pub outcome : happened_of first ≡ outcome_at (partition_object settings) r 0 event

-- steps of a plan

-- Each step is one of a later partition than the one before it, and its partition has room for its events.
abbrev pub MayStep : Run → ℕ → List Step → Type 0
MayStep r next [] = Unit {0}
MayStep r next (step ∷ steps) = (next ≤ step.partition) × (step.partition < partitions) × HasRoomAt r step.partition most_line_events × MayStep r (step.partition + 1) steps

-- There is nothing to run.
abbrev pub HasNoSteps : Planned → Type 0
HasNoSteps planned = (most : ℕ) → first_steps most planned ≡ []

-- The steps were run, and what each appended was told, and how it ended.
pub record HasStepped {V : Type 0} {T : V → Type 0} (form : FormOf V T) (settings : Settings) (new : Grid V T) (r : Run) (steps : List Step) (earlier later : List Told) : Type 0 where
  pub skips : List CallId
  pub own : AreAmong (new_arrivals r (stepped_all (partition_object settings) skips r steps)) skips
  pub amid : IsAmid form settings new (stepped_all (partition_object settings) skips r steps)
  pub added : later ≡ earlier ++ ran_all_told (partition_object settings) skips r steps
