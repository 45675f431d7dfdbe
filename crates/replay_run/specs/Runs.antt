-- The run of a script: what its lines so far have made. The worlds of the partitions are not kept: each is the protocol's run of its events.
use Rattle.std.specs.Prelude.{ℕ, zero, suc, ◌+◌, ◌==◌, Bool, true, false, not, ◌&&◌, ◌||◌, if◌then◌else◌, ℤ, pos, List, [], ◌∷◌, ◌++◌, length, map, filter, fold, drop, sum_by, replicate, slice_get, slice_set, Option, Some, None, is_some, option_map, option_and_then, unwrap_or}
use Rattle.std.specs.Int.{w32, cast_signed}
use Rattle.std.specs.List.{list_any, find, filter_map, flat_map}
use Rattle.grid_base.specs.Objects.{Object}
use Rattle.grid_base.specs.Names.{is_same_call}
use Rattle.frame_codec.specs.declared.malformed.Malformed.{Malformed}
use Rattle.message_frames.specs.Messages.{messages_of, fault_of}
use Rattle.message_frames.specs.declared.message.Message.{Message}
use Rattle.grid_base.specs.declared.names.CallId.{CallId}
use Rattle.grid_base.specs.declared.calls.Request.{Request}
use Rattle.partition_table.specs.declared.Row.{Row}
use Rattle.partition_protocol.specs.Node.{Node}
use Rattle.partition_protocol.specs.Service.{numbers_below}
use Rattle.partition_protocol.specs.Execution.{Reached, Executes, PartitionLost, WrongTarget, Migrating}
use Rattle.partition_protocol.specs.World.{World, start, is_live, map_or}
use Rattle.partition_protocol.specs.Events.{Event, Call, Outcome, Refused, RowMadeAt, happens, run}
use Rattle.partition_protocol.specs.Events as event
use Rattle.partition_world.specs.Answers.{released_by}
use Rattle.partition_world.specs.LinkOrder.{next_link, has_crowded_link}
use Rattle.primary_hold.specs.declared.answer.CallAnswer.{CallAnswer}
use Rattle.object_store.specs.Partitions.{Partition}
use Rattle.listeners.specs.Standing.{placed}
use Rattle.listeners.specs.Telling.{Sent, events_of, rows_of}
use Rattle.listeners.specs.declared.listener.Listener.{Listener}
use Rattle.grid_base.specs.Errors.{partition_lost, wrong_target, migrating, want_of_memory}
use Rattle.fixed_fields.specs.Responses.{error_bytes, void_bytes}
use Rattle.event_codecs.specs.SpelledRegistrations.{kind_of_registration, correlation_of}
use Rattle.event_codecs.specs.declared.registration.Registration.{Registration}
use Rattle.session_core.specs.Items.{items_of}
use Rattle.session_core.specs.declared.item.Item.{Item}
use Rattle.session_core.specs.declared.item.Item.TheVariants.{Call as Asks, Wait, Register, Reply}
use Rattle.script_lang.specs.declared.line.Line.{Line}
use Rattle.script_lang.specs.declared.line.Line.TheVariants.{Deliver, Lose, Repeat, Resend, Move, Join, Handover, Advance, Reopen}
use Rattle.partition_world.specs.declared.Link.{Link}
pub use Rattle.line_told.specs.declared.told.Appended.{Appended}
use Rattle.waiting_protocol.specs.Machine.{Fate, Stays, Runs, Starves, IsRefused, Leaves, fate_in, is_over}
use Rattle.waiting_protocol.specs.Machine as machine
use Rattle.wait_sets.specs.Laws.{grid_terms}
use Rattle.wait_sets.specs.WaitSets.{deadline_of}
use Rattle.replay_run.specs.Changes.{change_by}

-- a connection: its number, the member that it is to, and all the bytes that arrived on it, however they were cut
pub record Connection : Type 0 where
  pub conn : ℕ
  pub member : ℕ
  pub bytes : List ℕ

-- an event of one partition
pub record At : Type 0 where
  pub partition : ℕ
  pub event : Event Request

-- A call that arrived at a line, at a member, and waits no more: at which line it was made, or refused, or left without an answer, and at which moment of its member. Those are the line and the moment of its arrival, but for a call that waited
pub record Arrival : Type 0 where
  pub line : ℕ
  pub made : ℕ
  pub member : ℕ
  pub now : ℕ
  pub request : Request
  pub waits : Bool  -- it is one of the calls that wait, if only until its turn at its own line

-- a call that arrived at a line, at a member, and waits there, until its deadline if it has one; its request is its plain call's
pub record Waiter : Type 0 where
  pub line : ℕ
  pub member : ℕ
  pub request : Request
  pub deadline : Option ℕ

-- a partition was reopened, at a line
pub record Reopened : Type 0 where
  pub partition : ℕ
  pub line : ℕ

pub record Run : Type 0 where
  pub members : ℕ
  pub backups : ℕ
  pub lines : ℕ  -- how many lines were run
  pub moments : List ℕ  -- of each member's clock
  pub connections : List Connection
  pub registered : List Listener  -- who listens to what, in the order in which that was asked for
  pub events : List At  -- of all partitions, in order
  pub arrivals : List Arrival  -- of the calls that wait no more, in the order in which they were made, refused or left
  pub waiters : List Waiter  -- in order of arrival
  pub appended : List Appended
  pub reopened : List Reopened
  pub full : Bool  -- an event met a partition with too many messages in flight: the run is given up

-- how many partitions a grid has
abbrev pub partitions : ℕ
partitions = 271

-- after the first line
abbrev pub begun : ℕ → ℕ → Run
begun members backups = record { members = members; backups = backups; lines = 1; moments = replicate members 0; connections = []; registered = []; events = []; arrivals = []; waiters = []; appended = []; reopened = []; full = false }

abbrev pub is_at : ℕ → At → Bool
is_at p e = e.partition == p

abbrev pub events_at : ℕ → List At → List (Event Request)
events_at p events = map (λ (e : At). e.event) (filter (is_at p) events)

-- a partition's world
abbrev pub world_at : {State : Type 0} → Object Request State → Run → ℕ → World Request
world_at o r p = run o (start p r.members r.backups) (events_at p r.events)

abbrev pub is_connection : ℕ → Connection → Bool
is_connection c connection = connection.conn == c

abbrev pub connection_of : Run → ℕ → Option Connection
connection_of r c = find (is_connection c) r.connections

-- the messages that are complete on a connection, and its fault, which closed it
abbrev pub messages_on : Connection → List Message
messages_on connection = messages_of true connection.bytes

abbrev pub fault_on : Connection → Option Malformed
fault_on connection = fault_of true connection.bytes

-- whether answers go to a connection: it was opened and didn't close
abbrev pub is_open : Option Connection → Bool
is_open None = false
is_open (Some connection) = not (is_some (fault_on connection))

-- what its messages give: an item each
abbrev pub items_on : Connection → List Item
items_on connection = items_of connection.conn connection.member (messages_on connection)

-- how many bytes arrived on all connections
abbrev pub bytes_of : Run → ℕ
bytes_of r = sum_by (λ (connection : Connection). length connection.bytes) r.connections

abbrev pub updated : Connection → List Connection → List Connection
updated new connections = map (λ (old : Connection). if old.conn == new.conn then new else old) connections

-- Members that crashed take no step. A member crashes in all partitions, one after the other, so the first one tells.
abbrev pub lives : {State : Type 0} → Object Request State → Run → ℕ → Bool
lives o r member = is_live (world_at o r 0) member

-- whether bytes can arrive on a connection: it is open, and its member lives
abbrev pub takes_bytes : {State : Type 0} → Object Request State → Run → Connection → Bool
takes_bytes o r connection = is_open (Some connection) && lives o r connection.member

-- links

-- A partition is full where one of its links has so many messages.
abbrev pub most_in_flight : ℕ
most_in_flight = 65400

abbrev pub is_full : {C : Type 0} → World C → Bool
is_full w = has_crowded_link most_in_flight w

-- who listens

-- the connection of the call at hand, if there is one
abbrev pub is_own : Option ℕ → ℕ → Bool
is_own None c = false
is_own (Some own) c = c == own

-- whether a connection is sent anything: it is open, or is the one of the call at hand, whose close comes after all that its bytes bring
abbrev pub hears : Run → Option ℕ → ℕ → Bool
hears r own c = is_own own c || is_open (connection_of r c)

abbrev pub is_to : ℕ → Option Connection → Bool
is_to member None = false
is_to member (Some connection) = connection.member == member

abbrev pub listens_at : Run → Option ℕ → ℕ → Listener → Bool
listens_at r own member listener = is_to member (connection_of r listener.conn) && hears r own listener.conn

abbrev pub placed_in : List Listener → Listener → List Listener
placed_in all listener = placed listener all

-- those who listen at a member: in order of connection, and those of one connection as they were registered
abbrev pub listening : Run → Option ℕ → ℕ → List Listener
listening r own member = fold placed_in [] (filter (listens_at r own member) r.registered)

abbrev pub listener_registered : Run → Listener → Run
listener_registered r listener = record r { registered = r.registered ++ listener ∷ [] }

-- messages

-- What a session answers itself, and what a listener is sent, answers no call and refuses none.
abbrev pub own_answer : ℕ → ℕ → List ℕ → Appended
own_answer line c bytes = record { conn = c; line = line; bytes = bytes; answers = None; refuses = None }

abbrev pub event_to : ℕ → Sent → Appended
event_to line sent = own_answer line sent.0 sent.1

abbrev pub events_to : ℕ → List Sent → List Appended
events_to line sent = map (event_to line) sent

-- an answer that is given out
abbrev pub message_of : ℕ → CallAnswer → Appended
message_of line answer = record { conn = answer.id.conn; line = line; bytes = answer.reply; answers = Some answer.id; refuses = None }

-- A refusal answers no call: it names the call that wasn't executed.
abbrev pub refusal : ℕ → Request → ℤ → ℕ → Appended
refusal line request code first = record { conn = request.id.conn; line = line; bytes = error_bytes request.correlation code (cast_signed w32 first) (pos 0); answers = None; refuses = Some request.id }

abbrev pub refused_at : ℕ → Request → Reached → List Appended
refused_at line request Executes = []
refused_at line request (PartitionLost version) = refusal line request (pos partition_lost) version ∷ []
refused_at line request (WrongTarget version) = refusal line request (pos wrong_target) version ∷ []
refused_at line request (Migrating version) = refusal line request (pos migrating) version ∷ []

abbrev pub refused_by : ℕ → Request → Outcome → List Appended
refused_by line request (Refused reached) = refused_at line request reached
refused_by line request _ = []

-- A session answers a message itself.
abbrev pub told : Run → ℕ → List ℕ → Run
told r c bytes = record r { appended = r.appended ++ own_answer r.lines c bytes ∷ [] }

-- the moment of a member's clock, which is 0 until it is set
abbrev pub moment_of : Run → ℕ → ℕ
moment_of r member = unwrap_or (slice_get r.moments member) 0

-- A message is complete and is a call: it arrives at the connection's member, at that member's moment.

abbrev pub arrival_at : Run → ℕ → Request → Arrival
arrival_at r member request = record { line = r.lines; made = r.lines; member = member; now = moment_of r member; request = request; waits = false }

abbrev pub call_of : Arrival → Event Request
call_of a = Call a.member a.request.id.conn a.request.id.number a.request a.now

-- what an event appends at the member that it reaches

-- the version of the row that a member knows; 0 where the number is no member's
abbrev pub version_known : {C : Type 0} → World C → ℕ → ℕ
version_known w member = map_or (slice_get w.nodes member) 0 (λ (node : Node). node.known.version)

-- the row, where it has another version
abbrev pub if_newer : ℕ → Row → Option Row
if_newer version row = if row.version == version then None else Some row

-- the row that a member has adopted since it knew that version
abbrev pub adopted_since : {C : Type 0} → ℕ → World C → ℕ → Option Row
adopted_since version w member = option_and_then (λ (node : Node). if_newer version node.known) (slice_get w.nodes member)

-- Those who listen to rows are sent it.
abbrev pub row_messages : ℕ → ℕ → List Listener → Option Row → List Appended
row_messages line p all None = []
row_messages line p all (Some row) = events_to line (rows_of ((p, row) ∷ []) all)

abbrev pub goes_out : Run → Option ℕ → CallAnswer → Bool
goes_out r own answer = hears r own answer.id.conn

abbrev pub answer_messages : Run → Option ℕ → CallAnswer → List Appended
answer_messages r own answer = if goes_out r own answer then message_of r.lines answer ∷ [] else []

-- At a release those who listen are told first how the call changed a value, also where the answer isn't heard.
abbrev pub release_messages : Run → Option ℕ → ℕ → List Listener → CallAnswer → List Appended
release_messages r own p all answer = events_to r.lines (events_of p answer all) ++ answer_messages r own answer

-- The row that the member has adopted comes first, and then what it releases.
abbrev pub messages_at : Run → Option ℕ → ℕ → List Listener → Option Row → List CallAnswer → List Appended
messages_at r own p all row answers = row_messages r.lines p all row ++ flat_map (release_messages r own p all) answers

-- what the worlds before and after the event give
abbrev pub messages_by : Object Request Partition → Run → Option ℕ → ℕ → ℕ → World Request → World Request → List Appended
messages_by o r own p member before after =
    messages_at r own p (listening r own member) (adopted_since (version_known before member) after member) (released_by o (change_by o) before after)

-- the call with an event, which may be refused, or release answers; and whose bytes are at hand, if any are
abbrev pub happening : Object Request Partition → Run → Option ℕ → Arrival → List Appended
happening o r own a =
    let before = world_at o r a.request.partition in
    let next = happens o before (call_of a) in
    refused_by a.made a.request next.outcome ++ messages_by o r own a.request.partition a.member before next.world

abbrev pub arrived : Run → Arrival → List At → List Appended → Run
arrived r a events appended = record r {
  events = r.events ++ events;
  arrivals = r.arrivals ++ a ∷ [];
  appended = r.appended ++ appended;
}

-- The skips are the calls that found no memory: such a call makes no event and is answered with error 10.
abbrev pub is_skipped : List CallId → CallId → Bool
is_skipped skips id = list_any (is_same_call id) skips

abbrev pub asked : Object Request Partition → List CallId → Run → Option ℕ → Arrival → Run
asked o skips r own a =
    if is_skipped skips a.request.id then arrived r a [] (refusal a.made a.request (pos want_of_memory) 0 ∷ [])
    else arrived r a (record { partition = a.request.partition; event = call_of a } ∷ []) (happening o r own a)

-- A full partition takes no event but a loss. The run is then given up: nothing is printed of that line, and no other line runs.
abbrev pub given_up : Run → Run
given_up r = record r { full = true }

abbrev pub asks : Object Request Partition → List CallId → Run → Option ℕ → Arrival → Run
asks o skips r own a = if is_full (world_at o r a.request.partition) then given_up (arrived r a [] []) else asked o skips r own a

-- calls that wait

abbrev pub waiter_at : Run → ℕ → Request → ℤ → Waiter
waiter_at r member request timeout = record { line = r.lines; member = member; request = request; deadline = deadline_of (moment_of r member) timeout }

-- it comes last
abbrev pub waits : Run → Waiter → Run
waits r w = record r { waiters = r.waiters ++ w ∷ [] }

abbrev pub is_waiter : CallId → Waiter → Bool
is_waiter id w = is_same_call w.request.id id

-- it waits no more
abbrev pub without : Run → Waiter → Run
without r w = record r { waiters = filter (λ (x : Waiter). not (is_waiter w.request.id x)) r.waiters }

-- as it leaves
abbrev pub ending : Run → Waiter → Arrival
ending r w = record { line = w.line; made = r.lines; member = w.member; now = moment_of r w.member; request = w.request; waits = true }

-- in the words of the machine of calls that wait
abbrev pub as_machine : Waiter → machine.Waiter Request
as_machine w = record { member = w.member; conn = w.request.id.conn; number = w.request.id.number; call = w.request; deadline = w.deadline }

-- What is to be done with it now, by that machine; whether its call finds memory shows as that is made.
abbrev pub fate_now : Object Request Partition → Run → Waiter → Fate
fate_now o r w = fate_in o (grid_terms (λ x. false)) (world_at o r w.request.partition) (moment_of r w.member) (as_machine w)

-- it waits at that member, in that partition, and something is to be done with it
abbrev pub is_its_turn : Object Request Partition → Run → ℕ → ℕ → Waiter → Bool
is_its_turn o r p member w = (w.request.partition == p) && (w.member == member) && is_over (fate_now o r w)

abbrev pub next_in_turn : Object Request Partition → Run → ℕ → ℕ → Option Waiter
next_in_turn o r p member = find (is_its_turn o r p member) r.waiters

-- it leaves without an answer
abbrev pub leaves : Run → Waiter → Run
leaves r w = arrived (without r w) (ending r w) [] []

-- Its plain call is made, or it is refused as that would be, or it leaves without an answer.
abbrev pub leaves_so : Object Request Partition → List CallId → Run → Option ℕ → Waiter → Fate → Run
leaves_so o skips r own w Stays = r
leaves_so o skips r own w Runs = asks o skips (without r w) own (ending r w)
leaves_so o skips r own w Starves = asks o skips (without r w) own (ending r w)
leaves_so o skips r own w (IsRefused why) = arrived (without r w) (ending r w) [] (refused_at r.lines w.request why)
leaves_so o skips r own w Leaves = leaves r w

abbrev pub turn_of : Object Request Partition → List CallId → Run → Option ℕ → Option Waiter → Run
turn_of o skips r own None = r
turn_of o skips r own (Some w) = leaves_so o skips r own w (fate_now o r w)

-- so many turns, each of the first that waits there and has one
abbrev pub served_so_often : Object Request Partition → List CallId → Option ℕ → ℕ → ℕ → ℕ → Run → Run
served_so_often o skips own p member zero r = r
served_so_often o skips own p member (suc turns) r = served_so_often o skips own p member turns (turn_of o skips r own (next_in_turn o r p member))

-- as many as wait, after which nobody there has one
abbrev pub served : Object Request Partition → List CallId → Run → Option ℕ → ℕ → ℕ → Run
served o skips r own p member = served_so_often o skips own p member (length r.waiters) r

-- in each of these partitions, in order
abbrev pub served_in : Object Request Partition → List CallId → Run → ℕ → List ℕ → Run
served_in o skips r member [] = r
served_in o skips r member (p ∷ ps) = served_in o skips (served o skips r None p member) member ps

-- The calls of a connection that wait leave without an answer, where it has closed.

abbrev pub is_waiting_on : ℕ → Waiter → Bool
is_waiting_on c w = w.request.id.conn == c

abbrev pub left_by : Run → Option Waiter → Run
left_by r None = r
left_by r (Some w) = leaves r w

abbrev pub left_so_often : ℕ → ℕ → Run → Run
left_so_often c zero r = r
left_so_often c (suc more) r = left_so_often c more (left_by r (find (is_waiting_on c) r.waiters))

abbrev pub forsaken : Run → ℕ → Run
forsaken r c = if is_open (connection_of r c) then r else left_so_often c (length r.waiters) r

-- Something else than a call happens to a partition: a member may adopt a row and release answers, the partition may be reopened, and then calls that wait may have their turns.

abbrev pub reopening_by : ℕ → ℕ → Event Request → Outcome → List Reopened
reopening_by p line event.Reopen (RowMadeAt version) = record { partition = p; line = line } ∷ []
reopening_by p line event outcome = []

-- the member that takes a message
abbrev pub taker_of : {C : Type 0} → Event C → Option ℕ
taker_of (event.Deliver from to place) = Some to
taker_of event = None

abbrev pub given_to : Object Request Partition → Run → ℕ → Event Request → Option ℕ → List Appended
given_to o r p event None = []
given_to o r p event (Some member) = let before = world_at o r p in messages_by o r None p member before (happens o before event).world

-- what the event appends, at the member that it reaches
abbrev pub given_out : Object Request Partition → Run → ℕ → Event Request → List Appended
given_out o r p event = given_to o r p event (taker_of event)

abbrev pub occurred : Object Request Partition → Run → ℕ → Event Request → Run
occurred o r p event = record r {
  events = r.events ++ record { partition = p; event = event } ∷ [];
  appended = r.appended ++ given_out o r p event;
  reopened = r.reopened ++ reopening_by p r.lines event (happens o (world_at o r p) event).outcome;
}

abbrev pub is_loss : {C : Type 0} → Event C → Bool
is_loss (event.Lose from to place) = true
is_loss event = false

abbrev pub meets_full : {C : Type 0} → World C → Event C → Bool
meets_full w event = not (is_loss event) && is_full w

-- the member whose waiters may have turns after an event: it took a message, or crashed
abbrev pub stirred_by : {C : Type 0} → Event C → Option ℕ
stirred_by (event.Deliver from to place) = Some to
stirred_by (event.Crash member) = Some member
stirred_by event = None

abbrev pub served_at : Object Request Partition → List CallId → Run → ℕ → Option ℕ → Run
served_at o skips r p None = r
served_at o skips r p (Some member) = served o skips r None p member

abbrev pub takes : Object Request Partition → List CallId → Run → ℕ → Event Request → Run
takes o skips r p event = if meets_full (world_at o r p) event then given_up r else served_at o skips (occurred o r p event) p (stirred_by event)

-- the same in each of these partitions, in order
abbrev pub takes_in : Object Request Partition → List CallId → Run → Event Request → List ℕ → Run
takes_in o skips r event [] = r
takes_in o skips r event (p ∷ ps) = takes_in o skips (takes o skips r p event) event ps

-- The first message of a partition's first link that has one is delivered, up to so many times.

abbrev pub delivery_on : Link → Event Request
delivery_on l = event.Deliver l.from l.to 0

abbrev pub flowed : Object Request Partition → List CallId → Run → ℕ → ℕ → Run
flowed o skips r p zero = r
flowed o skips r p (suc most) = elim (next_link (world_at o r p)) [ None ↦ r | Some l ↦ flowed o skips (takes o skips r p (delivery_on l)) p most ]

abbrev pub flowed_in : Object Request Partition → List CallId → Run → ℕ → List ℕ → Run
flowed_in o skips r most [] = r
flowed_in o skips r most (p ∷ ps) = flowed_in o skips (flowed o skips r p most) most ps

-- the lines at which a partition was reopened, in order
abbrev pub reopened_at : ℕ → List Reopened → List ℕ
reopened_at p reopened = map (λ (x : Reopened). x.line) (filter (λ (x : Reopened). x.partition == p) reopened)

-- a registration

-- the rows that a member knows, in order of partition

abbrev pub known_at : {State : Type 0} → Object Request State → Run → ℕ → ℕ → Option (ℕ × Row)
known_at o r member p = option_map (λ (node : Node). (p, node.known)) (slice_get (world_at o r p).nodes member)

abbrev pub rows_known : {State : Type 0} → Object Request State → Run → ℕ → List (ℕ × Row)
rows_known o r member = filter_map (known_at o r member) (numbers_below partitions)

-- it is answered with nothing
abbrev pub registered_reply : Registration → List ℕ
registered_reply registration = void_bytes (kind_of_registration registration) (correlation_of registration)

abbrev pub sends : Run → List Sent → Run
sends r sent = record r { appended = r.appended ++ events_to r.lines sent }

-- The answer comes first. From then on the connection listens; if to rows, it is sent all those that its member knows, in one event.
abbrev pub registers : {State : Type 0} → Object Request State → Run → ℕ → ℕ → Registration → Run
registers o r c member registration =
    let listener : Listener = record { conn = c; registration = registration } in
    sends (listener_registered (told r c (registered_reply registration)) listener) (rows_of (rows_known o r member) (listener ∷ []))

-- an item of a connection, and several in a row; a call, also one that waits, may give others their turns

abbrev pub calls : Object Request Partition → List CallId → Run → ℕ → Request → Run
calls o skips r member request = served o skips (asks o skips r (Some request.id.conn) (arrival_at r member request)) (Some request.id.conn) request.partition member

abbrev pub begins_to_wait : Object Request Partition → List CallId → Run → ℕ → Request → ℤ → Run
begins_to_wait o skips r member request timeout = served o skips (waits r (waiter_at r member request timeout)) (Some request.id.conn) request.partition member

abbrev pub handled : Object Request Partition → List CallId → Run → Connection → Item → Run
handled o skips r connection (Reply bytes) = told r connection.conn bytes
handled o skips r connection (Asks request) = calls o skips r connection.member request
handled o skips r connection (Wait request timeout) = begins_to_wait o skips r connection.member request timeout
handled o skips r connection (Register registration) = registers o r connection.conn connection.member registration

abbrev pub handled_all : Object Request Partition → List CallId → Run → Connection → List Item → Run
handled_all o skips r connection [] = r
handled_all o skips r connection (item ∷ items) = handled_all o skips (handled o skips r connection item) connection items

-- Lines after the first. Each is counted. One whose condition is false does nothing else.

abbrev pub next_line : Run → Run
next_line r = record r { lines = r.lines + 1 }

-- A member's clock is set, also to an earlier moment.
abbrev pub clock_set : Run → ℕ → ℕ → Run
clock_set r member moment = record r { lines = r.lines + 1; moments = slice_set r.moments member moment }

-- Then who waits there may have turns, in order of partition.
abbrev pub clock_turned : Object Request Partition → List CallId → Run → ℕ → ℕ → Run
clock_turned o skips r member moment = served_in o skips (clock_set r member moment) member (numbers_below partitions)

abbrev pub opened : Run → ℕ → ℕ → Run
opened r c member = record r { lines = r.lines + 1; connections = r.connections ++ record { conn = c; member = member; bytes = [] } ∷ [] }

abbrev pub with_bytes : Connection → List ℕ → Connection
with_bytes connection bytes = record connection { bytes = connection.bytes ++ bytes }

-- the items of the messages that bytes complete
abbrev pub items_by : Connection → List ℕ → List Item
items_by connection bytes = drop (length (items_on connection)) (items_on (with_bytes connection bytes))

abbrev pub took_bytes : Run → Connection → List ℕ → Run
took_bytes r connection bytes = record r { lines = r.lines + 1; connections = updated (with_bytes connection bytes) r.connections }

-- Bytes on a closed connection, or to a member that crashed, do nothing. Others may complete messages, whose items are handled in order, and may then close their connection.
abbrev pub bytes_arrived : Object Request Partition → List CallId → Run → Connection → List ℕ → Run
bytes_arrived o skips r connection bytes =
    if takes_bytes o r connection then forsaken (handled_all o skips (took_bytes r connection bytes) connection (items_by connection bytes)) connection.conn
    else next_line r

-- A connection is opened once, to a member that lives.
abbrev pub can_open : {State : Type 0} → Object Request State → Run → ℕ → ℕ → Bool
can_open o r c member = not (is_some (connection_of r c)) && lives o r member

-- The event that a line is, where it is one event of a partition.

abbrev pub at : ℕ → Event Request → Option At
at partition event = Some (record { partition = partition; event = event })

abbrev pub event_by : Line → Option At
event_by (Deliver partition from to place) = at partition (event.Deliver from to place)
event_by (Lose partition from to place) = at partition (event.Lose from to place)
event_by (Repeat partition from to place) = at partition (event.Repeat from to place)
event_by (Resend partition end) = at partition (event.Resend end)
event_by (Move partition from to) = at partition (event.BeginMove from to)
event_by (Join partition to) = at partition (event.BeginJoin to)
event_by (Handover partition from to) = at partition (event.BeginHandover from to)
event_by (Advance partition) = at partition event.Advance
event_by (Reopen partition) = at partition event.Reopen
event_by line = None
