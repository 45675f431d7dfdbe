-- The text of a line's outcome and of what happened at it.
use Rattle.std.specs.Prelude.{ℕ, ◌+◌, Bool, true, false, not, List, [], ◌∷◌, ◌++◌, length, drop, sum_by, count_by, Option, Some, None, is_some, option_map, unwrap_or, if◌then◌else◌, codes}
use Rattle.std.specs.Option.{option_or}
use Rattle.std.specs.List.{find, flat_map}
use Rattle.hex.specs.Hex.{encode_lower}
use Rattle.grid_base.specs.Objects.{Object}
use Rattle.grid_base.specs.Names.{is_same_call}
use Rattle.grid_base.specs.declared.names.CallId.{CallId}
use Rattle.grid_base.specs.declared.calls.MapCall.{MapCall}
use Rattle.grid_base.specs.declared.calls.MapCall.TheVariants.{Put, Set, PutIfAbsent, Get, ContainsKey, Remove, Delete, Replace, ReplaceIfSame, RemoveIfSame, TryLock, Unlock, IsLocked, ForceUnlock, ExecuteOnKey, PutMaxIdle, SetMaxIdle}
use Rattle.grid_base.specs.declared.calls.QueueCall.{QueueCall}
use Rattle.grid_base.specs.declared.calls.QueueCall.TheVariants.{Offer, Poll, Peek, Size, RemainingCapacity, Clear}
use Rattle.grid_base.specs.declared.calls.GridCall.{GridCall}
use Rattle.grid_base.specs.declared.calls.GridCall.TheVariants as call
use Rattle.grid_base.specs.declared.calls.Request.{Request}
use Rattle.partition_protocol.specs.History.{Executed, Entry, Called, Reset as Opened}
use Rattle.partition_protocol.specs.World.{trail}
use Rattle.partition_protocol.specs.Service.{numbers_below}
use Rattle.partition_protocol.specs.Events.{Event, Outcome, NothingDone, Done, TookMessage, RowMadeAt, MoveIsRefused, ReopenIsRefused, happens}
use Rattle.partition_protocol.specs.Events as event
use Rattle.call_engine.specs.Calls.{Settings}
use Rattle.call_engine.specs.Objects.{target_of, partition_object}
use Rattle.object_store.specs.Partitions.{Partition}
use Rattle.partition_world.specs.ContentsOf.{pair_at, contents_at}
use Rattle.partition_world.specs.Sending.{flying}
pub use Rattle.line_told.specs.Words.{words_line}
pub use Rattle.line_told.specs.Outcomes.{refusal_words, took_word, move_refused_word, reopen_refused_word, words_of}
pub use Rattle.line_told.specs.Printing.{ok_text, nothing_text, trail_text, dump_text, flow_text, links_text, fault_word, fault_text}
use Rattle.replay_run.specs.Dumps.{word, number, line_end, hex_word, number_or_dash, object_words, dumped_text}
pub use Rattle.replay_run.specs.Appending.{appended_text, new_messages}
use Rattle.replay_run.specs.Rebalancing.{plan_in, steps_in}
use Rattle.replay_run.specs.RebalancingTexts.{plan_text, ran_texts}
use Rattle.partition_world.specs.Answers.{id_of}
use Rattle.partition_world.specs.LinkOrder.{links_of}
use Rattle.replay_run.specs.Runs.{Run, Connection, Arrival, Waiter, Appended, At, is_waiter, partitions, reopened_at, world_at, connection_of, fault_on, can_open, takes_bytes, next_line, taker_of, event_by}
use Rattle.replay_run.specs.Shelves.{grid_meaning}
use Rattle.partition_world.specs.declared.Link.{Link}
use Rattle.script_lang.specs.declared.line.Line.{Line}
use Rattle.script_lang.specs.declared.line.Line.TheVariants.{Grid, OpenConn, Arrive, Flow, FlowAll, Crash, Detect, Rebalance, Dump, Links, Trail, Near, NearGet, NearFeed, Masters, Told, MasterDeliver, MasterLose, MasterResend, MasterFlow, End}
use Rattle.frame_codec.specs.declared.malformed.Malformed.{Malformed}

-- a call in a trail: its place there, the lines at which it arrived and was answered, and the reply
pub record PrintedCall : Type 0 where
  pub partition : ℕ
  pub place : ℕ
  pub id : CallId
  pub arrived : ℕ
  pub answered : Option ℕ
  pub now : ℕ
  pub request : Request
  pub reply : List ℕ

-- a reopening in a trail, and the line of it
pub record PrintedReset : Type 0 where
  pub partition : ℕ
  pub place : ℕ
  pub line : ℕ

-- an entry of a trail, as it is printed
pub data Printed : Type 0 where
  Call : PrintedCall → Printed
  Reset : PrintedReset → Printed

abbrev pub arrival_of : Run → CallId → Option Arrival
arrival_of r id = find (λ (a : Arrival). is_same_call a.request.id id) r.arrivals

-- the line at which a call arrived, be it that it waits
abbrev pub came_at : Run → CallId → Option ℕ
came_at r id = option_or (option_map (λ (a : Arrival). a.line) (arrival_of r id)) (option_map (λ (w : Waiter). w.line) (find (is_waiter id) r.waiters))

abbrev pub is_named : CallId → Option CallId → Bool
is_named id None = false
is_named id (Some other) = is_same_call other id

abbrev pub is_answer_to : CallId → Appended → Bool
is_answer_to id m = is_named id m.answers

abbrev pub answer_of : Run → CallId → Option Appended
answer_of r id = find (is_answer_to id) r.appended

abbrev pub printed : Run → ℕ → ℕ → Executed Request → PrintedCall
printed r p place x = record {
  partition = p;
  place = place;
  id = id_of x;
  arrived = unwrap_or (came_at r (id_of x)) 0;
  answered = option_map (λ (m : Appended). m.line) (answer_of r (id_of x));
  now = x.now;
  request = x.call;
  reply = x.reply;
}

abbrev pub first_line : List ℕ → ℕ
first_line [] = 0
first_line (line ∷ lines) = line

-- where the partition's reopenings that are still to come were at these lines
abbrev pub printed_from : Run → ℕ → ℕ → List ℕ → List (Entry Request) → List Printed
printed_from r p place lines [] = []
printed_from r p place lines (Called x ∷ es) = Call (printed r p place x) ∷ printed_from r p (place + 1) lines es
printed_from r p place lines (Opened version ∷ es) = Reset (record { partition = p; place = place; line = first_line lines }) ∷ printed_from r p (place + 1) (drop 1 lines) es

-- the entries of a partition's trail, and of all trails in order of partition
abbrev pub entries_of : {State : Type 0} → Object Request State → Run → ℕ → List Printed
entries_of o r p = printed_from r p 0 (reopened_at p r.reopened) (trail (world_at o r p))

abbrev pub all_entries : {State : Type 0} → Object Request State → Run → List Printed
all_entries o r = flat_map (entries_of o r) (numbers_below partitions)

-- text

abbrev pub map_call_name : MapCall → List ℕ
map_call_name (Put name key owner value ttl) = codes "put"
map_call_name (Set name key owner value ttl) = codes "set"
map_call_name (PutIfAbsent name key owner value ttl) = codes "putIfAbsent"
map_call_name (Get name key owner) = codes "get"
map_call_name (ContainsKey name key owner) = codes "containsKey"
map_call_name (Remove name key owner) = codes "remove"
map_call_name (Delete name key owner) = codes "delete"
map_call_name (Replace name key owner value) = codes "replace"
map_call_name (ReplaceIfSame name key owner test value) = codes "replaceIfSame"
map_call_name (RemoveIfSame name key owner test) = codes "removeIfSame"
map_call_name (TryLock name key owner lease) = codes "tryLock"
map_call_name (Unlock name key owner) = codes "unlock"
map_call_name (IsLocked name key) = codes "isLocked"
map_call_name (ForceUnlock name key) = codes "forceUnlock"
map_call_name (ExecuteOnKey name key owner number argument) = codes "executeOnKey"
map_call_name (PutMaxIdle name key owner value ttl idle) = codes "putMaxIdle"
map_call_name (SetMaxIdle name key owner value ttl idle) = codes "setMaxIdle"

abbrev pub queue_call_name : QueueCall → List ℕ
queue_call_name (Offer name value) = codes "offer"
queue_call_name (Poll name) = codes "poll"
queue_call_name (Peek name) = codes "peek"
queue_call_name (Size name) = codes "size"
queue_call_name (RemainingCapacity name) = codes "remainingCapacity"
queue_call_name (Clear name) = codes "clear"

abbrev pub call_name : GridCall → List ℕ
call_name (call.Map c) = map_call_name c
call_name (call.Queue c) = queue_call_name c

-- `I entry P PLACE CONN NUMBER ARRIVED ANSWERED NOW OP NAME KEY REPLY`, and of a reset `I entry P PLACE - - LINE - - reset - - -`
abbrev pub entry_text : ℕ → Printed → List ℕ
entry_text line (Call e) =
    number line ++ codes "entry " ++ number e.partition ++ number e.place ++ number e.id.conn ++ number e.id.number
    ++ number e.arrived ++ number_or_dash e.answered ++ number e.now
    ++ word (call_name e.request.call) ++ object_words (target_of e.request) ++ hex_word e.reply ++ line_end
entry_text line (Reset e) = number line ++ codes "entry " ++ number e.partition ++ number e.place ++ codes "- - " ++ number e.line ++ codes "- - reset - - -" ++ line_end

-- `I close C AT WHY`
abbrev pub close_text : ℕ → ℕ → Option Malformed → List ℕ
close_text line c None = []
close_text line c (Some fault) = fault_text line c fault

-- An advance that makes no row freezes the move's source.
abbrev pub done_word : Event Request → List ℕ
done_word event.Advance = codes "freezing"
done_word event = codes "ok"

-- of a crash or a detection, which are done or not, whether or not a row is made
abbrev pub fate_words : Outcome → List ℕ
fate_words Done = codes "ok"
fate_words (RowMadeAt version) = codes "ok"
fate_words outcome = codes "nothing"

-- what an event comes to at a partition
abbrev pub outcome_at : {State : Type 0} → Object Request State → Run → ℕ → Event Request → Outcome
outcome_at o r p event = (happens o (world_at o r p) event).outcome

-- whether a line's condition is false, where it is no event's; the grid by itself has no near clients, and no masters
abbrev pub does_nothing : {State : Type 0} → Object Request State → Run → Line → Bool
does_nothing o before (Grid members backups capacity) = true
does_nothing o before (OpenConn c member) = not (can_open o before c member)
does_nothing o before (Arrive c bytes) = elim (connection_of before c) [ None ↦ true | Some connection ↦ not (takes_bytes o before connection) ]
does_nothing o before (Near c name capacity) = true
does_nothing o before (NearGet c key) = true
does_nothing o before (NearFeed c most) = true
does_nothing o before Masters = true
does_nothing o before (Told member crashed) = true
does_nothing o before (MasterDeliver p from to place) = true
does_nothing o before (MasterLose p from to place) = true
does_nothing o before (MasterResend p member) = true
does_nothing o before line = false

-- the entries that a line prints: those of a partition's trail, or at the end those of all trails
abbrev pub printed_by : {State : Type 0} → Object Request State → Run → Line → List Printed
printed_by o after (Trail p) = entries_of o after p
printed_by o after End = all_entries o after
printed_by o after line = []

abbrev pub new_events : Run → Run → List At
new_events before after = drop (length before.events) after.events

abbrev pub is_delivery : At → Bool
is_delivery e = is_some (taker_of e.event)

-- how many messages were delivered; other events of a flow are of calls that waited
abbrev pub deliveries : Run → Run → ℕ
deliveries before after = count_by is_delivery (new_events before after)

-- the messages in flight on a link of a partition, as their bytes
abbrev pub bytes_on : Settings → Run → ℕ → Link → List (List ℕ)
bytes_on settings r p l = flying (grid_meaning settings) (world_at (partition_object settings) r p) l.from l.to

abbrev pub in_flight : Settings → Run → ℕ → ℕ
in_flight settings r p = sum_by (λ l. length (bytes_on settings r p l)) (links_of r.members)

-- `I link F T PLACE HEX`, in order of F, T and place
abbrev pub message_text : ℕ → Link → ℕ → List ℕ → List ℕ
message_text line l place bytes = number line ++ codes "link " ++ number l.from ++ number l.to ++ number place ++ encode_lower bytes ++ line_end

-- the messages of a link from this place on
abbrev pub link_text_from : ℕ → Link → ℕ → List (List ℕ) → List ℕ
link_text_from line l place [] = []
link_text_from line l place (bytes ∷ messages) = message_text line l place bytes ++ link_text_from line l (place + 1) messages

abbrev pub link_text : Settings → ℕ → Run → ℕ → Link → List ℕ
link_text settings line r p l = link_text_from line l 0 (bytes_on settings r p l)

abbrev pub line_links : Settings → Run → Line → List ℕ
line_links settings after (Links p) = flat_map (link_text settings after.lines after p) (links_of after.members)
line_links settings after line = []

-- A line that is an event has the words of what that came to, and any other is `ok`.
abbrev pub event_text : Settings → Run → ℕ → Option At → List ℕ
event_text settings before line None = ok_text line
event_text settings before line (Some e) = words_line line (words_of (done_word e.event) (outcome_at (partition_object settings) before e.partition e.event))

-- A crash or a detection comes to the same in all partitions.
abbrev pub fate_text : Settings → Run → ℕ → Event Request → List ℕ
fate_text settings before line event = words_line line (fate_words (outcome_at (partition_object settings) before 0 event))

abbrev pub outcome_text : Settings → Run → Line → Run → List ℕ
outcome_text settings before (Dump p member) after = dump_text after.lines (pair_at (world_at (partition_object settings) after p) member)
outcome_text settings before (Trail p) after = trail_text after.lines (length (trail (world_at (partition_object settings) after p)))
outcome_text settings before (Links p) after = links_text after.lines (in_flight settings after p)
outcome_text settings before (Flow p most) after = flow_text after.lines (deliveries before after)
outcome_text settings before (FlowAll most) after = flow_text after.lines (deliveries before after)
outcome_text settings before (MasterFlow p most) after = flow_text after.lines 0
outcome_text settings before (Crash member) after = fate_text settings before after.lines (event.Crash member)
outcome_text settings before (Detect member) after = fate_text settings before after.lines (event.Detect member)
outcome_text settings before (Rebalance most) after = plan_text after.lines (plan_in (partition_object settings) (next_line before))
outcome_text settings before line after = event_text settings before after.lines (event_by line)

-- Each message that a line appended follows its outcome; where the line runs steps, each step ends with a line of its own.
abbrev pub line_messages : Settings → List CallId → Run → Line → Run → List ℕ
line_messages settings skips before (Rebalance most) after = ran_texts (partition_object settings) skips (next_line before) (steps_in (partition_object settings) (next_line before) most)
line_messages settings skips before line after = flat_map appended_text (new_messages before after)

-- the fault of a connection, which closes it
abbrev pub closing_text : ℕ → ℕ → Option Connection → List ℕ
closing_text line c None = []
closing_text line c (Some connection) = close_text line c (fault_on connection)

-- Bytes that show their connection's fault close it.
abbrev pub line_close : Run → Line → List ℕ
line_close after (Arrive c bytes) = closing_text after.lines c (connection_of after c)
line_close after line = []

-- A dump prints each object that the member has of the partition, as its calls have left it.
abbrev pub line_dump : Object Request Partition → Run → Line → List ℕ
line_dump o after (Dump p member) = dumped_text after.lines (contents_at o (world_at o after p) member)
line_dump o after line = []

-- The text of a line at which these calls found no memory: its outcome, then its messages, the connection that it closed, the objects that it dumps, the messages in flight and the entries that it prints.
abbrev pub line_text : Settings → List CallId → Run → Line → Run → List ℕ
line_text settings skips before line after =
    let o = partition_object settings in
    if does_nothing o before line then nothing_text after.lines
    else outcome_text settings before line after ++ line_messages settings skips before line after ++ line_close after line ++ line_dump o after line
    ++ line_links settings after line ++ flat_map (entry_text after.lines) (printed_by o after line)
