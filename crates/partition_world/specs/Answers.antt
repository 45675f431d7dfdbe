-- The answers that an event releases, each as the log has it.
use Rattle.std.specs.Prelude.{ℕ, Bool, false, ◌==◌, if◌then◌else◌, List, [], Option, Some, None, option_map, length, drop, reverse}
use Rattle.std.specs.List.{find, filter_map, before_last}
use Rattle.std.specs.Option.{option_and_then}
use Rattle.grid_base.specs.Objects.{Object}
use Rattle.grid_base.specs.Names.{is_same_call}
use Rattle.grid_base.specs.declared.names.CallId.{CallId}
use Rattle.grid_base.specs.declared.calls.Change.{Change}
use Rattle.partition_protocol.specs.Node.{Held}
use Rattle.partition_protocol.specs.History.{Entry, Executed, Called, Reset, state_after}
use Rattle.partition_protocol.specs.World.{World, pair_history}
use Rattle.partition_protocol.specs.Events.{Event, Call, Deliver, happens}
use Rattle.primary_hold.specs.declared.answer.CallAnswer.{CallAnswer}

abbrev pub id_of : {C : Type 0} → Executed C → CallId
id_of x = record { conn = x.conn; number = x.number }

-- the entry is that of the call with this name
abbrev pub is_call : {C : Type 0} → CallId → Entry C → Bool
is_call id (Called x) = is_same_call (id_of x) id
is_call id (Reset version) = false

abbrev pub executed_in : {C : Type 0} → Entry C → Option (Executed C)
executed_in (Called x) = Some x
executed_in (Reset version) = None

-- the newest call of that name
abbrev pub newest_call : {C : Type 0} → CallId → List (Entry C) → Option (Executed C)
newest_call id log = option_and_then executed_in (find (is_call id) (reverse log))

-- the state in which a call was executed: that which the calls before it leave, in the history that its pair names
abbrev pub state_before : {C State : Type 0} → Object C State → World C → Executed C → State
state_before o w x = state_after o o.empty (before_last (is_call (id_of x)) (pair_history w (record { version = x.version; count = x.seen })))

-- the answer of an executed call, with how the call changed a value
abbrev pub answer_of : {C State : Type 0} → Object C State → (State → C → ℕ → Option Change) → World C → Executed C → CallAnswer
answer_of o change_of w x = record {
  id = id_of x;
  version = x.version;
  seen = x.seen;
  reply = x.reply;
  change = change_of (state_before o w x) x.call x.now;
}

-- the answer that was held for a call of the log
abbrev pub held_answer : {C State : Type 0} → Object C State → (State → C → ℕ → Option Change) → World C → Held → Option CallAnswer
held_answer o change_of w held = option_map (answer_of o change_of w) (newest_call (record { conn = held.conn; number = held.number }) w.recorded.log)

-- the answers that were released between two moments of a world, in order
abbrev pub released_by : {C State : Type 0} → Object C State → (State → C → ℕ → Option Change) → World C → World C → List CallAnswer
released_by o change_of before after = filter_map (held_answer o change_of after) (drop (length before.released) after.released)

-- a member takes a step at a call or a message that reaches it
abbrev pub is_at : {C : Type 0} → Event C → ℕ → Bool
is_at (Call to conn number call now) member = to == member
is_at (Deliver from to place) member = to == member
is_at event member = false

-- the answers that an event releases at a member
abbrev pub released_at : {C State : Type 0} → Object C State → (State → C → ℕ → Option Change) → World C → Event C → ℕ → List CallAnswer
released_at o change_of w event member = if is_at event member then released_by o change_of w (happens o w event).world else []
