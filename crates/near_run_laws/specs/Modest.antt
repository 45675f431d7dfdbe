-- The limits within which all that is sent on a near connection is one stream of messages.
use Rattle.std.specs.Prelude.{ℕ, ◌+◌, ◌^◌, ◌<◌, ◌≤◌, List, length, Contains, ⊤}
use Rattle.grid_base.specs.Limits.{CallFits, most_bytes}
use Rattle.grid_base.specs.Names.{key_of}
use Rattle.grid_base.specs.Objects.{Object}
use Rattle.grid_base.specs.declared.calls.GridCall.{GridCall}
use Rattle.grid_base.specs.declared.calls.GridCall.TheVariants as call
use Rattle.grid_base.specs.declared.calls.Request.{Request}
use Rattle.grid_base.specs.declared.names.CallId.{CallId}
use Rattle.message_frames.specs.Assembly.{most_messages}
use Rattle.object_store.specs.Partitions.{Partition}
use Rattle.partition_protocol.specs.Events.{Event, Call}
use Rattle.script_lang.specs.Lines.{IsWithin}
use Rattle.script_lang.specs.declared.line.Line.{Line}
use Rattle.replay_run.specs.Runs.{Run, Waiter, events_at, partitions}
use Rattle.replay_run.specs.AfterLines.{after_line}
use Rattle.near_run_laws.specs.Messages.{sent_to}

-- The key of a map's entry has the eight bytes before its content.
abbrev pub HasKey : GridCall → Type 0
HasKey (call.Map c) = 8 ≤ length (key_of c)
HasKey (call.Queue c) = ⊤

-- The parts of a call fit frames.
abbrev pub IsFitting : Request → Type 0
IsFitting request = CallFits request.call × HasKey request.call

abbrev pub BringsFitting : Event Request → Type 0
BringsFitting (Call k conn number request now) = IsFitting request
BringsFitting event = ⊤

-- Each event is in one of the grid's partitions, and its call fits.
abbrev pub AreProper : Run → Type 0
AreProper r = (p : ℕ) (e : Event Request) → Contains (events_at p r.events) e → (p < partitions) × BringsFitting e

-- So is the call of whoever waits, which may be an event later.
pub record StaysProper (r : Run) : Type 0 where
  pub events : AreProper r
  pub waiters : (w : Waiter) → Contains r.waiters w → (w.request.partition < partitions) × IsFitting w.request

-- A near client of a map is on the connection. Members are counted by a byte, and the events of a partition by four bytes; an
-- invalidation of any key of the map fits a message; and there is a number for each message to the connection.
pub record IsModest (c : ℕ) (name : List ℕ) (r : Run) : Type 0 where
  pub members : r.members < 2 ^ 8
  pub few : (p : ℕ) → length (events_at p r.events) + 1 < 2 ^ 32
  pub proper : AreProper r
  pub short : length name + 30 ≤ most_bytes
  pub room : length (sent_to c r.appended) ≤ most_messages

-- A line of a script leaves a run proper, whatever it is.
abbrev pub EveryLineStaysProper : Type 0
EveryLineStaysProper = (o : Object Request Partition) (skips : List CallId) (r : Run) (members size : ℕ) (line : Line) → IsWithin members size line → StaysProper r → StaysProper (after_line o skips r line)
