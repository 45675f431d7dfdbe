-- What the code does with calls that wait: the turns of a list, one by one.
use Rattle.std.specs.Prelude.{◌≡◌, ℕ, ℤ, ◌<◌, true, false, List, ◌++◌, length, Option, Some, None, option_map, Contains}
use Rattle.grid_base.specs.Limits.{CallFits}
use Rattle.grid_base.specs.declared.names.CallId.{CallId}
use Rattle.grid_base.specs.declared.calls.Request.{Request}
use Rattle.call_engine.specs.Calls.{Settings}
use Rattle.call_engine.specs.Env.{settings_of}
use Rattle.call_engine.specs.Objects.{partition_object}
use Rattle.partition_world.specs.LinkOrder.{links_of}
use Rattle.replica_node.specs.Calls.{refused_as}
use Rattle.waiting_protocol.specs.Machine.{Fate, IsRefused, Leaves, is_made}
use Rattle.wait_sets.specs.declared.spot.Spot.{Spot}
use Rattle.wait_sets.specs.declared.turn.Turn.{Turn}
use Rattle.wait_sets.specs.declared.turn.Turn.TheVariants.{Call, Refusal, Silence}
use Rattle.replay_run.specs.declared.grid.Grid.{Grid}
use Rattle.replay_run.specs.Appending.{new_messages}
use Rattle.replay_run.specs.Endings.{AreAmong, new_arrivals}
use Rattle.replay_run.specs.Grids.{FormOf, HasTable, HasWaiters, IsTally, HasWorld, AreListening, IsCounting, Holds}
use Rattle.replay_run.specs.Runs.{Run, Waiter, partitions, without, fate_now, next_in_turn, turn_of, leaves_so, served, calls, begins_to_wait}
use Rattle.replay_run.specs.ScriptRuns.{IsRun}
use Rattle.replay_run.specs.Tables.{Table, Opened, opened_at}
use Rattle.replay_run.specs.LineTold.{all_told}
use Rattle.line_told.specs.declared.told.Told.{Told}
use Rattle.replay_run.specs.WorldCalls.{Onward}

-- between two steps of a line

-- The grid has what the run has by then, and those listen who do while this connection's bytes are at hand, if any are.
pub record IsBetween {V : Type 0} {T : V → Type 0} (form : FormOf V T) (settings : Settings) (grid : Grid V T) (r : Run) (own : Option ℕ) : Type 0 where
  pub run : IsRun (partition_object settings) r
  pub holds : Holds form settings grid r
  pub listeners : AreListening grid.listeners.items r own

-- how many messages of a connection were handled
abbrev pub handled_count : Opened → ℕ
handled_count opened = length opened.calls

-- no more messages were handled
abbrev pub SameCounts : Table → Table → Type 0
SameCounts old new = (c : ℕ) → option_map handled_count (opened_at new c) ≡ option_map handled_count (opened_at old c)

-- The run has gone on so, by the calls that found no memory, none of whose messages was handled anew; and the messages that this appended were told.
pub record HasServed {V : Type 0} {T : V → Type 0} (form : FormOf V T) (settings : Settings) (old new : Grid V T) (r : Run) (own : Option ℕ) (onward : Onward) (earlier later : List Told) : Type 0 where
  pub skips : List CallId
  pub among : AreAmong (new_arrivals r (onward skips)) skips
  pub between : IsBetween form settings new (onward skips) own
  pub counts : SameCounts old.connections new.connections
  pub added : later ≡ earlier ++ all_told (new_messages r (onward skips))

-- the turn of one waiter, and of all that have one

abbrev pub by_turn : Settings → Run → Option ℕ → ℕ → ℕ → Onward
by_turn settings r own p member skips = turn_of (partition_object settings) skips r own (next_in_turn (partition_object settings) r p member)

abbrev pub by_turns : Settings → Run → Option ℕ → ℕ → ℕ → Onward
by_turns settings r own p member skips = served (partition_object settings) skips r own p member

abbrev pub by_leaving : Settings → Run → Option ℕ → Waiter → Onward
by_leaving settings r own w skips = leaves_so (partition_object settings) skips r own w (fate_now (partition_object settings) r w)

-- The waiter was taken out of its list, and all else is as it was.
pub record HoldsBut {V : Type 0} {T : V → Type 0} (form : FormOf V T) (settings : Settings) (grid : Grid V T) (r : Run) (w : Waiter) : Type 0 where
  pub goes_by : settings_of form grid.env ≡ settings
  pub goes_on : r.full ≡ false
  pub lines : grid.lines ≡ r.lines
  pub members : grid.members ≡ r.members
  pub links : grid.links.items ≡ links_of r.members
  pub moments : grid.moments.items ≡ r.moments
  pub clocks : length r.moments ≡ r.members
  pub table : HasTable grid.connections r
  pub waiters : HasWaiters grid.waiters (without r w)
  pub tally : IsTally grid.tally r
  pub reopened : grid.reopened.items ≡ r.reopened
  pub worlds : (p : ℕ) → p < partitions → HasWorld settings grid.worlds.items r p

-- what is to be done with a waiter, as the code has it
abbrev pub IsTurnOf : Turn → Waiter → Fate → Type 0
IsTurnOf (Call request) w fate = (request ≡ w.request) × (is_made fate ≡ true)
IsTurnOf (Refusal request why) w fate = (request ≡ w.request) × (fate ≡ IsRefused (refused_as why))
IsTurnOf (Silence request) w fate = (request ≡ w.request) × (fate ≡ Leaves)

-- Nobody there has a turn, or the first that has one was taken out.
abbrev pub HasTakenOut : {V : Type 0} {T : V → Type 0} → FormOf V T → Settings → Grid V T → Run → ℕ → ℕ → Option Turn → Type 0
HasTakenOut form settings new r p member None = (next_in_turn (partition_object settings) r p member ≡ None) × Holds form settings new r
HasTakenOut form settings new r p member (Some turn) =
    (w : Waiter) × (next_in_turn (partition_object settings) r p member ≡ Some w) × IsTurnOf turn w (fate_now (partition_object settings) r w) × HoldsBut form settings new r w

-- It may leave: it was the first that has a turn there, and was taken out.
pub record MayLeave {V : Type 0} {T : V → Type 0} (form : FormOf V T) (settings : Settings) (grid : Grid V T) (r : Run) (at : Spot) (own : Option ℕ) (turn : Turn) (w : Waiter) : Type 0 where
  pub run : IsRun (partition_object settings) r
  pub holds : HoldsBut form settings grid r w
  pub listeners : AreListening grid.listeners.items r own
  pub there : Contains r.waiters w
  pub fits : CallFits w.request.call
  pub within : at.member < r.members
  pub low : at.partition < partitions
  pub member : w.member ≡ at.member
  pub partition : w.request.partition ≡ at.partition
  pub turns : IsTurnOf turn w (fate_now (partition_object settings) r w)

-- A call was handled, waiting or not, and those who wait where it came had their turns: so many messages of its connection were handled by then.
pub record HasHandledCall {V : Type 0} {T : V → Type 0} (form : FormOf V T) (settings : Settings) (new : Grid V T) (r : Run) (conn number : ℕ) (onward : Onward) (earlier later : List Told) : Type 0 where
  pub skips : List CallId
  pub among : AreAmong (new_arrivals r (onward skips)) skips
  pub between : IsBetween form settings new (onward skips) (Some conn)
  pub counting : IsCounting new.connections (onward skips) conn number
  pub added : later ≡ earlier ++ all_told (new_messages r (onward skips))

abbrev pub by_call : Settings → Run → ℕ → Request → Onward
by_call settings r member request skips = calls (partition_object settings) skips r member request

abbrev pub by_waiting : Settings → Run → ℕ → Request → ℤ → Onward
by_waiting settings r member request timeout skips = begins_to_wait (partition_object settings) skips r member request timeout
