-- By which lines of its machine each partition of a script's run has come to what it is: lines that bring the calls of the run, and no other.
use Rattle.std.specs.Prelude.{◌≡◌, ℕ, ◌≤◌, ◌<◌, ◌⊎◌, true, false, List, ◌++◌, Option, Contains}
use Rattle.grid_base.specs.Objects.{Object}
use Rattle.grid_base.specs.declared.names.CallId.{CallId}
use Rattle.grid_base.specs.declared.calls.Request.{Request}
use Rattle.object_store.specs.Partitions.{Partition}
use Rattle.call_engine.specs.Calls.{Settings}
use Rattle.call_engine.specs.Objects.{partition_object}
use Rattle.partition_protocol.specs.Arrivals.{CallName, NamedOnce}
use Rattle.partition_protocol.specs.Sequences.{IsFrontOf}
use Rattle.script_lang.specs.declared.line.Line as script
use Rattle.waiting_protocol.specs.Claims.{waits_in, names_in}
use Rattle.waiting_protocol.specs.Machine.{Line}
use Rattle.waiting_protocol.specs.Machine as machine
use Rattle.replay_run.specs.ByMachine.{HasGoneBy}
use Rattle.replay_run.specs.Runs.{Run, Arrival, Waiter, partitions, as_machine}
use Rattle.masters_run.specs.Laws.{ruled_with}

-- as it waited, if this was its deadline
abbrev pub as_it_waited : Arrival → Option ℕ → Waiter
as_it_waited a deadline = record { line = a.line; member = a.member; request = a.request; deadline = deadline }

-- a waiting call of the partition: it waits still, or it waits no more
abbrev pub HasWaited : Run → ℕ → machine.Waiter Request → Type 0
HasWaited r p x = ((w : Waiter) × Contains r.waiters w × (w.request.partition ≡ p) × (as_machine w ≡ x))
    ⊎ ((a : Arrival) × Contains r.arrivals a × (a.waits ≡ true) × (a.request.partition ≡ p) × (as_machine (as_it_waited a x.deadline) ≡ x))

-- the name of a call
abbrev pub call_name : Request → CallName
call_name request = record { conn = request.id.conn; number = request.id.number }

-- a call of the run has that name
abbrev pub IsNamed : Run → CallName → Type 0
IsNamed r k = ((a : Arrival) × Contains r.arrivals a × (call_name a.request ≡ k)) ⊎ ((w : Waiter) × Contains r.waiters w × (call_name w.request ≡ k))

-- The waiting calls that these lines bring are those of the run in the partition, each once.
pub record BringsItsCalls (r : Run) (p : ℕ) (lines : List (Line Request)) : Type 0 where
  pub no_other : (x : machine.Waiter Request) → Contains (waits_in lines) x → HasWaited r p x
  pub waiting : (w : Waiter) → Contains r.waiters w → w.request.partition ≡ p → Contains (waits_in lines) (as_machine w)
  pub arrived : (a : Arrival) → Contains r.arrivals a → a.waits ≡ true → a.request.partition ≡ p → (deadline : Option ℕ) × Contains (waits_in lines) (as_machine (as_it_waited a deadline))
  -- each call of the lines, waiting or not, has the name of one of the run's, and no two have one name
  pub known : (k : CallName) → Contains (names_in lines) k → IsNamed r k
  pub once : NamedOnce (names_in lines)

-- By its lines the partition has come to the world that it has, to the moments of the members, to those who wait there, and to the events that happened.
pub record GoesByItsMachine (o : Object Request Partition) (skips : List CallId) (r : Run) (p : ℕ) : Type 0 where
  pub by : HasGoneBy o skips r p
  pub calls : BringsItsCalls r p by.lines

-- Whatever the processors, the queues' capacity, the lines, with masters or without, and the calls that find no memory, unless a line gives the run up.
abbrev pub EveryPartitionGoesByItsMachine : Type 0
EveryPartitionGoesByItsMachine = (settings : Settings) (members backups : ℕ) (skips : List CallId) (lines : List script.Line) (p : ℕ) → 1 ≤ members → p < partitions
    → let r = (ruled_with settings members backups skips lines).run in r.full ≡ false → GoesByItsMachine (partition_object settings) skips r p

-- At two moments: whichever lines a partition has gone by, from there it goes on by more of them.
abbrev pub EveryPartitionGoesOn : Type 0
EveryPartitionGoesOn = (settings : Settings) (members backups : ℕ) (skips : List CallId) (lines more : List script.Line) (p : ℕ) → 1 ≤ members → p < partitions
    → let first = (ruled_with settings members backups skips lines).run in let later = (ruled_with settings members backups skips (lines ++ more)).run in later.full ≡ false
    → (goes : GoesByItsMachine (partition_object settings) skips first p) → (on : GoesByItsMachine (partition_object settings) skips later p) × IsFrontOf goes.by.lines on.by.lines
