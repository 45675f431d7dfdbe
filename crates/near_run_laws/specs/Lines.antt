-- A line that isn't a near client's leaves its run one that goes with the machine.
use Rattle.std.specs.Prelude.{◌≡◌, ◌≢◌, ℕ, List, Contains}
use Rattle.grid_base.specs.declared.names.CallId.{CallId}
use Rattle.call_engine.specs.Calls.{Settings}
use Rattle.call_engine.specs.Objects.{partition_object}
use Rattle.script_lang.specs.declared.line.Line.{Line}
use Rattle.script_lang.specs.declared.line.Line.TheVariants.{OpenConn, Arrive}
use Rattle.near_protocol.specs.Client.{Said}
use Rattle.replay_run.specs.ScriptRuns.{home}
use Rattle.replay_run.specs.Runs.{Run, Waiter}
use Rattle.replay_run.specs.AfterLines.{after_line}
use Rattle.near_run_laws.specs.Following.{Machine}
use Rattle.near_run_laws.specs.NearRuns.{IsNearRun}

-- It opens another connection, or brings bytes on another one, or is of no connection.
abbrev pub IsOthers : ℕ → Line → Type 0
IsOthers c (OpenConn k member) = k ≢ c
IsOthers c (Arrive k bytes) = k ≢ c
IsOthers c line = Unit {0}

-- Whoever waits is on another connection, and in the partition of its object: it may have its turn at any line.
abbrev pub WaitElsewhere : ℕ → Run → Type 0
WaitElsewhere c r = (w : Waiter) → Contains r.waiters w → (w.request.id.conn ≢ c) × (home w.request ≡ w.request.partition)

-- The run goes on with its machine, whose client does nothing, and has heard no more.
pub record GoesOn (settings : Settings) (client : ℕ) (name : List ℕ) (s : Machine) (earlier : List (List ℕ)) (heard : List (Said (List ℕ))) (next : Run) : Type 0 where
  pub machine : Machine
  pub run : IsNearRun settings client name next machine earlier heard
  pub conn : machine.conn ≡ s.conn
  pub idle : machine.client ≡ s.client
  pub number : machine.next_number ≡ s.next_number
  pub elsewhere : WaitElsewhere s.conn next

abbrev pub EveryOtherLineIsFollowed : Type 0
EveryOtherLineIsFollowed = (settings : Settings) (client : ℕ) (name : List ℕ) (r : Run) (s : Machine) (earlier : List (List ℕ)) (heard : List (Said (List ℕ))) (skips : List CallId) (line : Line)
    → IsNearRun settings client name r s earlier heard → WaitElsewhere s.conn r → IsOthers s.conn line → GoesOn settings client name s earlier heard (after_line (partition_object settings) skips r line)
