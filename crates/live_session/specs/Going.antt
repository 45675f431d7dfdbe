-- Who goes on with a call.
use Rattle.std.specs.Prelude.{◌≡◌, ℕ, List, Option, Some, None}
use Rattle.grid_base.specs.declared.calls.Request.{Request}
use Rattle.hand_cell.specs.declared.names.Key.{Key}
use Rattle.hand_cell.specs.declared.outcome.LiveOutcome.{LiveOutcome}
use Rattle.job_queues.specs.declared.call.BegunCall.{BegunCall}
use Rattle.job_queues.specs.Ends.{after_empty_look}
use Rattle.job_queues.specs.Terms.{Terms}
use Rattle.loop_journal.specs.declared.entry.NotedCall.{NotedCall}
use Rattle.partition_threads.specs.declared.workplace.Workplace.{Workplace}
use Rattle.session_calls.specs.declared.session.Started.{Started}
use Rattle.session_calls.specs.Calls.{IsUnderWay}
use Rattle.session_calls.specs.Making.{IsRunning}
use Rattle.live_session.specs.declared.connection.Asked.{Asked}
use Rattle.live_session.specs.declared.connection.Connection.{Connection}
use Rattle.live_session.specs.declared.connection.Going.{Going}
use Rattle.live_session.specs.declared.connection.Going.TheVariants.{Worker, Connection as Here, Lost}

module _ {T P E O : Type 0} (key_of : E → Key) (call_of : ℕ → Request → ℕ → E) (tells : P → List E → E → LiveOutcome → Type 0) (place : Workplace T P E O) (terms : Terms P E) (member : ℕ) (call : NotedCall) where
  -- A worker has the call on these terms
  pub record IsWithWorker (started : Started T P E O) : Type 0 where
    pub under_way : IsUnderWay key_of place terms started
    pub same_id : started.id ≡ call.id
    pub same_partition : started.partition ≡ call.partition

  -- The call was run on these terms for the session's member, and the connection keeps it
  pub record IsKeptHere (begun : BegunCall T P E O) : Type 0 where
    pub running : IsRunning key_of call_of tells place terms begun
    pub same_member : begun.member ≡ member
    pub same_id : begun.id ≡ call.id
    pub same_partition : begun.partition ≡ call.partition

  -- the call goes on; one that is lost doesn't
  abbrev pub GoesOn : Going T P E O → Type 0
  GoesOn (Worker started) = IsWithWorker started
  GoesOn (Here begun) = IsKeptHere begun
  GoesOn Lost = ⊥

module _ {T P E O : Type 0} where
  -- the connection keeps the call
  abbrev pub IsHere : Going T P E O → Type 0
  IsHere (Here begun) = Unit {0}
  IsHere (Worker started) = ⊥
  IsHere Lost = ⊥

  abbrev pub IsAskedHere : Option (Asked T P E O) → Type 0
  IsAskedHere None = ⊥
  IsAskedHere (Some asked) = IsHere asked.going

  -- it keeps a call
  abbrev pub Keeps : Connection T P E O → Type 0
  Keeps connection = IsAskedHere connection.asked

  -- the call's worker isn't ready: its parcel was found empty once more
  abbrev pub IsUnreadyBy : (was is : Going T P E O) → Type 0
  IsUnreadyBy (Worker started) (Worker again) = again.awaited.end ≡ after_empty_look started.awaited.end
  IsUnreadyBy was is = ⊥

  -- what is noted as under way: the call, unless it is lost
  abbrev pub noted_by : Going T P E O → NotedCall → Option NotedCall
  noted_by (Worker started) call = Some call
  noted_by (Here begun) call = Some call
  noted_by Lost call = None
