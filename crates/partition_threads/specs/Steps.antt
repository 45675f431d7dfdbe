-- A call that has run, and what a turn with a delivery comes to for it.
use Rattle.std.specs.Prelude.{◌≡◌, ℕ, List, Option, Some, None}
use Rattle.grid_base.specs.declared.calls.Request.{Request}
use Rattle.grid_base.specs.declared.names.CallId.{CallId}
use Rattle.hand_cell.specs.declared.names.Key.{Key}
use Rattle.hand_cell.specs.declared.outcome.LiveOutcome.{LiveOutcome}
use Rattle.job_queues.specs.declared.call.BegunCall.{BegunCall}
use Rattle.job_queues.specs.Calls.{IsBegun}
use Rattle.job_queues.specs.Roster.{Roster}
use Rattle.job_queues.specs.Terms.{Terms}
use Rattle.partition_threads.specs.declared.turns.Step.{Step}
use Rattle.partition_threads.specs.declared.turns.Step.TheVariants.{Known, Delivered, Rests}

module _ {T P E O : Type 0} (key_of : E → Key) (tells : P → List E → E → LiveOutcome → Type 0) (call_of : ℕ → Request → ℕ → E) (roster : Roster P) (terms : Terms P E) (member partition : ℕ) (id : CallId) where
  -- The call with this name was run at the member and the partition on these terms, with its outcome or under way
  pub record IsRun (call : BegunCall T P E O) (outcome : Option LiveOutcome) : Type 0 where
    pub begun : IsBegun key_of tells call_of roster terms call outcome
    pub same_member : call.member ≡ member
    pub same_partition : call.partition ≡ partition
    pub same_id : call.id ≡ id

  -- the call comes back, with its outcome or under way
  abbrev pub IsStep : Step T P E O → Type 0
  IsStep (Known call outcome) = IsRun call (Some outcome)
  IsStep (Delivered call) = IsRun call None
  IsStep (Rests call) = IsRun call None
