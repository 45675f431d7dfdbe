-- Calls, before and after their events.
use Rattle.std.specs.Prelude.{◌≡◌, ℕ, true, List, ◌++◌, Option, Some, None, slice_get}
use Rattle.grid_base.specs.declared.names.CallId.{CallId}
use Rattle.grid_base.specs.declared.calls.Request.{Request}
use Rattle.hand_cell.specs.declared.names.Key.{Key}
use Rattle.hand_cell.specs.declared.names.Key.TheVariants.{Call}
use Rattle.hand_cell.specs.declared.outcome.LiveOutcome.{LiveOutcome}
use Rattle.hand_cell.specs.Names.{has, IsNewKey}
use Rattle.hand_cell.specs.Told.{Told}
use Rattle.job_queues.specs.declared.call.NewCall.{NewCall}
use Rattle.job_queues.specs.declared.call.BegunCall.{BegunCall}
use Rattle.job_queues.specs.Answers.{HasEvent, IsAnswered}
use Rattle.job_queues.specs.Roster.{Roster}
use Rattle.job_queues.specs.Terms.{Terms}

module _ {P E : Type 0} (key_of : E → Key) (tells : P → List E → E → LiveOutcome → Type 0) (terms : Terms P E) where
  -- The pass is the one that went with the call, and has seen its event
  pub record IsUnderWay (pass : Told E) : Type 0 where
    pub same_table : pass.table ≡ terms.first.table
    pub same_names : pass.names ≡ terms.first.names
    pub later : List E
    pub longer : pass.seen ≡ terms.first.seen ++ later
    pub event_is : HasEvent key_of tells terms later

  -- with its outcome, or under way
  abbrev pub IsServed : Told E → Option LiveOutcome → Type 0
  IsServed pass None = IsUnderWay pass
  IsServed pass (Some outcome) = IsAnswered key_of tells terms pass outcome

-- The terms are of a call with this name to that member
pub record IsOfCall {P E : Type 0} (key_of : E → Key) (call_of : ℕ → Request → ℕ → E) (terms : Terms P E) (member : ℕ) (id : CallId) : Type 0 where
  pub request : Request
  pub now : ℕ
  pub event : terms.event ≡ call_of member request now
  pub named : request.id ≡ id
  pub key : key_of terms.event ≡ Call id

module _ {T P E O : Type 0} (key_of : E → Key) (call_of : ℕ → Request → ℕ → E) (fits : Request → Type 0) (roster : Roster P) (terms : Terms P E) where
  -- The call may be run on these cells: its pass is of the cell at its partition and has the name of the call, which is new, and
  -- the terms are of this call and of what the pass has seen
  pub record IsNew (call : NewCall T P E O) : Type 0 where
    pub here : slice_get roster.tables call.request.partition ≡ Some call.pass.table
    pub plan : slice_get roster.plans call.request.partition ≡ Some terms.plan
    pub first : terms.first ≡ call.pass
    pub event : terms.event ≡ call_of call.member call.request call.now
    pub named : has call.pass.names (Call call.request.id) ≡ true
    pub unused : IsNewKey key_of (Call call.request.id) call.pass.seen
    pub within : fits call.request

module _ {T P E O : Type 0} (key_of : E → Key) (tells : P → List E → E → LiveOutcome → Type 0) (call_of : ℕ → Request → ℕ → E) (roster : Roster P) (terms : Terms P E) where
  -- The call was run on the cell at its partition on these terms, with its outcome or under way, and has noted them
  pub record IsBegun (call : BegunCall T P E O) (outcome : Option LiveOutcome) : Type 0 where
    pub here : slice_get roster.tables call.partition ≡ Some call.pass.table
    pub plan : slice_get roster.plans call.partition ≡ Some terms.plan
    pub first : call.first.value ≡ terms.first
    pub event : call.event.value ≡ terms.event
    pub of_call : IsOfCall key_of call_of terms call.member call.id
    pub served : IsServed key_of tells terms call.pass outcome
