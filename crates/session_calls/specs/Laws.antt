-- What the start of a call and its end say together.
use Rattle.std.specs.Prelude.{◌≡◌, ℕ, List, Some, slice_get}
use Rattle.grid_base.specs.declared.calls.Request.{Request}
use Rattle.hand_cell.specs.declared.names.Key.{Key}
use Rattle.hand_cell.specs.declared.outcome.LiveOutcome.{LiveOutcome}
use Rattle.hand_cell.specs.Told.{Told}
use Rattle.job_queues.specs.declared.call.BegunCall.{BegunCall}
use Rattle.job_queues.specs.Roster.{Roster, roster_of}
use Rattle.job_queues.specs.Terms.{Terms}
use Rattle.partition_threads.specs.declared.starting.Obstacle.{Obstacle}
use Rattle.partition_threads.specs.declared.workplace.Workplace.{Workplace}
use Rattle.session_calls.specs.declared.session.SessionPass.{SessionPass}
use Rattle.session_calls.specs.declared.session.Started.{Started}
use Rattle.session_calls.specs.Calls.{HasStarted, MayFinish, IsSameCall, HasReturned, IsReady, IsNotYet}
use Rattle.session_calls.specs.Clause.{HasCalled}
use Rattle.session_calls.specs.Making.{AreTermsOf, MayGoOn, IsHandedOver, IsKeptStill, IsKept}
use Rattle.session_calls.specs.Sessions.{pass_at, HasPassAt}

module _ {T P E O : Type 0} (key_of : E → Key) where
  -- a call that was started may be finished
  abbrev pub StartedMayFinish : (ℕ → Request → ℕ → E) → Workplace T P E O → Type 0
  StartedMayFinish call_of place = (before away : SessionPass T P E O) (request : Request) (now : ℕ) (started : Started T P E O)
      → (start : HasStarted key_of call_of place before away request now started) → MayFinish key_of place start.terms away started

  -- and one that was found not yet ended may be finished again
  abbrev pub UnfinishedMayFinish : Workplace T P E O → Type 0
  UnfinishedMayFinish place = (terms : Terms P E) (old new : SessionPass T P E O) (started again : Started T P E O)
      → MayFinish key_of place terms old started → IsNotYet key_of place terms started again old new → MayFinish key_of place terms new again

module _ {P E : Type 0} (key_of : E → Key) (call_of : ℕ → Request → ℕ → E) (tells : P → List E → E → LiveOutcome → Type 0) where
  -- A request was called at a member and at this moment, with this outcome: first is the pass as it went with the call, and last as it
  -- came back. What first has seen is a beginning of what last has seen. There the call's event stands once, and this is its outcome;
  -- or the call stands nowhere, and was refused
  pub record IsCallOf (roster : Roster P) (member : ℕ) (request : Request) (now : ℕ) (first last : Told E) (outcome : LiveOutcome) : Type 0 where
    pub plan : P
    pub here : slice_get roster.plans request.partition ≡ Some plan
    pub called : HasCalled key_of tells (record { plan = plan; first = first; event = call_of member request now }) request.id last outcome

module _ {T P E O : Type 0} (key_of : E → Key) (call_of : ℕ → Request → ℕ → E) (tells : P → List E → E → LiveOutcome → Type 0) where
  -- A call of a session has come to its outcome, and its pass is back
  pub record IsCallBack (place : Workplace T P E O) (member : ℕ) (request : Request) (now : ℕ) (first : Told E) (old new : SessionPass T P E O) (outcome : LiveOutcome) : Type 0 where
    pub last : Told E
    pub back : HasPassAt old new request.partition (Some last)
    pub call : IsCallOf key_of call_of tells (roster_of place.cells.items) member request now first last outcome

  -- A call was started by a session (before, away), and a look (old, new) found its outcome, whatever the session did between: then it
  -- is the outcome of that request, at that member and moment, with the pass that was there before the start
  abbrev pub CallsEndAsStarted : Workplace T P E O → Type 0
  CallsEndAsStarted place = (before away : SessionPass T P E O) (request : Request) (now : ℕ) (started : Started T P E O)
      → (start : HasStarted key_of call_of place before away request now started) (first : Told E) → pass_at before request.partition ≡ Some (Some first)
      → (again : Started T P E O) → IsSameCall started again
      → (old new : SessionPass T P E O) (outcome : LiveOutcome) → IsReady key_of tells start.terms again old new outcome
      → IsCallBack place before.member request now first old new outcome

  -- A call of a session was made on its terms, at once or not, and came to its outcome (old, new), whatever the session did between: then it is
  -- the outcome of that request, at that member and moment, with the pass that was there before
  abbrev pub CallsEndOnTheirTerms : Workplace T P E O → Type 0
  CallsEndOnTheirTerms place = (before : SessionPass T P E O) (request : Request) (now : ℕ) (terms : Terms P E) → AreTermsOf call_of place before request now terms
      → (first : Told E) → pass_at before request.partition ≡ Some (Some first)
      → (old new : SessionPass T P E O) (outcome : LiveOutcome) → HasReturned key_of tells terms request.id request.partition old new outcome
      → IsCallBack place before.member request now first old new outcome

  -- a session may go on with a call that it keeps
  abbrev pub KeptMayGoOn : Workplace T P E O → Type 0
  KeptMayGoOn place = (before new : SessionPass T P E O) (request : Request) (now : ℕ) (call : BegunCall T P E O) (why : Obstacle)
      → (kept : IsKept key_of call_of tells place before new request now call why) → MayGoOn key_of call_of tells place kept.terms new call

  -- and again with one that it keeps still
  abbrev pub StillKeptMayGoOn : Workplace T P E O → Type 0
  StillKeptMayGoOn place = (terms : Terms P E) (old new : SessionPass T P E O) (call again : BegunCall T P E O) (why : Obstacle)
      → MayGoOn key_of call_of tells place terms old call → IsKeptStill key_of call_of tells place terms call.id call.partition old new again why
      → MayGoOn key_of call_of tells place terms new again

  -- and may finish one that was handed over
  abbrev pub HandedOverMayFinish : Workplace T P E O → Type 0
  HandedOverMayFinish place = (terms : Terms P E) (old new : SessionPass T P E O) (call : BegunCall T P E O) (started : Started T P E O)
      → MayGoOn key_of call_of tells place terms old call → IsHandedOver key_of call_of tells place terms call.id call.partition old new started
      → MayFinish key_of place terms new started
