-- A call that its caller makes.
use Rattle.std.proofs.Common.{◌≡◌, ℕ, List, subst, ◌∙◌, Result, Ok, Err, IfOk, Option}
use Rattle.grid_base.specs.declared.calls.Request.{Request}
use Rattle.grid_base.specs.declared.names.CallId.{CallId}
use Rattle.hand_cell.specs.declared.names.Key.{Key}
use Rattle.hand_cell.specs.declared.outcome.LiveOutcome.{LiveOutcome}
use Rattle.job_queues.specs.declared.call.BegunCall.{BegunCall}
use Rattle.job_queues.specs.declared.call.NewCall.{NewCall}
use Rattle.job_queues.specs.Calls.{IsNew}
use Rattle.job_queues.specs.Roster.{Roster}
use Rattle.job_queues.specs.Terms.{Terms}
use Rattle.partition_threads.specs.declared.making.Made.{Made}
use Rattle.partition_threads.specs.Making.{CameTo, HasMade}
use Rattle.partition_threads.specs.Steps.{IsRun}

-- what holds of what came holds as it is said otherwise
pub if_ok : {A B : Type 0} (P Q : A → Type 0) (r : Result A B) → ((a : A) → P a → Q a) → IfOk r P → IfOk r Q
if_ok P Q (Ok a) f p = f a p
if_ok P Q (Err b) f p = tt

module _ {T P E O : Type 0} (key_of : E → Key) (tells : P → List E → E → LiveOutcome → Type 0) (call_of : ℕ → Request → ℕ → E) (roster : Roster P) (terms : Terms P E) where
  -- what a call came to that was run here, it came to under the names that it was given
  pub came_as : (member partition : ℕ) (id : CallId) (call : BegunCall T P E O) (o : Option LiveOutcome) (made : Made T P E O) → IsRun key_of tells call_of roster terms member partition id call o
      → CameTo key_of tells call_of roster terms call.member call.partition call.id made → CameTo key_of tells call_of roster terms member partition id made
  came_as member partition id call o made run came =
      subst (λ (m : ℕ). CameTo key_of tells call_of roster terms m partition id made) run.same_member
      (subst (λ (p : ℕ). CameTo key_of tells call_of roster terms call.member p id made) run.same_partition
      (subst (λ (i : CallId). CameTo key_of tells call_of roster terms call.member call.partition i made) run.same_id came))

  -- what a call came to that may be run on these terms, it came to on those of its pass
  pub made_on : (fits : Request → Type 0) (j : NewCall T P E O) → IsNew key_of call_of fits roster terms j → (made : Made T P E O)
      → CameTo key_of tells call_of roster terms j.member j.request.partition j.request.id made → HasMade key_of tells call_of roster j.pass j.member j.request j.now made
  made_on fits j is made came = record { terms = terms; plan = is.plan; first = is.first; event = is.event; came = came }

  -- the same of a call that came back as it was given, and was handed over then
  pub made_by : {X : Type 0} (fits : Request → Type 0) (j k : NewCall T P E O) → k ≡ j → IsNew key_of call_of fits roster terms j → (r : Result (Made T P E O) X)
      → (IsNew key_of call_of fits roster terms k → IfOk r (λ made. CameTo key_of tells call_of roster terms k.member k.request.partition k.request.id made))
      → IfOk r (λ made. HasMade key_of tells call_of roster j.pass j.member j.request j.now made)
  made_by fits j k same is r came = if_ok (λ made. CameTo key_of tells call_of roster terms j.member j.request.partition j.request.id made)
      (λ made. HasMade key_of tells call_of roster j.pass j.member j.request j.now made) r (made_on fits j is)
      (subst (λ (n : NewCall T P E O). IsNew key_of call_of fits roster terms n → IfOk r (λ made. CameTo key_of tells call_of roster terms n.member n.request.partition n.request.id made)) same came is)

  -- a call that was run, after another step
  pub ran_on : (member partition : ℕ) (id : CallId) (call again : BegunCall T P E O) (before after : Option LiveOutcome) → IsRun key_of tells call_of roster terms member partition id call before
      → IsRun key_of tells call_of roster terms call.member call.partition call.id again after → IsRun key_of tells call_of roster terms member partition id again after
  ran_on member partition id call again before after was is = record {
    begun = is.begun;
    same_member = is.same_member ∙ was.same_member;
    same_partition = is.same_partition ∙ was.same_partition;
    same_id = is.same_id ∙ was.same_id;
  }
