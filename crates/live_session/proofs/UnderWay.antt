-- What is known of a call that is under way.
use Rattle.std.proofs.Common.{◌≡◌, ℕ, List, Some, None, slice_get, sym, ap, ◌∙◌, subst}
use Rattle.grid_base.specs.declared.calls.Request.{Request}
use Rattle.hand_cell.specs.declared.names.Key.{Key}
use Rattle.hand_cell.specs.declared.outcome.LiveOutcome.{LiveOutcome}
use Rattle.job_queues.specs.declared.call.BegunCall.{BegunCall}
use Rattle.job_queues.specs.Roster.{roster_of}
use Rattle.partition_threads.specs.declared.workplace.Workplace.{Workplace}
use Rattle.session_calls.specs.declared.session.SessionPass.{SessionPass}
use Rattle.session_calls.specs.declared.session.Started.{Started}
use Rattle.session_calls.specs.Calls.{MayFinish, HasReturned}
use Rattle.session_calls.specs.Making.{MayGoOn}
use Rattle.session_calls.specs.Sessions.{pass_at}
use Rattle.session_core.specs.declared.item.Item.{Item}
use Rattle.live_session.specs.declared.connection.Asked.{Asked}
use Rattle.live_session.specs.declared.connection.Going.{Going}
use Rattle.live_session.specs.declared.connection.Going.TheVariants.{Worker, Connection as Here, Lost}
use Rattle.live_session.specs.Connections.{IsAsked, AwaitsCall, AwaitsEnd, RemainsBy}
use Rattle.live_session.specs.Going.{GoesOn, IsWithWorker, IsKeptHere}
use Rattle.live_session.specs.Starts.{Log}
use Rattle.live_session.proofs.Ending.{IsOn}

module _ {T P E O : Type 0} (key_of : E → Key) (tells : P → List E → E → LiveOutcome → Type 0) (call_of : ℕ → Request → ℕ → E) (log : Log) (place : Workplace T P E O)
    (session : SessionPass T P E O) (seen : ℕ → List E) (asked : Asked T P E O) where
  -- what remains, by who goes on with the call
  module _ (number : ℕ) (items rest : List Item) where
    remains_at : (going : Going T P E O) → asked.going ≡ going → RemainsBy key_of tells call_of log place session seen number asked asked.going items rest
        → RemainsBy key_of tells call_of log place session seen number asked going items rest
    remains_at going is remains = subst (λ (g : Going T P E O). RemainsBy key_of tells call_of log place session seen number asked g items rest) is remains

    pub at_worker : (started : Started T P E O) → asked.going ≡ Worker started → RemainsBy key_of tells call_of log place session seen number asked asked.going items rest
        → AwaitsCall key_of tells call_of log place session seen number asked items rest
    at_worker started is remains = remains_at (Worker started) is remains

    pub at_here : (begun : BegunCall T P E O) → asked.going ≡ Here begun → RemainsBy key_of tells call_of log place session seen number asked asked.going items rest
        → AwaitsCall key_of tells call_of log place session seen number asked items rest
    at_here begun is remains = remains_at (Here begun) is remains

    pub at_end : asked.going ≡ Lost → RemainsBy key_of tells call_of log place session seen number asked asked.going items rest
        → AwaitsEnd key_of tells call_of log place session seen items rest
    at_end is remains = remains_at Lost is remains

  module _ (request : Request) (is_asked : IsAsked key_of tells call_of log place session seen asked request) where
    goes_by : (going : Going T P E O) → asked.going ≡ going → GoesOn key_of call_of tells place is_asked.terms session.member asked.call going
    goes_by going is = subst (λ (g : Going T P E O). GoesOn key_of call_of tells place is_asked.terms session.member asked.call g) is is_asked.goes_on

    -- its terms
    plan_by : (going : Going T P E O) → GoesOn key_of call_of tells place is_asked.terms session.member asked.call going
        → slice_get (roster_of place.cells.items).plans request.partition ≡ Some is_asked.terms.plan
    plan_by (Worker started) with_worker = ap (slice_get (roster_of place.cells.items).plans) (sym (with_worker.same_partition ∙ is_asked.partition)) ∙ with_worker.under_way.plan
    plan_by (Here begun) kept = ap (slice_get (roster_of place.cells.items).plans) (sym (kept.same_partition ∙ is_asked.partition)) ∙ kept.running.begun.plan
    plan_by Lost lost = absurd lost

    pub asked_on : IsOn key_of tells call_of log place session seen is_asked.terms request
    asked_on = record {
      now = is_asked.now;
      given = is_asked.given;
      event = is_asked.event;
      plan = plan_by asked.going is_asked.goes_on;
      seen_is = is_asked.seen_is;
      named = is_asked.named;
    }

    away_at : (partition : ℕ) → partition ≡ asked.call.partition → pass_at session partition ≡ Some None
    away_at partition same = ap (λ (p : ℕ). pass_at session p) (same ∙ is_asked.partition) ∙ is_asked.away

    -- a worker's
    module _ (started : Started T P E O) (is : asked.going ≡ Worker started) where
      pub with_worker : IsWithWorker key_of call_of tells place is_asked.terms session.member asked.call started
      with_worker = goes_by (Worker started) is

      pub may_finish : MayFinish key_of place is_asked.terms session started
      may_finish = record { under_way = with_worker.under_way; away = away_at started.partition with_worker.same_partition }

      pub came_back : (new : SessionPass T P E O) (outcome : LiveOutcome) → HasReturned key_of tells is_asked.terms started.id started.partition session new outcome
          → HasReturned key_of tells is_asked.terms request.id request.partition session new outcome
      came_back new outcome returned =
          subst (λ id. HasReturned key_of tells is_asked.terms id request.partition session new outcome) (with_worker.same_id ∙ is_asked.id)
          (subst (λ (partition : ℕ). HasReturned key_of tells is_asked.terms started.id partition session new outcome) (with_worker.same_partition ∙ is_asked.partition) returned)

    -- one that the connection keeps
    module _ (begun : BegunCall T P E O) (is : asked.going ≡ Here begun) where
      pub kept_here : IsKeptHere key_of call_of tells place is_asked.terms session.member asked.call begun
      kept_here = goes_by (Here begun) is

      pub may_go_on : MayGoOn key_of call_of tells place is_asked.terms session begun
      may_go_on = record { running = kept_here.running; same_member = kept_here.same_member; away = away_at begun.partition kept_here.same_partition }

      pub came_from : (new : SessionPass T P E O) (outcome : LiveOutcome) → HasReturned key_of tells is_asked.terms begun.id begun.partition session new outcome
          → HasReturned key_of tells is_asked.terms request.id request.partition session new outcome
      came_from new outcome returned =
          subst (λ id. HasReturned key_of tells is_asked.terms id request.partition session new outcome) (kept_here.same_id ∙ is_asked.id)
          (subst (λ (partition : ℕ). HasReturned key_of tells is_asked.terms begun.id partition session new outcome) (kept_here.same_partition ∙ is_asked.partition) returned)
