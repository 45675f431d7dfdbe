-- For callers: what the start of a call and its end say together.
use Rattle.std.proofs.Common.{◌≡◌, ℕ, List, Option, Some, None, slice_get, sym, ap, ◌∙◌, subst}
use Rattle.grid_base.specs.declared.names.CallId.{CallId}
use Rattle.grid_base.specs.declared.calls.Request.{Request}
use Rattle.hand_cell.specs.declared.names.Key.{Key}
use Rattle.hand_cell.specs.declared.outcome.LiveOutcome.{LiveOutcome}
use Rattle.hand_cell.specs.Told.{Told}
use Rattle.job_queues.specs.Roster.{roster_of}
use Rattle.job_queues.specs.Terms.{Terms}
use Rattle.partition_threads.specs.declared.workplace.Workplace.{Workplace}
use Rattle.session_calls.specs.declared.session.SessionPass.{SessionPass}
use Rattle.session_calls.specs.declared.session.Started.{Started}
use Rattle.session_calls.specs.Calls.{IsSameCall}
use Rattle.session_calls.specs.Clause.{HasCalled}
use Rattle.session_calls.specs.Laws.{StartedMayFinish, UnfinishedMayFinish, CallsEndAsStarted, CallsEndOnTheirTerms, KeptMayGoOn, StillKeptMayGoOn, HandedOverMayFinish}
use Rattle.session_calls.specs.Sessions.{HasPassAt}
use Rattle.session_calls.proofs.Places.{same_some, set_there}

module _ {T P E O : Type 0} where
  -- a call that was found not yet ended is the one that was started
  pub same_call : (first second third : Started T P E O) → IsSameCall first second → IsSameCall second third → IsSameCall first third
  same_call first second third p q = record { same_id = q.same_id ∙ p.same_id; same_partition = q.same_partition ∙ p.same_partition }

module _ {T P E O : Type 0} (key_of : E → Key) where
  pub started_may_finish : (call_of : ℕ → Request → ℕ → E) (place : Workplace T P E O) → StartedMayFinish key_of call_of place
  started_may_finish call_of place before away request now started start = record {
    under_way = start.under_way;
    away = subst (λ (n : ℕ). slice_get away.passes.items n ≡ Some None) (sym start.partition)
        (ap (λ (l : List (Option (Told E))). slice_get l request.partition) start.away.passes ∙ set_there before.passes.items request.partition (Some start.terms.first) None start.pass);
  }

  pub unfinished_may_finish : (place : Workplace T P E O) → UnfinishedMayFinish key_of place
  unfinished_may_finish place terms old new started again may not_yet = record {
    under_way = not_yet.under_way;
    away = subst (λ (s : SessionPass T P E O). slice_get s.passes.items again.partition ≡ Some None) (sym not_yet.same_session)
        (subst (λ (n : ℕ). slice_get old.passes.items n ≡ Some None) (sym not_yet.same_call.same_partition) may.away);
  }

module _ {T P E O : Type 0} (key_of : E → Key) (call_of : ℕ → Request → ℕ → E) (tells : P → List E → E → LiveOutcome → Type 0) where
  pub ends_on_its_terms : (place : Workplace T P E O) → CallsEndOnTheirTerms key_of call_of tells place
  ends_on_its_terms place before request now terms are first there old new outcome returned = record {
    last = returned.pass;
    back = returned.back;
    call = record {
      plan = terms.plan;
      here = are.plan;
      called = subst (λ (t : Terms P E). HasCalled key_of tells t request.id returned.pass outcome) terms_are returned.called;
    };
  }
    where
      first_is : terms.first ≡ first
      first_is = same_some terms.first first (same_some (Some terms.first) (Some first) (sym are.pass ∙ there))

      terms_are : terms ≡ record { plan = terms.plan; first = first; event = call_of before.member request now }
      terms_are k = record { plan = terms.plan; first = first_is k; event = are.event k }

  pub ends_as_it_was_started : (place : Workplace T P E O) → CallsEndAsStarted key_of call_of tells place
  ends_as_it_was_started place before away request now started start first there again same old new outcome ready =
      ends_on_its_terms place before request now start.terms
      (record { pass = start.pass; event = start.event; plan = ap (slice_get (roster_of place.cells.items).plans) (sym start.partition) ∙ start.under_way.plan }) first there old new outcome
      (record {
        pass = ready.pass;
        back = subst (λ (n : ℕ). HasPassAt old new n (Some ready.pass)) (same.same_partition ∙ start.partition) ready.back;
        called = subst (λ (n : CallId). HasCalled key_of tells start.terms n ready.pass outcome) (same.same_id ∙ start.id) ready.called;
      })

  pub kept_may_go_on : (place : Workplace T P E O) → KeptMayGoOn key_of call_of tells place
  kept_may_go_on place before new request now call why kept = record {
    running = kept.running;
    same_member = kept.same_member ∙ sym kept.member;
    away = subst (λ (n : ℕ). slice_get new.passes.items n ≡ Some None) (sym kept.same_partition)
        (ap (λ (l : List (Option (Told E))). slice_get l request.partition) kept.away ∙ set_there before.passes.items request.partition (Some kept.terms.first) None kept.terms_are.pass);
  }

  pub still_kept_may_go_on : (place : Workplace T P E O) → StillKeptMayGoOn key_of call_of tells place
  still_kept_may_go_on place terms old new call again why may kept = record {
    running = kept.running;
    same_member = kept.same_member ∙ sym kept.same_session.same_member;
    away = subst (λ (n : ℕ). slice_get new.passes.items n ≡ Some None) (sym kept.same_partition) (ap (λ (l : List (Option (Told E))). slice_get l call.partition) kept.same_session.same_passes ∙ may.away);
  }

  pub handed_over_may_finish : (place : Workplace T P E O) → HandedOverMayFinish key_of call_of tells place
  handed_over_may_finish place terms old new call started may over = record {
    under_way = over.under_way;
    away = subst (λ (n : ℕ). slice_get new.passes.items n ≡ Some None) (sym over.same_partition) (ap (λ (l : List (Option (Told E))). slice_get l call.partition) over.same_session.same_passes ∙ may.away);
  }
