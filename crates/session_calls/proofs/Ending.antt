-- A call that has its outcome, or not yet.
use Rattle.std.proofs.Common.{◌≡◌, inl, inr, ⊎_elim, List, [], slice_get, true, sym, ap, ◌∙◌, subst}
use Rattle.grid_base.specs.declared.names.CallId.{CallId}
use Rattle.hand_cell.specs.declared.names.Key.{Key}
use Rattle.hand_cell.specs.declared.names.Key.TheVariants.{Call}
use Rattle.hand_cell.specs.declared.outcome.LiveOutcome.{LiveOutcome}
use Rattle.hand_cell.specs.Names.{has, IsNewKey}
use Rattle.hand_cell.specs.Told.{Told}
use Rattle.hand_cell.proofs.Fresh.{still_new}
use Rattle.job_queues.specs.Answers.{IsAnswered, HasRun, HasNotRun}
use Rattle.job_queues.specs.Roster.{roster_of}
use Rattle.job_queues.specs.Terms.{Terms}
use Rattle.partition_threads.specs.declared.workplace.Workplace.{Workplace}
use Rattle.partition_threads.specs.Starting.{IsAwaited}
use Rattle.session_calls.specs.declared.session.Started.{Started}
use Rattle.session_calls.specs.Calls.{IsUnderWay, IsSameCall}
use Rattle.session_calls.specs.Clause.{HasCalled}

module _ {P E : Type 0} (key_of : E → Key) (terms : Terms P E) (id : CallId) (key : key_of terms.event ≡ Call id) (named : has terms.first.names (Call id) ≡ true) (unused : IsNewKey key_of (Call id) terms.first.seen) where
  -- the answer is the clause of the call
  pub called_as : (tells : P → List E → E → LiveOutcome → Type 0) (pass : Told E) (o : LiveOutcome) → IsAnswered key_of tells terms pass o → HasCalled key_of tells terms id pass o
  called_as tells pass o answer = record {
    same_table = answer.same_table;
    same_names = answer.same_names;
    later = answer.later;
    longer = answer.longer;
    came = ⊎_elim
        (λ (run : HasRun key_of tells terms answer.later o). inl (record {
          event_is = run.event_is;
          key = key;
          none_earlier = still_new key_of terms.first.names (Call id) terms.first.seen run.event_is.before named unused run.event_is.none_before;
          none_later = still_new key_of terms.first.names (Call id) [] run.event_is.after named tt run.event_is.none_after;
          told = run.told;
        }))
        (λ (not_run : HasNotRun key_of tells terms answer.later o). inr (record {
          none = not_run.none;
          nowhere = still_new key_of terms.first.names (Call id) terms.first.seen answer.later named unused not_run.none;
          why = not_run.why;
        }))
        answer.came;
  }

module _ {T P E O : Type 0} (key_of : E → Key) (place : Workplace T P E O) (terms : Terms P E) (s : Started T P E O) (under : IsUnderWay key_of place terms s) where
  pub called : (tells : P → List E → E → LiveOutcome → Type 0) (pass : Told E) (o : LiveOutcome) → IsAnswered key_of tells terms pass o → HasCalled key_of tells terms s.id pass o
  called = called_as key_of terms s.id under.key under.named under.unused

  -- the same call, awaited as before
  pub still_under_way : (again : Started T P E O) → IsAwaited terms again.awaited → IsSameCall s again → IsUnderWay key_of place terms again
  still_under_way again awaited same = record {
    awaited = awaited;
    here = ap (slice_get (roster_of place.cells.items).tables) same.same_partition ∙ under.here;
    plan = ap (slice_get (roster_of place.cells.items).plans) same.same_partition ∙ under.plan;
    key = under.key ∙ ap Call (sym same.same_id);
    named = subst (λ (z : CallId). has terms.first.names (Call z) ≡ true) (sym same.same_id) under.named;
    unused = subst (λ (z : CallId). IsNewKey key_of (Call z) terms.first.seen) (sym same.same_id) under.unused;
  }
