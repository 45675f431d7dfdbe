-- A call after a turn.
use Rattle.std.proofs.Common.{◌≡◌, ℕ, true, List, ap, sym, refl, ◌∙◌, subst, Option, Some, None, get_or, slice_get}
use Rattle.grid_base.specs.declared.calls.Request.{Request}
use Rattle.hand_cell.specs.declared.cell.Cell.{Cell}
use Rattle.hand_cell.specs.declared.names.Key.{Key}
use Rattle.hand_cell.specs.declared.names.Key.TheVariants.{Call}
use Rattle.hand_cell.specs.declared.outcome.LiveOutcome.{LiveOutcome}
use Rattle.hand_cell.specs.Calls.{plan_of}
use Rattle.hand_cell.specs.Names.{has as has_name, IsNewKey}
use Rattle.hand_cell.specs.Told.{Told}
use Rattle.job_queues.specs.declared.call.BegunCall.{BegunCall}
use Rattle.job_queues.specs.declared.call.NewCall.{NewCall}
use Rattle.job_queues.specs.Calls.{IsNew, IsBegun, IsServed}
use Rattle.job_queues.specs.Roster.{Roster, roster_of}
use Rattle.job_queues.specs.Terms.{Terms, terms_for, terms_noted}
use Rattle.partition_threads.specs.Steps.{IsRun}
use Rattle.partition_threads.specs.Turns.{HasBegun}
use Rattle.partition_threads.proofs.Places.{plan_at, planned}

-- a call with its pass after another turn
abbrev pub after_turn : {T P E O : Type 0} → BegunCall T P E O → Told E → Option ℕ → BegunCall T P E O
after_turn k q looked = record { pass = q; member = k.member; partition = k.partition; id = k.id; looked = looked; first = k.first; event = k.event }

module _ {P E : Type 0} (key_of : E → Key) (tells : P → List E → E → LiveOutcome → Type 0) where
  same_table : (t : Terms P E) (q : Told E) (o : Option LiveOutcome) → IsServed key_of tells t q o → q.table ≡ t.first.table
  same_table t q None served = served.same_table
  same_table t q (Some x) served = served.same_table

module _ {T P E O : Type 0} (key_of : E → Key) (tells : P → List E → E → LiveOutcome → Type 0) (call_of : ℕ → Request → ℕ → E) where
  -- a call that may be run has terms
  pub may_run : (fits : Request → Type 0) (cells : List (Cell T P E O)) (j : NewCall T P E O) → slice_get (roster_of cells).tables j.request.partition ≡ Some j.pass.table
      → has_name j.pass.names (Call j.request.id) ≡ true → IsNewKey key_of (Call j.request.id) j.pass.seen → fits j.request
      → (terms : Terms P E) × IsNew key_of call_of fits (roster_of cells) terms j
  may_run fits cells j here named unused within = let plan = planned cells j.request.partition j.pass.table here in (
    record { plan = plan.0; first = j.pass; event = call_of j.member j.request j.now },
    record { here = here; plan = plan.1; first = refl; event = refl; named = named; unused = unused; within = within },
  )

  -- the terms of a call that is to be run are those for its cell
  pub new_are : (fits : Request → Type 0) (cells : List (Cell T P E O)) (terms : Terms P E) (j : NewCall T P E O) → IsNew key_of call_of fits (roster_of cells) terms j
      → (i : ℕ) (cell : Cell T P E O) → i ≡ j.request.partition → cell ≡ get_or cells i cell → terms_for call_of cell j.pass j.member j.request j.now ≡ terms
  new_are fits cells terms j for i cell same is = let plan = plan_at cells j.request.partition i terms.plan cell for.plan same is in λ n. record { plan = plan n; first = sym for.first n; event = sym for.event n }

  -- a call that was to be run, after its turn
  pub run_from : (fits : Request → Type 0) (cells : List (Cell T P E O)) (terms : Terms P E) (j : NewCall T P E O) → IsNew key_of call_of fits (roster_of cells) terms j
      → (i : ℕ) (cell : Cell T P E O) → i ≡ j.request.partition → cell ≡ get_or cells i cell
      → (k : BegunCall T P E O) (o : Option LiveOutcome) → HasBegun key_of tells call_of (plan_of cell) j.pass j.member j.request j.now k o
      → IsRun key_of tells call_of (roster_of cells) terms j.member j.request.partition j.request.id k o
  run_from fits cells terms j for i cell same is k o has = record {
    begun = record {
      here = ap (slice_get (roster_of cells).tables) has.same_partition ∙ (for.here ∙ ap Some (sym (same_table key_of tells terms k.pass o now ∙ ap (λ (z : Told E). z.table) for.first)));
      plan = ap (slice_get (roster_of cells).plans) has.same_partition ∙ for.plan;
      first = has.first_noted ∙ sym for.first;
      event = has.event_noted ∙ sym for.event;
      of_call = record {
        request = j.request;
        now = j.now;
        event = for.event ∙ ap (λ (m : ℕ). call_of m j.request j.now) (sym has.same_member);
        named = sym has.same_id;
        key = ap key_of for.event ∙ (has.key ∙ ap Call (sym has.same_id));
      };
      served = now;
    };
    same_member = has.same_member;
    same_partition = has.same_partition;
    same_id = has.same_id;
  }
    where
      now : IsServed key_of tells terms k.pass o
      now = subst (λ (t : Terms P E). IsServed key_of tells t k.pass o) (new_are fits cells terms j for i cell same is) has.served

  -- a call that is under way, after another turn
  pub goes_on_to : (roster : Roster P) (terms : Terms P E) (k : BegunCall T P E O) → IsBegun key_of tells call_of roster terms k None → (q : Told E) (o : Option LiveOutcome) (looked : Option ℕ) → IsServed key_of tells terms q o
      → IsBegun key_of tells call_of roster terms (after_turn k q looked) o
  goes_on_to roster terms k is q o looked served = record {
    here = is.here ∙ ap Some (is.served.same_table ∙ sym (same_table key_of tells terms q o served));
    plan = is.plan;
    first = is.first;
    event = is.event;
    of_call = is.of_call;
    served = served;
  }

  -- the terms that a call noted are those that it was run on
  pub noted_are : (cells : List (Cell T P E O)) (terms : Terms P E) (k : BegunCall T P E O) (o : Option LiveOutcome) → IsBegun key_of tells call_of (roster_of cells) terms k o
      → (i : ℕ) (cell : Cell T P E O) → i ≡ k.partition → cell ≡ get_or cells i cell → terms_noted cell k ≡ terms
  noted_are cells terms k o is i cell same at = let plan = plan_at cells k.partition i terms.plan cell is.plan same at in λ n. record { plan = plan n; first = is.first n; event = is.event n }
