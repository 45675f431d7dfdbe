-- What the sessions' calls come to, once all sessions are joined and what is stored was found.
use Rattle.std.proofs.Common.{◌≡◌, ℕ, ◌+◌, ◌*◌, ◌<◌, ℤ, pos, true, List, [], length, filter, Contains, Option, Some, sym, ap, ◌∙◌, subst, arith}
use Rattle.std.specs.Option.{option_and_then}
use Rattle.std.proofs.lemmas.List.Elements.{All-weaker}
use Rattle.entry_processors.specs.declared.form.Form.{Form}
use Rattle.entry_processors.specs.OutcomeFacts.{IsReadAsSpelled}
use Rattle.entry_processors.specs.Processors.{counted}
use Rattle.grid_base.specs.declared.calls.Request.{Request}
use Rattle.hand_cell.specs.declared.outcome.LiveOutcome.{LiveOutcome}
use Rattle.hand_cell.specs.declared.outcome.LiveOutcome.TheVariants as live
use Rattle.hand_cell.specs.Ready.{most_events}
use Rattle.object_store.specs.Records.{Record, entry_in, nothing_of}
use Rattle.call_engine.specs.Objects.{one_object}
use Rattle.partition_protocol.specs.History.{Entry, state_after}
use Rattle.partition_world.specs.declared.event.Event.{Event}
use Rattle.live_grid.specs.declared.plan.GridPlan.{GridPlan}
use Rattle.live_grid.specs.Outcomes.{IsRepliedIn, LiveTells}
use Rattle.live_grid.specs.Plans.{IsPlanOf, settings_for}
use Rattle.live_grid.specs.Stored.{stored_in}
use Rattle.live_history_laws.specs.Entries.{asks_of, object_trail}
use Rattle.live_history_laws.specs.Fitting.{Fits}
use Rattle.live_history_laws.specs.Leaving.{left_of}
use Rattle.live_history_laws.specs.Names.{AreNamedOnce}
use Rattle.live_history_laws.specs.Reopenings.{reopened}
use Rattle.counted_calls.specs.Calls.{call_of, calls_in, id_of, name_of}
use Rattle.counted_calls.specs.Counts.{AreAnswered, AreCounted, IsAdding, number_stored}
use Rattle.counted_calls.specs.Gathered.{AreGathered, IsCounted}
use Rattle.counted_calls.specs.Sessions.{Ran, event_of, is_answered, is_reply}
use Rattle.counted_calls.specs.declared.requests.TheConstants.{PARTITION, SESSIONS, CALLS}
use Rattle.counted_calls.proofs.Lasting.{still_replied}
use Rattle.counted_calls.proofs.Lists.{all_pass}
use Rattle.counted_calls.proofs.Replied.{CallsAreExecuted, GoneByCrash, all_replied}
use Rattle.counted_calls.proofs.Trails.{all_from_none, run_of, counted_in, as_many, one_more_each, all_added, HasNumber, number_read, nothing_counted}

module _ (executes : CallsAreExecuted) (gone : GoneByCrash) (read : (number : ℤ) → IsReadAsSpelled number) (forms : List Form) (capacity : ℕ) (plan : GridPlan) (of : IsPlanOf 3 1 forms capacity PARTITION plan)
    (key : List ℕ) (history : List (Event Request)) (answered : ℕ) (once : AreNamedOnce history)
    (fits : Fits (one_object (settings_for plan) (name_of key)) (asks_of (name_of key)) plan history (object_trail plan history (name_of key)))
    (never : reopened plan history ≡ []) (left : stored_in plan history (name_of key) ≡ left_of plan history (name_of key))
    (gathered : AreGathered plan key 0 answered history) where
  replied : (one : Ran) → IsCounted plan key history one → (reply : List ℕ) × (one.outcome ≡ live.Replied reply)
  replied = all_replied executes gone forms capacity plan of history gathered.uncontrolled key

  -- each call that was run is counted

  each_answered : filter is_answered gathered.ran ≡ gathered.ran
  each_answered = all_pass is_answered gathered.ran
      (All-weaker (IsCounted plan key history) (λ one. is_answered one ≡ true) (λ one is. ap is_reply (replied one is).1) gathered.ran gathered.each)

  all_ran : answered ≡ length gathered.ran
  all_ran = gathered.count ∙ ap length each_answered

  in_history : length (calls_in history) ≡ length gathered.ran
  in_history = ap length (sym (all_from_none history)) ∙ gathered.as_many

  -- below the limit

  module _ (less : length history < most_events) where
    there : (conn number : ℕ) → conn < SESSIONS → number < CALLS → Contains (calls_in history) (call_of key conn number)
    there conn number high below = subst (λ es. Contains es (call_of key conn number)) (all_from_none history) ((gathered.whole less).each conn number (omega arith) high below)

    all_of_them : length gathered.ran ≡ CALLS * SESSIONS
    all_of_them = let many = (gathered.whole less).many_are in omega (arith, many)

    reply_of : (conn number : ℕ) → conn < SESSIONS → number < CALLS → (reply : List ℕ) × IsRepliedIn plan history (id_of conn number) reply
    reply_of conn number high below = (
      reply_is.0,
      subst (λ events. IsRepliedIn plan events (id_of conn number) reply_is.0) (sym is.told.whole)
          (still_replied plan is.told.before is.told.after (id_of conn number) reply_is.0 told),
    )
      where
        ran : (one : Ran) × Contains gathered.ran one × (event_of key one ≡ call_of key conn number)
        ran = run_of plan key history answered once fits never gathered replied (call_of key conn number) (there conn number high below)

        is : IsCounted plan key history ran.0
        is = counted_in plan key history answered once fits never gathered replied ran.0 ran.1

        reply_is : (reply : List ℕ) × (ran.0.outcome ≡ live.Replied reply)
        reply_is = replied ran.0 is

        told : LiveTells plan is.told.before (call_of key conn number) (live.Replied reply_is.0)
        told = subst (λ (o : LiveOutcome). LiveTells plan is.told.before (call_of key conn number) o) reply_is.1
            (subst (λ (e : Event Request). LiveTells plan is.told.before e ran.0.outcome) ran.2 is.told.told)

    all_answered : AreAnswered plan key history
    all_answered = record { each = there; as_many = in_history ∙ all_of_them; replied = reply_of }

  abbrev trail : List (Entry Request)
  trail = object_trail plan history (name_of key)

  -- where the first processor adds
  found : IsAdding plan → number_stored plan history key ≡ Some (pos answered)
  found adding =
      ap (λ kept. counted (option_and_then (λ (r : Record). (entry_in r).value) kept)) left
      ∙ (number_read (settings_for plan) adding read key (0 + length trail) _ has
      ∙ ap (λ n. Some (pos n)) count)
    where
      as_long : length trail ≡ length (calls_in history)
      as_long = as_many plan key history answered once fits never gathered replied

      count : 0 + length trail ≡ answered
      count = let ran = all_ran in let inside = in_history in let long = as_long in omega (arith, ran, inside, long)

      has : HasNumber (settings_for plan) adding read key (0 + length trail) (state_after (one_object (settings_for plan) (name_of key)) (nothing_of (name_of key)) trail)
      has = all_added (settings_for plan) adding read key trail 0 (nothing_of (name_of key)) (let few = gathered.few in let ran = all_ran in let same = count in omega (arith, few, ran, same))
          (one_more_each plan key history answered once fits never gathered replied) (nothing_counted (settings_for plan) adding read key)

  pub come_to : (total : Option ℤ) → total ≡ number_stored plan history key → AreCounted plan key history (record { answered = answered; total = total })
  come_to total total_is = record {
    count = all_ran ∙ sym in_history;
    answered = all_answered;
    all = λ less. all_ran ∙ all_of_them less;
    stored = total_is;
    agree = λ adding. total_is ∙ found adding;
  }
