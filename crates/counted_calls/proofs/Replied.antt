-- Where no operator's event was run, each call that was told an outcome was answered by its object.
use Rattle.std.proofs.Common.{◌≡◌, ℕ, ◌%◌, ◌<◌, ◌≤◌, true, false, List, [], ◌∷◌, ◌++◌, map, Contains, sym, ap, ◌∙◌, subst, refl, arith}
use Rattle.std.proofs.lemmas.List.Elements.{filter-append}
use Rattle.entry_processors.specs.declared.form.Form.{Form}
use Rattle.grid_base.specs.declared.names.CallId.{CallId}
use Rattle.grid_base.specs.declared.calls.Request.{Request}
use Rattle.hand_cell.specs.declared.outcome.LiveOutcome.{LiveOutcome}
use Rattle.hand_cell.specs.declared.outcome.LiveOutcome.TheVariants as live
use Rattle.partition_protocol.specs.Events.{Outcome, Refused}
use Rattle.partition_protocol.specs.Events as protocol
use Rattle.partition_protocol.specs.Execution.{Reached}
use Rattle.partition_protocol.specs.World.{is_live}
use Rattle.partition_world.specs.declared.event.Event.{Event}
use Rattle.partition_world.specs.declared.event.Event.TheVariants as event
use Rattle.partition_world.specs.Events.{event_of}
use Rattle.live_grid.specs.declared.plan.GridPlan.{GridPlan}
use Rattle.live_grid.specs.Control.{controls_in, is_control}
use Rattle.live_grid.specs.Histories.{cells, live_key, outcome_after}
use Rattle.live_grid.specs.Outcomes.{LiveTells, IsRefusedIn}
use Rattle.live_grid.specs.Plans.{IsPlanOf}
use Rattle.live_history_laws.specs.Uncontrolled.{IsUncontrolled, IsExecuted, first_leader}
use Rattle.counted_calls.specs.Calls.{call_of, id_of, request_of}
use Rattle.counted_calls.specs.Gathered.{IsCounted}
use Rattle.counted_calls.specs.Sessions.{Ran}
use Rattle.counted_calls.specs.declared.requests.TheConstants.{PARTITION, LEADER}
use Rattle.counted_calls.proofs.Lists.{there_from_map, there_passed}

-- a beginning of a history in which no operator's event was run
calm_before : (before after : List (Event Request)) → IsUncontrolled (before ++ after) → IsUncontrolled before
calm_before before after calm = first (controls_in before) (controls_in after) (sym (filter-append _ before after) ∙ calm)
  where
    first : (xs ys : List (Event Request)) → xs ++ ys ≡ [] → xs ≡ []
    first [] ys e = refl
    first (x ∷ xs) ys e = absurd cc

-- a crash is an operator's event
crash_controls : (e : Event Request) (member : ℕ) → event_of e ≡ protocol.Crash member → is_control (live_key e) ≡ true
crash_controls (event.Call m id call now) member is = absurd cc
crash_controls (event.Deliver from to place) member is = absurd cc
crash_controls (event.Lose from to place) member is = absurd cc
crash_controls (event.Repeat from to place) member is = absurd cc
crash_controls e member is = refl

no_crash : (history : List (Event Request)) (member : ℕ) → IsUncontrolled history → ¬ (Contains (map event_of history) (protocol.Crash member))
no_crash history member calm crashed = nothing (subst (λ es. Contains es found.0) calm (there_passed _ history found.0 found.1 (crash_controls found.0 member found.2)))
  where
    found : (e : Event Request) × Contains history e × (event_of e ≡ protocol.Crash member)
    found = there_from_map event_of history (protocol.Crash member) crashed

    nothing : Contains [] found.0 → ⊥
    nothing (k, less, same) = absurd (omega (arith, less))

-- What the laws of live histories say of a calm history

abbrev pub CallsAreExecuted : Type 0
CallsAreExecuted = (plan : GridPlan) (history : List (Event Request)) (id : CallId) (request : Request) (now : ℕ) → 1 ≤ plan.members → IsUncontrolled history
    → IsExecuted (outcome_after plan history (event.Call (first_leader plan) id request now))

abbrev pub GoneByCrash : Type 0
GoneByCrash = (plan : GridPlan) (history : List (Event Request)) (member : ℕ) → member < plan.members → is_live (cells plan history) member ≡ false → Contains (map event_of history) (protocol.Crash member)

-- an executed call isn't refused
not_refused : (outcome : Outcome) (why : Reached) → IsExecuted outcome → outcome ≡ Refused why → ⊥
not_refused outcome why executed is = subst IsExecuted is executed

module _ (executes : CallsAreExecuted) (gone : GoneByCrash) (forms : List Form) (capacity : ℕ) (plan : GridPlan) (of : IsPlanOf 3 1 forms capacity PARTITION plan) where
  leads : first_leader plan ≡ LEADER
  leads = ap (λ n. n % plan.members) of.partition_is ∙ ap (λ n. PARTITION % n) of.members_are

  some : 1 ≤ plan.members
  some = let three = of.members_are in omega (arith, three)

  never_refused : (history : List (Event Request)) → IsUncontrolled history → (key : List ℕ) (conn number : ℕ) (why : Reached) → IsRefusedIn plan history (call_of key conn number) why → ⊥
  never_refused history calm key conn number why is =
      not_refused (outcome_after plan is.before (call_of key conn number)) why
      (subst (λ member. IsExecuted (outcome_after plan is.before (event.Call member (id_of conn number) (request_of key conn number) 0))) leads
      (executes plan is.before (id_of conn number) (request_of key conn number) 0 some (calm_before is.before (call_of key conn number ∷ is.after) (subst IsUncontrolled is.whole calm))))
      is.outcome

  never_gone : (history : List (Event Request)) → IsUncontrolled history → is_live (cells plan history) LEADER ≡ false → ⊥
  never_gone history calm is = no_crash history LEADER calm (gone plan history LEADER (let three = of.members_are in omega (arith, three)) is)

  told_reply : (before : List (Event Request)) → IsUncontrolled before → (key : List ℕ) (conn number : ℕ) (outcome : LiveOutcome) → LiveTells plan before (call_of key conn number) outcome
      → (reply : List ℕ) × (outcome ≡ live.Replied reply)
  told_reply before calm key conn number (live.Replied reply) told = (reply, refl)
  told_reply before calm key conn number (live.PartitionLost version) told = absurd (never_refused before calm key conn number _ told)
  told_reply before calm key conn number (live.WrongTarget version) told = absurd (never_refused before calm key conn number _ told)
  told_reply before calm key conn number (live.Migrating version) told = absurd (never_refused before calm key conn number _ told)
  told_reply before calm key conn number live.MemberGone told = absurd (never_gone before calm told.not_live)
  told_reply before calm key conn number live.Exhausted told = absurd told
  told_reply before calm key conn number live.Memory told = absurd told

  -- Each call that was told an outcome was answered
  pub all_replied : (history : List (Event Request)) → IsUncontrolled history → (key : List ℕ) (one : Ran) → IsCounted plan key history one → (reply : List ℕ) × (one.outcome ≡ live.Replied reply)
  all_replied history calm key one is = told_reply is.told.before (calm_before is.told.before is.told.after (subst IsUncontrolled is.told.whole calm)) key one.conn one.number one.outcome is.told.told
