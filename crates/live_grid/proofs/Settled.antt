-- What the outcome of a call's event tells at once.
use Rattle.std.proofs.Common.{◌≡◌, ℕ, List, [], ◌∷◌, ◌++◌, IfSome, refl, sym}
use Rattle.grid_base.specs.declared.calls.Request.{Request}
use Rattle.grid_base.specs.declared.refusal.PartitionRefused.TheVariants as refusal
use Rattle.hand_cell.specs.Names.{IsNew}
use Rattle.partition_protocol.specs.Execution.{Reached}
use Rattle.partition_protocol.specs.Events.{Refused}
use Rattle.partition_world.specs.declared.event.CallOutcome.TheVariants as call
use Rattle.partition_world.specs.declared.event.Event.{Event}
use Rattle.partition_world.specs.declared.event.Happened.{Happened}
use Rattle.partition_world.specs.declared.event.Happened.TheVariants as happened
use Rattle.live_grid.specs.declared.plan.GridPlan.{GridPlan}
use Rattle.live_grid.specs.Histories.{live_call, live_key, outcome_after}
use Rattle.live_grid.specs.Outcomes.{IsRefusedIn, LiveGives, LiveTells, settled_as}
use Rattle.live_grid.proofs.Gone.{missed_gone}

module _ (plan : GridPlan) (history : List (Event Request)) (member : ℕ) (request : Request) (now : ℕ) where
  abbrev e : Event Request
  e = live_call member request now

  refused : (why : Reached) → outcome_after plan history e ≡ Refused why → IsRefusedIn plan (history ++ e ∷ []) e why
  refused why is = record { before = history; after = []; whole = refl; outcome = is }

  pub settled_tells : (outcome : Happened) → IsNew live_key history e → LiveGives plan history e outcome → IfSome (settled_as outcome) (λ o. LiveTells plan (history ++ e ∷ []) e o)
  settled_tells happened.Nothing new gives = missed_gone plan history member request.id request now new (sym gives)
  settled_tells happened.Done new gives = tt
  settled_tells (happened.Called (call.Held seen)) new gives = tt
  settled_tells (happened.Called (call.Released seen)) new gives = tt
  settled_tells (happened.Called (call.Refused (refusal.PartitionLost version))) new gives = refused _ (sym gives)
  settled_tells (happened.Called (call.Refused (refusal.WrongTarget version))) new gives = refused _ (sym gives)
  settled_tells (happened.Called (call.Refused (refusal.Migrating version))) new gives = refused _ (sym gives)
  settled_tells (happened.Took took) new gives = tt
  settled_tells (happened.RowMade version) new gives = tt
  settled_tells (happened.MoveRefused why) new gives = tt
  settled_tells (happened.ReopenRefused why) new gives = tt
