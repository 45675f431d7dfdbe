-- When a call's member is gone.
use Rattle.std.proofs.Common.{◌≡◌, ℕ, true, false, not, ◌&&◌, List, [], ◌∷◌, ◌++◌, map, sym, ap, ◌∙◌, subst}
use Rattle.std.proofs.lemmas.List.{map-append}
use Rattle.grid_base.specs.declared.names.CallId.{CallId}
use Rattle.grid_base.specs.declared.calls.Request.{Request}
use Rattle.grid_base.specs.Objects.{Object}
use Rattle.object_store.specs.Partitions.{Partition}
use Rattle.call_engine.specs.Objects.{partition_object}
use Rattle.hand_cell.specs.declared.names.Key.TheVariants as key
use Rattle.hand_cell.specs.Names.{Lacks}
use Rattle.partition_protocol.specs.World.{World as Machine, start, is_live}
use Rattle.partition_protocol.specs.Events.{NothingDone, run, happens}
use Rattle.partition_protocol.proofs.Extends.{run_append}
use Rattle.partition_protocol.proofs.Lists.{In}
use Rattle.partition_protocol.proofs.RowFacts.{both_left, both_right, not_true}
use Rattle.partition_protocol.proofs.WellFormed.{every_run_is_well_formed}
use Rattle.partition_world.specs.declared.event.Event.{Event}
use Rattle.partition_world.specs.declared.event.Event.TheVariants as event
use Rattle.partition_world.specs.ContentsOf.{holds_at}
use Rattle.partition_world.specs.Events.{event_of}
use Rattle.live_grid.specs.declared.plan.GridPlan.{GridPlan}
use Rattle.live_grid.specs.Plans.{settings_for}
use Rattle.live_grid.specs.Histories.{cells, live_key, outcome_after}
use Rattle.live_grid.specs.Outcomes.{name_of, IsUnanswered, IsGoneIn}
use Rattle.live_grid.specs.Lives.{GridWorld, IsWorldOf}
use Rattle.live_grid.proofs.Missed.{missed, held_unanswered}
use Rattle.live_grid.proofs.Once.{names, not_named}
use Rattle.live_grid.proofs.Unanswered.{released_named}

module _ (plan : GridPlan) (history : List (Event Request)) (member : ℕ) (id : CallId) where
  -- where it takes no steps, and holds the call's answer
  pub held_gone : (world : GridWorld) → IsWorldOf world plan history → (not (is_live (cells plan history) member) && holds_at (cells plan history) member id) ≡ true → IsGoneIn plan history member id
  held_gone world is gone =
      let dead = both_left (not (is_live (cells plan history) member)) (holds_at (cells plan history) member id) gone in
      let holds = both_right (not (is_live (cells plan history) member)) (holds_at (cells plan history) member id) gone in record {
        not_live = not_true (is_live (cells plan history) member) dead;
        unanswered = held_unanswered (partition_object (settings_for plan)) plan.partition plan.members plan.backups (map event_of history) is.stands.once member id holds;
      }

  -- a new call has no answer
  new_unanswered : Lacks live_key (key.Call id) history → IsUnanswered (cells plan history) (name_of id)
  new_unanswered lacks answer released same =
      not_named id history lacks (subst (λ n. In n (names history)) same (released_named (partition_object (settings_for plan)) plan.partition plan.members plan.backups (map event_of history) answer released))

  -- where a new call came to nothing
  pub missed_gone : (call : Request) (now : ℕ) → Lacks live_key (key.Call id) history → outcome_after plan history (event.Call member id call now) ≡ NothingDone
      → IsGoneIn plan (history ++ event.Call member id call now ∷ []) member id
  missed_gone call now lacks nothing = record {
    not_live = subst (λ (w : Machine Request). is_live w member ≡ false) (sym same) found.0;
    unanswered = subst (λ (w : Machine Request). IsUnanswered w (name_of id)) (sym same) (new_unanswered lacks);
  }
    where
      o : Object Request Partition
      o = partition_object (settings_for plan)

      e : Event Request
      e = event.Call member id call now

      found : (is_live (cells plan history) member ≡ false) × ((happens o (cells plan history) (event_of e)).world ≡ cells plan history)
      found = let formed = every_run_is_well_formed o plan.partition plan.members plan.backups (map event_of history) in
          missed o (cells plan history) member id.conn id.number call now (formed.nodes ∙ sym formed.same_members) nothing

      same : cells plan (history ++ e ∷ []) ≡ cells plan history
      same = ap (run o (start plan.partition plan.members plan.backups)) (map-append event_of history (e ∷ [])) ∙ (run_append o (start plan.partition plan.members plan.backups) (map event_of history) (event_of e ∷ []) ∙ found.1)
