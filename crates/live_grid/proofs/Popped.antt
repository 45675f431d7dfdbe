-- A world that gave an answer out.
use Rattle.std.proofs.Common.{◌≡◌, List, ◌++◌, ◌∷◌, [], map, refl, ◌∙◌, sym, subst}
use Rattle.std.proofs.lemmas.List.Elements.{All-push}
use Rattle.grid_base.specs.declared.names.CallId.{CallId}
use Rattle.grid_base.specs.declared.calls.Request.{Request}
use Rattle.call_engine.specs.Calls.{Settings}
use Rattle.call_engine.specs.Limits.{RequestFits}
use Rattle.partition_protocol.specs.Events as protocol
use Rattle.partition_protocol.specs.World.{World as Machine}
use Rattle.primary_hold.specs.declared.answer.CallAnswer.{CallAnswer}
use Rattle.partition_world.specs.declared.event.Event.{Event}
use Rattle.partition_world.specs.Events.{event_of}
use Rattle.partition_world.specs.Recorders.{KeepsStanding}
use Rattle.partition_world.specs.Worlds.{StandsFor, IsReleased, run_of, setup_of}
use Rattle.live_grid.specs.declared.plan.GridPlan.{GridPlan}
use Rattle.live_grid.specs.Plans.{settings_for}
use Rattle.live_grid.specs.Histories.{cells}
use Rattle.live_grid.specs.Outcomes.{IsRepliedIn}
use Rattle.live_grid.specs.Lives.{GridWorld, grid_meaning, IsWorldOf, AreReleased}
use Rattle.live_grid.proofs.Standing.{machine_is}

module _ (plan : GridPlan) (history : List (Event Request)) (old : GridWorld) (is : IsWorldOf old plan history) where
  -- giving it out is no event
  pub still_world : (new : GridWorld) → ((s : Settings) (events : List (protocol.Event Request)) → StandsFor (grid_meaning s) KeepsStanding RequestFits old events → StandsFor (grid_meaning s) KeepsStanding RequestFits new events)
      → setup_of new ≡ setup_of old → IsWorldOf new plan history
  still_world new stays same = record { stands = stays (settings_for plan) (map event_of history) is.stands; setup = same ∙ is.setup }

  module _ (answer : CallAnswer)
      (released : (s : Settings) (events : List (protocol.Event Request)) → StandsFor (grid_meaning s) KeepsStanding RequestFits old events → IsReleased (run_of (grid_meaning s) old events) answer) where
    given : IsReleased (cells plan history) answer
    given = subst (λ (w : Machine Request). IsReleased w answer) (machine_is plan old history is) (released (settings_for plan) (map event_of history) is.stands)

    pub replied : (id : CallId) → answer.id ≡ id → IsRepliedIn plan history id answer.reply
    replied id named = record { answer = answer; released = given; named = named; reply_is = refl }

    pub pushed_too : (answers more : List CallAnswer) → more ≡ answers ++ answer ∷ [] → AreReleased plan history answers → AreReleased plan history more
    pushed_too answers more grown all = subst (AreReleased plan history) (sym grown) (All-push (IsReleased (cells plan history)) answers answer all given)
