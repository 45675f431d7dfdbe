-- What was replied stays replied.
use Rattle.std.proofs.Common.{ℕ, List, ◌++◌, map, Contains, sym, subst}
use Rattle.std.proofs.lemmas.List.{map-append}
use Rattle.std.proofs.lemmas.List.Elements.{Contains-append_left}
use Rattle.grid_base.specs.declared.names.CallId.{CallId}
use Rattle.grid_base.specs.declared.calls.Request.{Request}
use Rattle.call_engine.specs.Objects.{partition_object}
use Rattle.partition_protocol.specs.Events.{run}
use Rattle.partition_protocol.specs.Sequences.{IsFrontOf}
use Rattle.partition_protocol.specs.World.{start}
use Rattle.partition_protocol.proofs.Extends.{run_longer}
use Rattle.partition_world.specs.declared.event.Event.{Event}
use Rattle.partition_world.specs.Events.{event_of}
use Rattle.live_grid.specs.declared.plan.GridPlan.{GridPlan}
use Rattle.live_grid.specs.Histories.{cells}
use Rattle.live_grid.specs.Outcomes.{IsRepliedIn}
use Rattle.live_grid.specs.Plans.{settings_for}

in_front : {X : Type 0} (xs ys : List X) (x : X) → IsFrontOf xs ys → Contains xs x → Contains ys x
in_front xs ys x front c = subst (λ zs. Contains zs x) front.1 (Contains-append_left xs front.0 x c)

-- what was logged and what was released, as a history goes on
longer : (plan : GridPlan) (before after : List (Event Request))
    → IsFrontOf (cells plan before).recorded.log (cells plan (before ++ after)).recorded.log × IsFrontOf (cells plan before).released (cells plan (before ++ after)).released
longer plan before after =
    let object = partition_object (settings_for plan) in
    let opening = start plan.partition plan.members plan.backups in
    subst (λ es. IsFrontOf (cells plan before).recorded.log (run object opening es).recorded.log × IsFrontOf (cells plan before).released (run object opening es).released)
    (sym (map-append event_of before after)) (run_longer object opening (map event_of before) (map event_of after))

pub still_replied : (plan : GridPlan) (before after : List (Event Request)) (id : CallId) (reply : List ℕ) → IsRepliedIn plan before id reply → IsRepliedIn plan (before ++ after) id reply
still_replied plan before after id reply is =
    let more = longer plan before after in record {
      answer = is.answer;
      released = record {
        released = in_front (cells plan before).released (cells plan (before ++ after)).released _ more.1 is.released.released;
        call = is.released.call;
        executed = in_front (cells plan before).recorded.log (cells plan (before ++ after)).recorded.log _ more.0 is.released.executed;
        id = is.released.id;
        version = is.released.version;
        seen = is.released.seen;
        reply = is.released.reply;
      };
      named = is.named;
      reply_is = is.reply_is;
    }
