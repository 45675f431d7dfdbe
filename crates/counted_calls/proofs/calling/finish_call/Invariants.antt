use Rattle.std.proofs.Common.{◌≡◌}
use Rattle.grid_base.specs.declared.calls.Request.{Request}
use Rattle.job_queues.specs.Terms.{Terms}
use Rattle.partition_world.specs.declared.event.Event.{Event}
use Rattle.session_calls.specs.Calls.{IsSameCall, MayFinish}
use Rattle.session_calls.specs.Sessions.{IsSessionOf}
use Rattle.live_grid.specs.declared.plan.GridPlan.{GridPlan}
use Rattle.live_grid.specs.Histories.{live_key}
use Rattle.counted_calls.proofs.calling.finish_call.Given as goal

abbrev pub invariant-loop : goal.invariant-loop
invariant-loop g l = record {
  of_grid : IsSessionOf l.place l.session;
  same : l.session ≡ l.initial.session;
  call : IsSameCall l.initial.going l.going;
  may : (terms : Terms GridPlan (Event Request)) → MayFinish live_key l.place terms l.initial.session l.initial.going → MayFinish live_key l.place terms l.session l.going;
  some : (terms : Terms GridPlan (Event Request)) × MayFinish live_key l.place terms l.session l.going;
}
