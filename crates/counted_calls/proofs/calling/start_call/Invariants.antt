use Rattle.session_calls.specs.Sessions.{IsSessionOf}
use Rattle.counted_calls.specs.Callers.{IsSameSession}
use Rattle.counted_calls.proofs.calling.start_call.Given as goal

abbrev pub invariant-loop : goal.invariant-loop
invariant-loop g l = record {
  of_grid : IsSessionOf l.place l.session;
  same : IsSameSession l.initial.session l.session;
}
