use Rattle.std.proofs.Common.{◌≡◌, ◌++◌}
use Rattle.replay_run.specs.Runs.{events_to}
use Rattle.replay_run.specs.LineTold.{all_told}
use Rattle.replay_run.proofs.outgoing.push_events.Given as goal

-- the events so far were told
abbrev pub invariant-loop-event : goal.invariant-loop-event
invariant-loop-event l = l.out.items ≡ l.initial.out.items ++ all_told (events_to l.line l.yielded)
