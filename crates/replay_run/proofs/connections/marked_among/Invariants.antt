use Rattle.std.proofs.Common.{◌≡◌, ◌≤◌, take}
use Rattle.std.specs.Prelude.{count_by}
use Rattle.replay_run.specs.Tables.{is_marked}
use Rattle.replay_run.proofs.connections.marked_among.Given as goal

-- those of the messages so far
abbrev pub invariant-loop-call : goal.invariant-loop-call
invariant-loop-call l = record {
  counted : l.marked ≡ count_by is_marked (take l.call-index l.calls);
  few : l.marked ≤ l.call-index;
}
