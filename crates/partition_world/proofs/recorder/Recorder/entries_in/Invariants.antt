use Rattle.std.proofs.Common.{◌≡◌, ◌≤◌, length, take}
use Rattle.partition_protocol.specs.History.{entries_in}
use Rattle.partition_world.specs.Recorders.{log_of}
use Rattle.partition_world.proofs.recorder.Recorder.entries_in.Given as goal

-- those of the log so far
abbrev pub invariant-loop-entry : goal.invariant-loop-entry
invariant-loop-entry g l = record {
  counted : l.entries ≡ length (entries_in l.pair (take l.entry-index (log_of l.self)));
  few : l.entries ≤ l.entry-index;
}
