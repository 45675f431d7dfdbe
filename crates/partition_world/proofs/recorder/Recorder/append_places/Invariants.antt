use Rattle.std.proofs.Common.{◌≡◌, ◌++◌, length, take}
use Rattle.partition_protocol.specs.History.{entries_in}
use Rattle.partition_world.specs.Places.{at_places, AreBelow}
use Rattle.partition_world.specs.Recorders.{log_of}
use Rattle.partition_world.proofs.recorder.Recorder.append_places.Given as goal

-- the places so far are those before, and then those of the log so far
abbrev pub invariant-loop-place : goal.invariant-loop-place
invariant-loop-place g l = record {
  places : at_places (log_of l.self) l.places.items ≡ at_places (log_of l.self) l.initial.places.items ++ entries_in l.pair (take l.place (log_of l.self));
  within : AreBelow (length l.self.log.items) l.places.items;
}
