use Rattle.std.proofs.Common.{◌≡◌, ◌++◌, length, vec_len}
use Rattle.partition_world.specs.Places.{at_places, AreBelow}
use Rattle.partition_world.specs.Chains.{told, counted_by}
use Rattle.partition_world.specs.Recorders.{log_of, openings_of}
use Rattle.partition_world.proofs.recorder.Recorder.told_places.Given as goal

-- what the pairs that are left count comes after what stands at the places so far
abbrev pub invariant-loop-pair : goal.invariant-loop-pair
invariant-loop-pair g l = record {
  told : at_places (log_of l.self) l.places.items ++ counted_by (log_of l.self) l.pairs.items ≡ told (openings_of l.self) (log_of l.self) l.fn.chain;
  within : AreBelow (length l.self.log.items) l.places.items;
}

abbrev pub decreases-loop-pair : goal.decreases-loop-pair
decreases-loop-pair g l = vec_len l.pairs
