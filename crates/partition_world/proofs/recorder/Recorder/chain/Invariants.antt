use Rattle.std.proofs.Common.{◌≡◌, ◌++◌, reverse, take}
use Rattle.partition_protocol.specs.History.{history}
use Rattle.partition_world.specs.Chains.{counted_by}
use Rattle.partition_world.specs.Recorders.{log_of, bases_of, openings_of}
use Rattle.partition_world.proofs.recorder.Recorder.chain.Given as goal

-- what the pairs so far count comes after the history that the pair names by the older bases
abbrev pub invariant-loop-older : goal.invariant-loop-older
invariant-loop-older g l =
    history (openings_of l.self) (log_of l.self) (bases_of l.self) l.fn.leader
    ≡ history (openings_of l.self) (log_of l.self) (reverse (take l.older l.self.bases.items)) l.pair ++ counted_by (log_of l.self) l.pairs.items
