use Rattle.std.proofs.Common.{◌≡◌, ◌+◌, ◌*◌, ◌≤◌, length, take, reverse}
use Rattle.partition_protocol.specs.History.{history}
use Rattle.partition_world.specs.Recorders.{log_of, bases_of, openings_of}
use Rattle.partition_world.proofs.recorder.Recorder.history_len.Given as goal

-- the entries so far come after those that the pair's history has by the older bases, and each base gave fewer than 2^64
abbrev pub invariant-loop-older : goal.invariant-loop-older
invariant-loop-older g l = record {
  counted : length (history (openings_of l.self) (log_of l.self) (bases_of l.self) l.fn.leader) ≡ length (history (openings_of l.self) (log_of l.self) (reverse (take l.older l.self.bases.items)) l.from) + l.entries;
  few : l.entries + l.older * 18446744073709551616 ≤ length l.self.bases.items * 18446744073709551616;
}
