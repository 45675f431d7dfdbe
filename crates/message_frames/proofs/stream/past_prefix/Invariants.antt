use Rattle.std.proofs.Common.{◌≡◌, ◌+◌, ◌≤◌, length, drop}
use Rattle.message_frames.specs.Messages.{prefix_of, differing}
use Rattle.message_frames.proofs.stream.past_prefix.Given as goal

abbrev pub invariant-loop-byte : goal.invariant-loop-byte
invariant-loop-byte l = record {
  count : l.now ≡ l.begun + l.byte-index;
  within : l.now ≤ length (prefix_of l.prefix);
  left : differing l.begun (drop l.begun (prefix_of l.prefix)) l.piece ≡ differing l.now (drop l.now (prefix_of l.prefix)) (drop l.byte-index l.piece);
}
