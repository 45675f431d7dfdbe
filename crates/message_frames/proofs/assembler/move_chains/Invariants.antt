use Rattle.std.proofs.Common.{◌≡◌, take, vec_len, vec_capacity}
use Rattle.message_frames.specs.Lists.{frames_in}
use Rattle.message_frames.proofs.Settling.{AreMoved}
use Rattle.message_frames.proofs.assembler.move_chains.Given as goal

abbrev pub invariant-loop-chain : goal.invariant-loop-chain
invariant-loop-chain l = record {
  moved : AreMoved (frames_in l.initial.lists.items) (take l.chain-index l.chains) l.moved.items (frames_in l.lists.items) (frames_in l.kept.items);
  count : vec_len l.lists ≡ vec_len l.initial.lists;
  kept : vec_len l.kept ≡ l.chain-index;
  capacity : vec_capacity l.kept ≡ vec_capacity l.initial.kept;
}
