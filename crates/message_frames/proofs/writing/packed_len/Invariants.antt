-- The first fragment has the frames so far and whatever of the others fits into its room.
use Rattle.std.proofs.Common.{◌≡◌, ◌+◌, ◌-◌, ◌<◌, ◌≤◌, length, take, drop}
use Rattle.message_frames.specs.Writing.{packed, packed_behind}
use Rattle.message_frames.proofs.Packing.{glued}
use Rattle.message_frames.proofs.writing.packed_len.Given as goal

abbrev pub invariant-loop-count : goal.invariant-loop-count
invariant-loop-count l = record {
  some : 0 < l.count;
  within : l.count ≤ length l.frames;
  small : l.used ≤ l.size + 1048576;
  so_far : packed l.size l.frames ≡ glued (take l.count l.frames) (packed_behind l.size (l.size - l.used) (drop l.count l.frames));
}

abbrev pub decreases-loop-count : goal.decreases-loop-count
decreases-loop-count l = length l.frames - l.count
