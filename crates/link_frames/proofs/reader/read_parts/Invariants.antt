-- So far some parts were read, or all of them.
use Rattle.std.proofs.Common.{◌+◌, ◌-◌, ◌≤◌, length}
use Rattle.link_frames.specs.Feeding.{HasRead, least_taken}
use Rattle.link_frames.proofs.reader.read_parts.Given as goal

abbrev pub invariant-loop-more : goal.invariant-loop-more
invariant-loop-more l = record {
  within : l.read.length ≤ length l.bytes;
  reads : HasRead l.more l.fn.stage l.bytes l.read;
}

abbrev pub decreases-loop-more : goal.decreases-loop-more
decreases-loop-more l = (length l.bytes - l.read.length) + least_taken l.more
