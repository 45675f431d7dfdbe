-- So far the reader took the first bytes of the piece.
use Rattle.std.proofs.Common.{◌≡◌, ◌+◌, ◌-◌, ◌≤◌, length}
use Rattle.frame_codec.specs.FrameReaders.{next_place}
use Rattle.frame_codec.specs.Feeding.{Takes}
use Rattle.frame_codec.proofs.reader.FrameReader.take_all.Given as goal

abbrev pub invariant-loop-taken : goal.invariant-loop-taken
invariant-loop-taken l = record {
  within : l.taken ≤ length l.piece;
  place : next_place l.self ≡ next_place l.initial.self + l.taken;
  takes : Takes l.initial.self l.initial.frames.items l.self l.frames.items l.piece l.taken;
}

abbrev pub decreases-loop-taken : goal.decreases-loop-taken
decreases-loop-taken l = length l.piece - l.taken
