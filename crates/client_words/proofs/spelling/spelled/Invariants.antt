-- Where each frame is within its limits, the bytes are those of the frames so far.
use Rattle.std.proofs.Common.{◌≡◌, take, All}
use Rattle.frame_codec.specs.Laws.{IsWithinLimits, spelled}
use Rattle.client_words.proofs.spelling.spelled.Given as goal

abbrev pub invariant-loop-frame : goal.invariant-loop-frame
invariant-loop-frame l = All IsWithinLimits l.frames → l.bytes.items ≡ spelled (take l.frame-index l.frames)
