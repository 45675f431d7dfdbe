-- What was appended are the frames so far.
use Rattle.std.proofs.Common.{◌≡◌, ◌++◌, take}
use Rattle.frame_codec.specs.Laws.{spelled}
use Rattle.message_frames.proofs.writing.write_frames.Given as goal

abbrev pub invariant-loop-frame : goal.invariant-loop-frame
invariant-loop-frame l = l.out.items ≡ l.fn.out.items ++ spelled (take l.frame-index l.frames)
