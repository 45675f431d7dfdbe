use Rattle.std.proofs.Common.{take}
use Rattle.event_codecs.proofs.Appending.{AreWritten}
use Rattle.event_codecs.proofs.writing.write_row_frames.Given as goal

-- the rows before this one were written
abbrev pub invariant-loop-placed : goal.invariant-loop-placed
invariant-loop-placed l = AreWritten l.initial.out.items l.out.items (take l.placed-index l.rows)
