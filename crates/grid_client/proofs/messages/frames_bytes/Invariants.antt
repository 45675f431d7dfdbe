use Rattle.std.proofs.Common.{◌≡◌, ◌++◌}
use Rattle.std.specs.Prelude.{drop}
use Rattle.frame_codec.specs.Laws.{spelled}
use Rattle.grid_client.proofs.messages.frames_bytes.Given as goal

-- the bytes so far and those of what is left are all
abbrev pub invariant-loop-frame : goal.invariant-loop-frame
invariant-loop-frame l = l.bytes.items ++ spelled (drop l.frame-index l.frames) ≡ spelled l.fn.frames
