use Rattle.std.proofs.Common.{refl}
use Rattle.live_control.proofs.Looking.{at_start}
use Rattle.live_control.proofs.lines.LineReader.new.Goals as goal

pub returns : goal.returns
returns c = λ source. at_start _ source c.in_ok-vec.ensures.len refl refl refl refl refl refl
