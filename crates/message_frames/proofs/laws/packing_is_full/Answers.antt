use Rattle.message_frames.proofs.PackingFull.{packing_full}
use Rattle.message_frames.proofs.laws.packing_is_full.Goals as goal

pub returns : goal.returns
returns c = packing_full
