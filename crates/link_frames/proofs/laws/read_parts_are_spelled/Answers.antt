-- By going over the text, part by part.
use Rattle.link_frames.proofs.Spelled.{read_spelled}
use Rattle.link_frames.proofs.laws.read_parts_are_spelled.Goals as goal

pub returns : goal.returns
returns c = read_spelled
