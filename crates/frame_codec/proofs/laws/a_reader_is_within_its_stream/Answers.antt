-- What is kept is a part of what is left.
use Rattle.frame_codec.proofs.Rests.{next_place_within}
use Rattle.frame_codec.proofs.laws.a_reader_is_within_its_stream.Goals as goal

pub returns : goal.returns
returns c = λ at text. next_place_within at text
