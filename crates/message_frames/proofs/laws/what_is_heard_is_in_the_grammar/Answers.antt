use Rattle.message_frames.proofs.HeardPieces.{unheard}
use Rattle.message_frames.proofs.HeardTexts.{heard_pieces}
use Rattle.message_frames.proofs.laws.what_is_heard_is_in_the_grammar.Goals as goal

pub returns-clause-pieces : goal.returns-clause-pieces
returns-clause-pieces c = heard_pieces

pub returns-clause-prefix : goal.returns-clause-prefix
returns-clause-prefix c = unheard
