use Rattle.message_frames.proofs.HeardPieces.{grammar_heard, exactly_heard}
use Rattle.message_frames.proofs.SoFar.{so_far_heard}
use Rattle.message_frames.proofs.laws.the_grammar_is_heard.Goals as goal

pub returns-clause-whole : goal.returns-clause-whole
returns-clause-whole c = grammar_heard

pub returns-clause-so_far : goal.returns-clause-so_far
returns-clause-so_far c = so_far_heard

pub returns-clause-exactly : goal.returns-clause-exactly
returns-clause-exactly c = exactly_heard
