use Rattle.script_lang.proofs.ReadAgain.{read_again, comments_again}
use Rattle.script_lang.proofs.laws.lines_are_read_as_spelled.Goals as goal

pub returns-clause-lines : goal.returns-clause-lines
returns-clause-lines c = read_again

pub returns-clause-comments : goal.returns-clause-comments
returns-clause-comments c = comments_again
