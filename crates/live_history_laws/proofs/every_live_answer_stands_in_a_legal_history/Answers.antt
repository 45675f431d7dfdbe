use Rattle.live_history_laws.proofs.Fits.{legal, entered}
use Rattle.live_history_laws.proofs.every_live_answer_stands_in_a_legal_history.Goals as goal

pub returns-clause-legal : goal.returns-clause-legal
returns-clause-legal c plan history some once = legal plan history some once

pub returns-clause-answered : goal.returns-clause-answered
returns-clause-answered c plan history id reply some once is = entered plan history some once id reply is
