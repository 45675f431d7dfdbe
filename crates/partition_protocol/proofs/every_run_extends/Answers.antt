-- Each event only adds to the log and to the answers, and a member that settles releases or keeps what it holds.
use Rattle.partition_protocol.proofs.every_run_extends.Goals as goal
use Rattle.partition_protocol.proofs.Theorem.{every_run_extends, every_answer_stays}

pub returns-clause-extends : goal.returns-clause-extends
returns-clause-extends g c = λ o. every_run_extends o

pub returns-clause-answers : goal.returns-clause-answers
returns-clause-answers g c = λ o. every_answer_stays o
