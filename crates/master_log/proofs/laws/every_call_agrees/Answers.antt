use Rattle.master_log.proofs.Agreement.{is_sound, is_agreed}
use Rattle.master_log.proofs.laws.every_call_agrees.Goals as goal

pub returns-clause-sound : goal.returns-clause-sound
returns-clause-sound c = λ masters events stands. is_sound masters events stands

pub returns-clause-agrees : goal.returns-clause-agrees
returns-clause-agrees c = λ old new before after stands later same. is_agreed old new before after stands same
