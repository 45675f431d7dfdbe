use Rattle.master_log.proofs.Agreement.{every_list_is_a_front}
use Rattle.master_log.proofs.laws.every_published_list_stays.Goals as goal

pub returns : goal.returns
returns c = λ old new before after later. every_list_is_a_front old new before after later
