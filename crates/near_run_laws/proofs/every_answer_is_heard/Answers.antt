use Rattle.near_run_laws.proofs.Hearings.{every_answer_is_heard, every_refusal_is_heard}
use Rattle.near_run_laws.proofs.every_answer_is_heard.Goals as goal

pub returns : goal.returns
returns c = record { answer = every_answer_is_heard; refusal = every_refusal_is_heard }
