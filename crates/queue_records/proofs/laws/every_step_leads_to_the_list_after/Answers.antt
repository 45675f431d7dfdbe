use Rattle.queue_records.proofs.laws.every_step_leads_to_the_list_after.Goals as goal
use Rattle.queue_records.proofs.Calls.{steps_where_it_changes}

pub returns-clause-changes : goal.returns-clause-changes
returns-clause-changes c = steps_where_it_changes
