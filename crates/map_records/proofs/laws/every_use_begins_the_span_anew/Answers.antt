use Rattle.map_records.proofs.laws.every_use_begins_the_span_anew.Goals as goal
use Rattle.map_records.proofs.Uses.{use_begins_the_span_anew, others_leave_the_span}

pub returns-clause-used : goal.returns-clause-used
returns-clause-used c = use_begins_the_span_anew

pub returns-clause-others : goal.returns-clause-others
returns-clause-others c = others_leave_the_span
