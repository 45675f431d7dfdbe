use Rattle.call_engine.proofs.EffectChanges.{entry_effect_is_change, queue_effect_is_change, request_effect_is_change}
use Rattle.call_engine.proofs.laws.every_effect_is_a_change.Goals as goal

pub returns-clause-entry : goal.returns-clause-entry
returns-clause-entry c = entry_effect_is_change

pub returns-clause-queue : goal.returns-clause-queue
returns-clause-queue c = queue_effect_is_change

pub returns-clause-partition : goal.returns-clause-partition
returns-clause-partition c = request_effect_is_change
