use Rattle.object_store.proofs.EffectLaws.{effect_again, effect_found}
use Rattle.object_store.proofs.laws.effects_are_read_as_spelled.Goals as goal

pub returns-clause-again : goal.returns-clause-again
returns-clause-again c = effect_again

pub returns-clause-found : goal.returns-clause-found
returns-clause-found c = effect_found
