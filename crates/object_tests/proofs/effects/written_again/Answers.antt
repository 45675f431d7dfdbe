-- An effect that was read has a spelling.
use Rattle.std.proofs.Common.{arith}
use Rattle.object_store.proofs.EffectLaws.{effect_spelled}
use Rattle.object_tests.proofs.effects.written_again.Goals as goal

pub write_effect-requires : goal.write_effect-requires
write_effect-requires c = effect_spelled c.args.text.now c.in_ok-effect.effect (λ i. omega (arith, c.type_inv.text i)) c.in_ok-effect.ensures
