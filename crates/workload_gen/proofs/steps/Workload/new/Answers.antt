use Rattle.std.proofs.Common.{ℕ, ap, ◌∙◌}
use Rattle.rand_pcg.specs.Lcg.{started, increment_of}
use Rattle.rand_pcg.specs.Pcg.{multiplier_64}
use Rattle.workload_gen.specs.Draws.{generator_of}
use Rattle.workload_gen.proofs.steps.Workload.new.Goals as goal

pub returns : goal.returns
unfolding generator_of
returns c = c.new.ensures ∙ ap (λ (state : ℕ). started 64 multiplier_64 state (increment_of 64 1)) c.from.ensures
