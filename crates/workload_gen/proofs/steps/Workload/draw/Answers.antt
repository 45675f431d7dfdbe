use Rattle.std.proofs.Common.{◌%◌, ℕ, ap}
use Rattle.rand_pcg.specs.Lcg.{Lcg}
use Rattle.workload_gen.specs.Draws.{word_of, behind}
use Rattle.workload_gen.proofs.steps.Workload.draw.Goals as goal

pub returns-clause-value : goal.returns-clause-value
unfolding word_of
returns-clause-value c = ap (λ (drawn : ℕ × Lcg). drawn.0 % c.args.below) c.next_word.ensures

pub returns-clause-behind : goal.returns-clause-behind
unfolding behind
returns-clause-behind c = ap (λ (drawn : ℕ × Lcg). drawn.1) c.next_word.ensures
