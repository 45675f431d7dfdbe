use Rattle.rebalance.proofs.Exact.{rule_is_exact}
use Rattle.rebalance.proofs.laws.every_rule_has_one_plan.Goals as goal

pub returns : goal.returns
returns c = rule_is_exact
