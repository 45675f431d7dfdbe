use Rattle.std.proofs.Common.{Err, refl, subst}
use Rattle.std.proofs.lemmas.Result.{on_ok_weaker}
use Rattle.rebalance.specs.Plans.{NoMember, Unsettled, Gives}
use Rattle.replay_run.proofs.RebalanceLine.{refuses}
use Rattle.replay_run.proofs.rebalancing.tell_no_plan.Goals as goal

pub returns-in-NoMember : goal.returns-in-NoMember
returns-in-NoMember c = on_ok_weaker c.tell_outcome.result
    (λ told planned given. refuses c.args.out.now.items c.tell_outcome.new.out.items planned NoMember (λ most. refl) (subst (λ why. Gives (Err why) planned) c.in-NoMember.is given) told)
    c.tell_outcome.ensures

pub returns-in-Unsettled : goal.returns-in-Unsettled
returns-in-Unsettled c = on_ok_weaker c.tell_outcome-in-Unsettled.result
    (λ told planned given. refuses c.args.out.now.items c.tell_outcome-in-Unsettled.new.out.items planned (Unsettled c.in-Unsettled.partition) (λ most. refl) (subst (λ why. Gives (Err why) planned) c.in-Unsettled.is given) told)
    c.tell_outcome-in-Unsettled.ensures
