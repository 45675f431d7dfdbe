use Rattle.std.proofs.Common.{ap, sym}
use Rattle.std.proofs.lemmas.Result.{on_ok_weaker}
use Rattle.rebalance.specs.declared.StepKind.TheVariants.{Handover}
use Rattle.call_engine.specs.Objects.{partition_object}
use Rattle.replay_run.specs.Rebalancing.{rejoined}
use Rattle.replay_run.proofs.Flowing.{so_nowhere, so_all}
use Rattle.replay_run.proofs.GivingUp.{up_as}
use Rattle.replay_run.proofs.grid.Grid.rejoin.Goals as goal

pub returns-in-Move-clause-ok : goal.returns-in-Move-clause-ok
returns-in-Move-clause-ok g c = λ settings r amid.
    let o = partition_object settings in
    let text = c.args.out.now.items in
    so_all c.args.self.now r (λ s. r) (λ s. rejoined o s r c.args.partition c.args.from c.args.kind) text text (λ s. sym (ap (rejoined o s r c.args.partition c.args.from) c.in-Move.is)) (so_nowhere c.args.self.now r text amid)

pub returns-in-Handover-clause-ok : goal.returns-in-Handover-clause-ok
returns-in-Handover-clause-ok g c = λ settings r amid.
    let o = partition_object settings in
    on_ok_weaker c.join_again.result
    (so_all c.join_again.new.self r (λ s. rejoined o s r c.args.partition c.args.from Handover) (λ s. rejoined o s r c.args.partition c.args.from c.args.kind) c.args.out.now.items c.join_again.new.out.items
    (λ s. sym (ap (rejoined o s r c.args.partition c.args.from) c.in-Handover.is)))
    (c.join_again.ensures.ok settings r amid)

pub returns-in-Handover-clause-full : goal.returns-in-Handover-clause-full
returns-in-Handover-clause-full g c = λ settings r amid was.
    let o = partition_object settings in
    up_as r (λ s. rejoined o s r c.args.partition c.args.from Handover) (λ s. rejoined o s r c.args.partition c.args.from c.args.kind) (λ s. sym (ap (rejoined o s r c.args.partition c.args.from) c.in-Handover.is)) (c.join_again.ensures.full settings r amid was)
