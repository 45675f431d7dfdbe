use Rattle.std.proofs.Common.{◌∙◌, sym}
use Rattle.std.proofs.lemmas.Result.{on_ok_weaker}
use Rattle.rebalance.specs.declared.StepKind.TheVariants.{Handover}
use Rattle.call_engine.specs.Objects.{partition_object}
use Rattle.replay_run.specs.Rebalancing.{joined, rejoined}
use Rattle.replay_run.proofs.Flowing.{so_nowhere, so_all}
use Rattle.replay_run.proofs.GivingUp.{up_as}
use Rattle.replay_run.proofs.RebalanceLine.{rejoined_open, rejoined_done}
use Rattle.replay_run.proofs.grid.Grid.join_again.Goals as goal

pub is_moving-requires-clause-stands : goal.is_moving-requires-clause-stands
is_moving-requires-clause-stands g c = (c.requires.stands.0, c.requires.stands.1, c.requires.stands.2)

pub returns-then-is_moving-clause-ok : goal.returns-then-is_moving-clause-ok
returns-then-is_moving-clause-ok g c = λ settings r amid.
    let o = partition_object settings in
    let text = c.args.out.now.items in
    so_all c.args.self.now r (λ s. r) (λ s. rejoined o s r c.args.partition c.args.from Handover) text text
    (λ s. sym (rejoined_open o s r c.args.partition c.args.from (sym (c.is_moving.ensures settings r amid) ∙ c.if-is_moving.true))) (so_nowhere c.args.self.now r text amid)

pub returns-clause-ok : goal.returns-clause-ok
returns-clause-ok g c = λ settings r amid.
    let o = partition_object settings in
    on_ok_weaker c.join.result
    (so_all c.join.new.self r (λ s. joined o s r c.args.partition c.args.from) (λ s. rejoined o s r c.args.partition c.args.from Handover) c.args.out.now.items c.join.new.out.items
    (λ s. sym (rejoined_done o s r c.args.partition c.args.from (sym (c.is_moving.ensures settings r amid) ∙ c.if-is_moving.false))))
    (c.join.ensures.ok settings r amid)

pub returns-clause-full : goal.returns-clause-full
returns-clause-full g c = λ settings r amid was.
    let o = partition_object settings in
    up_as r (λ s. joined o s r c.args.partition c.args.from) (λ s. rejoined o s r c.args.partition c.args.from Handover)
    (λ s. sym (rejoined_done o s r c.args.partition c.args.from (sym (c.is_moving.ensures settings r amid) ∙ c.if-is_moving.false))) (c.join.ensures.full settings r amid was)
