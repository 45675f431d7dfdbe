use Rattle.std.proofs.Common.{◌∙◌, ◌++◌, take, refl, ap, sym, subst, arith}
use Rattle.std.proofs.lemmas.Result.{on_ok_weaker}
use Rattle.rebalance.specs.Plans.{Balanced, Gives}
use Rattle.script_lang.specs.declared.line.Line.TheVariants.{Rebalance}
use Rattle.call_engine.specs.Objects.{partition_object}
use Rattle.replay_run.specs.Runs.{next_line}
use Rattle.replay_run.specs.Rebalancing.{plan_in, first_steps, stepped_all, most_line_events}
use Rattle.replay_run.specs.LineTold.{steps_told}
use Rattle.replay_run.specs.WorldCalls.{GivesUpSo, MayStep}
use Rattle.replay_run.proofs.GridLines.{next_number, few_lines}
use Rattle.replay_run.proofs.EventLines.{counted_amid, stands_room}
use Rattle.replay_run.proofs.Planning.{may_step, steps_are_rising}
use Rattle.replay_run.proofs.RebalanceLine.{gives_plan, stepped_as, planned_line, planned_full, refused_line}
use Rattle.replay_run.proofs.grid.Grid.rebalance.Goals as goal

pub plan-requires : goal.plan-requires
plan-requires g c = let may = c.requires in (may.settings, next_line may.run, counted_amid c.args.self.now may.run c.args.number may.stands may.next)

pub run_steps-requires : goal.run_steps-requires
run_steps-requires g c =
    let may = c.requires in
    let s = may.stands in
    let r = may.run in
    let o = partition_object may.settings in
    let grid = c.args.self.now in
    let most = c.args.most in
    let amid = counted_amid grid r c.args.number s may.next in
    let planned = gives_plan c.plan.result c.in-Ok.plan (plan_in o (next_line r)) c.in-Ok.is (c.plan.ensures may.settings (next_line r) amid) in
    let steps = c.first_steps.ensures ∙ ap (take most) c.as_slice-steps.ensures in
    let room = stands_room grid r s (few_lines grid c.args.number (Rebalance most) may r s) in
    (may.settings, next_line r, amid, subst (MayStep (next_line r) 0) (ap (first_steps most) planned ∙ sym steps) (may_step (next_line r) 0 _ (λ p. room p most_line_events (omega arith)) (steps_are_rising o (next_line r) most)))

pub returns-in_ok-tell_plan-in-Ok-clause-ok : goal.returns-in_ok-tell_plan-in-Ok-clause-ok
returns-in_ok-tell_plan-in-Ok-clause-ok g c = λ settings r s.
    let o = partition_object settings in
    let grid = c.args.self.now in
    let number = c.args.number in
    let most = c.args.most in
    let plan = c.in-Ok.plan in
    let start = c.args.out.now.items in
    let at_line = next_number grid number (Rebalance most) c.requires r s in
    let amid = counted_amid grid r number s at_line in
    let planned = gives_plan c.plan.result plan (plan_in o (next_line r)) c.in-Ok.is (c.plan.ensures settings (next_line r) amid) in
    let steps = c.first_steps.ensures ∙ ap (take most) c.as_slice-steps.ensures in
    let told = c.in_ok-tell_plan-in-Ok.ensures ∙ ap (λ ss. start ++ steps_told ss) c.as_slice-steps.ensures in
    on_ok_weaker c.run_steps.result
    (λ ran.
    let did = stepped_as steps ran in
    planned_line grid c.run_steps.new.self r most s (Balanced plan) planned start _ c.run_steps.new.out.items did (few_lines grid number (Rebalance most) c.requires r s) told)
    (c.run_steps.ensures.ok settings (next_line r) amid)

pub returns-in_ok-tell_plan-in-Ok-clause-full : goal.returns-in_ok-tell_plan-in-Ok-clause-full
returns-in_ok-tell_plan-in-Ok-clause-full g c = λ settings r s was.
    let o = partition_object settings in
    let grid = c.args.self.now in
    let most = c.args.most in
    let plan = c.in-Ok.plan in
    let amid = counted_amid grid r c.args.number s (next_number grid c.args.number (Rebalance most) c.requires r s) in
    let planned = gives_plan c.plan.result plan (plan_in o (next_line r)) c.in-Ok.is (c.plan.ensures settings (next_line r) amid) in
    let steps = c.first_steps.ensures ∙ ap (take most) c.as_slice-steps.ensures in
    planned_full grid c.run_steps.new.self r most s (Balanced plan) planned (subst (λ ss. GivesUpSo (next_line r) (λ skips. stepped_all o skips (next_line r) ss)) steps (c.run_steps.ensures.full settings (next_line r) amid was))

pub returns-in_ok-tell_no_plan-in-Err-clause-ok : goal.returns-in_ok-tell_no_plan-in-Err-clause-ok
returns-in_ok-tell_no_plan-in-Err-clause-ok g c = λ settings r s.
    let o = partition_object settings in
    let grid = c.args.self.now in
    let number = c.args.number in
    let at_line = next_number grid number (Rebalance c.args.most) c.requires r s in
    let amid = counted_amid grid r number s at_line in
    let planned = plan_in o (next_line r) in
    let none = c.in_ok-tell_no_plan-in-Err.ensures planned (subst (λ x. Gives x planned) c.in-Err.is (c.plan.ensures settings (next_line r) amid)) in
    refused_line grid r c.args.most s planned refl (none.0 c.args.most) amid c.args.out.now.items c.tell_no_plan.new.out.items (few_lines grid number (Rebalance c.args.most) c.requires r s) none.1
