use Rattle.std.proofs.Common.{◌∙◌, ap, sym, subst, refl}
use Rattle.std.proofs.lemmas.Result.{on_ok_weaker}
use Rattle.script_lang.specs.declared.line.Line.TheVariants.{Arrive}
use Rattle.replay_run.specs.Grids.{IsGivenUp}
use Rattle.replay_run.proofs.GridLines.{may_run_as}
use Rattle.replay_run.proofs.LineCases.{event_writes_none, writes_none}
use Rattle.replay_run.proofs.grid.Grid.run_line.Goals as goal

pub returns-in-Some-clause-ok : goal.returns-in-Some-clause-ok
returns-in-Some-clause-ok g c = λ settings r s.
    on_ok_weaker c.run_event.result (writes_none settings r c.args.line.now c.args.line.now refl (event_writes_none c.args.line.now _ (sym c.in-Some.ensures)) c.args.out.now c.run_event.new.out)
    (c.run_event.ensures.ok settings r c.args.line.now s (sym c.in-Some.ensures))

pub arrive-requires : goal.arrive-requires
arrive-requires g c = may_run_as (c.in-Arrive.is ∙ ap (Arrive c.in-Arrive.conn) (sym c.as_slice.ensures)) c.requires

pub returns-in-Arrive-clause-ok : goal.returns-in-Arrive-clause-ok
returns-in-Arrive-clause-ok g c = λ settings r s. on_ok_weaker c.arrive.result (writes_none settings r c.args.line.now _ (c.in-Arrive.is ∙ ap (Arrive c.in-Arrive.conn) (sym c.as_slice.ensures)) refl c.args.out.now c.arrive.new.out) (c.arrive.ensures.ok settings r s)

pub flow-requires : goal.flow-requires
flow-requires g c = may_run_as c.in-Flow.is c.requires

pub returns-in-Flow-clause-ok : goal.returns-in-Flow-clause-ok
returns-in-Flow-clause-ok g c = λ settings r s. on_ok_weaker c.flow.result (writes_none settings r c.args.line.now _ c.in-Flow.is refl c.args.out.now c.flow.new.out) (c.flow.ensures.ok settings r s)

pub flow_all-requires : goal.flow_all-requires
flow_all-requires g c = may_run_as c.in-FlowAll.is c.requires

pub returns-in-FlowAll-clause-ok : goal.returns-in-FlowAll-clause-ok
returns-in-FlowAll-clause-ok g c = λ settings r s. on_ok_weaker c.flow_all.result (writes_none settings r c.args.line.now _ c.in-FlowAll.is refl c.args.out.now c.flow_all.new.out) (c.flow_all.ensures.ok settings r s)

pub run_fate-requires : goal.run_fate-requires
run_fate-requires g c = may_run_as c.in-Crash.is c.requires

pub returns-in-Crash-clause-ok : goal.returns-in-Crash-clause-ok
returns-in-Crash-clause-ok g c = λ settings r s. on_ok_weaker c.run_fate.result (writes_none settings r c.args.line.now _ c.in-Crash.is refl c.args.out.now c.run_fate.new.out) (c.run_fate.ensures.ok settings r s)

pub returns-in-Crash-clause-full : goal.returns-in-Crash-clause-full
returns-in-Crash-clause-full g c = λ settings r s full. subst (IsGivenUp settings r) (sym c.in-Crash.is) (c.run_fate.ensures.full settings r s full)

pub run_fate-requires-in-Detect : goal.run_fate-requires-in-Detect
run_fate-requires-in-Detect g c = may_run_as c.in-Detect.is c.requires

pub returns-in-Detect-clause-ok : goal.returns-in-Detect-clause-ok
returns-in-Detect-clause-ok g c = λ settings r s. on_ok_weaker c.run_fate-in-Detect.result (writes_none settings r c.args.line.now _ c.in-Detect.is refl c.args.out.now c.run_fate-in-Detect.new.out) (c.run_fate-in-Detect.ensures.ok settings r s)

pub returns-in-Detect-clause-full : goal.returns-in-Detect-clause-full
returns-in-Detect-clause-full g c = λ settings r s full. subst (IsGivenUp settings r) (sym c.in-Detect.is) (c.run_fate-in-Detect.ensures.full settings r s full)

pub set_clock-requires : goal.set_clock-requires
set_clock-requires g c = may_run_as c.in-Clock.is c.requires

pub returns-in-Clock-clause-ok : goal.returns-in-Clock-clause-ok
returns-in-Clock-clause-ok g c = λ settings r s. on_ok_weaker c.set_clock.result (writes_none settings r c.args.line.now _ c.in-Clock.is refl c.args.out.now c.set_clock.new.out) (c.set_clock.ensures.ok settings r s)

pub rebalance-requires : goal.rebalance-requires
rebalance-requires g c = may_run_as c.in-Rebalance.is c.requires

pub returns-in-Rebalance-clause-ok : goal.returns-in-Rebalance-clause-ok
returns-in-Rebalance-clause-ok g c = λ settings r s. on_ok_weaker c.rebalance.result (writes_none settings r c.args.line.now _ c.in-Rebalance.is refl c.args.out.now c.rebalance.new.out) (c.rebalance.ensures.ok settings r s)
