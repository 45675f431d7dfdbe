use Rattle.std.proofs.Common.{map, Some, refl, sym, subst}
use Rattle.live_grid.specs.Grids.{place_of}
use Rattle.live_grid.specs.Histories.{live_key}
use Rattle.live_grid.specs.declared.grid.LiveGrid.{LiveGrid}
use Rattle.session_calls.specs.Passes.{AreJoinedWith}
use Rattle.grid_server.specs.Settings.{AreWorkers}
use Rattle.grid_server.proofs.Ending.{may_gather, rest_gathers, has_served, ends_as}
use Rattle.grid_server.proofs.Opening.{may_meet}
use Rattle.grid_server.proofs.serve.run.Goals as goal

pub run_threads-ran-requires-clause-workers : goal.run_threads-ran-requires-clause-workers
run_threads-ran-requires-clause-workers g c κs within =
    subst (λ (grid : LiveGrid). AreWorkers (place_of grid) c.args.setting.workers.items) (sym c.new-stage.ensures.grid) c.requires.setting.1.workers

pub run_threads-ran-requires-clause-front : goal.run_threads-ran-requires-clause-front
run_threads-ran-requires-clause-front g c κs within =
    may_meet c.args.options c.requires.setting.0 c.args.setting _ c.requires.some c.requires.most c.requires.setting.1 c.requires.doors _ _ _ c.new-stage.ensures.options c.new-stage.ensures.grid refl

pub gather-requires-clause-pass : goal.gather-requires-clause-pass
gather-requires-clause-pass g c = may_gather c.args.options c.requires.setting.0 c.args.setting c.requires.setting.1 _ _ c.into_grid-grid.ensures c.new-stage.ensures.grid _ c.in-Some.ensures.operated.kept

pub gather-requires-clause-other : goal.gather-requires-clause-other
gather-requires-clause-other g c = rest_gathers _ _ c.run_threads-ran.new.connections _ c.into_grid-grid.ensures c.into_parts-passes.ensures.0 c.into_parts-passes.ensures.1 c.in-Some.ensures.served.rests

pub returns-clause-served : goal.returns-clause-served
returns-clause-served g c =
    let joined = subst (λ passes. AreJoinedWith live_key c.run_threads-ran.new.pass.passes.items (map (λ part. Some part) passes.items) c.gather.new.pass.passes.items) c.into_parts-passes.ensures.0 c.gather.ensures.joined in
    λ forms is. has_served c.args.options forms c.args.setting is _ _ c.into_grid-grid.ensures c.new-stage.ensures.grid g.D.Doors.empty_looks c.requires.some _ _
    (c.every_served_connection_stays_so.ensures _ _ _) (c.every_served_call_stands_in_a_legal_history.ensures _) c.every_noted_order_stays_so.ensures (c.every_answer_before_a_call_stands_first.ensures _ _) _ _ _ _ _ _ _ _ _ _ _ _ c.run_threads-ran.new.connections c.new-stage.ensures.options refl c.requires.doors c.in-Some.ensures.served c.in-Some.ensures.operated joined c.gather.ensures.kept
    (ends_as _ _ _ _ _ _ _ c.ending-status.ensures.closed c.ending-status.ensures.fault c.in-Some.ensures.served.let_in c.in-Some.ensures.served.cause) c.into_parts-passes.ensures.2
