use Rattle.std.proofs.Common.{refl}
use Rattle.counted_calls.proofs.Starting.{may_call, still_same, was_started}
use Rattle.counted_calls.proofs.calling.start_call.Goals as goal

pub loop-init : goal.loop-init
loop-init g c = record { of_grid = c.requires.session; same = record { passes = refl; member = refl; conn = refl } }

pub start-requires-clause-may : goal.start-requires-clause-may
start-requires-clause-may g c κs within = may_call c.args.key.now c.args.number c.args.session.now c.loop.session c.in_ok-request.request c.requires.free c.loop.invariant.same c.in_ok-request.ensures.is c.in_ok-request.ensures.fits

pub returns-in-Ok-clause-started : goal.returns-in-Ok-clause-started
returns-in-Ok-clause-started g c = was_started c.args.place.now c.args.key.now c.args.number c.args.session.now c.loop.session c.start.new.self c.in_ok-request.request c.in-Ok.started c.loop.invariant.same c.in_ok-request.ensures.is c.in-Ok.ensures.started

pub loop-preserved : goal.loop-preserved
loop-preserved g c = record {
  of_grid = c.in-Err-Busy.ensures.kept;
  same = still_same c.args.session.now c.loop.session c.start.new.self _ _ c.loop.invariant.same c.in-Err-Busy.ensures.refused;
}
