use Rattle.std.proofs.Common.{arith}
use Rattle.std.proofs.lemmas.List.{nil_from_length}
use Rattle.thread_crew.proofs.Crews.{none_joined, one_joined, all_joined}
use Rattle.thread_crew.proofs.crew.join_all.Goals as goal

pub loop-thread-init : goal.loop-thread-init
loop-thread-init g c = none_joined g.L.Labor.labors _ _ c.into_iter-thread-iterator.ensures.into_iter_gives.0

pub loop-thread-preserved : goal.loop-thread-preserved
loop-thread-preserved g c = one_joined g.L.Labor.labors _ _ _ _ c.loop-thread.invariant c.in-Some.ensures.steps.0 c.join.ensures

pub returns : goal.returns
returns g c =
    let rest = c.loop-thread.thread-iterator.rest in
    all_joined g.L.Labor.labors _ _ c.loop-thread.invariant (nil_from_length rest.items (omega (arith, rest.ok.0, c.in-None.ensures.steps.0)))
