use Rattle.std.specs.Vec.Iter.{into_iter_items}
use Rattle.thread_crew.proofs.Crews.{AreMade}
use Rattle.thread_crew.proofs.crew.start_all.Given as goal

abbrev pub invariant-loop-worker : goal.invariant-loop-worker
invariant-loop-worker g l = AreMade g.L.Labor.can_labor l.fn.work l.fn.workers.items l.made.items (into_iter_items l.worker-iterator)
