use Rattle.std.specs.Vec.Iter.{into_iter_items}
use Rattle.thread_crew.proofs.Crews.{HaveJoined}
use Rattle.thread_crew.proofs.crew.join_all.Given as goal

abbrev pub invariant-loop-thread : goal.invariant-loop-thread
invariant-loop-thread g l = HaveJoined g.L.Labor.labors l.fn.made.items (into_iter_items l.thread-iterator)
