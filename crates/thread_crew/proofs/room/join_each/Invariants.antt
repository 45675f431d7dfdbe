use Rattle.std.specs.Vec.Iter.{into_iter_items}
use Rattle.thread_crew.proofs.Rooms.{HaveJoined}
use Rattle.thread_crew.proofs.room.join_each.Given as goal

abbrev pub invariant-loop-thread : goal.invariant-loop-thread
invariant-loop-thread g l = HaveJoined l.fn.made.items (into_iter_items l.thread-iterator) l.ended.items
