use Rattle.std.proofs.Common.{length}
use Rattle.std.specs.Vec.Iter.{into_iter_items}
use Rattle.message_frames.specs.Assembly.{assembled}
use Rattle.message_frames.specs.Turns.{after_all}
use Rattle.message_frames.specs.Lists.{frames_in, assembly_of}
use Rattle.message_frames.specs.Tracks.{held_in}
use Rattle.message_frames.proofs.Assembling.{IsUnderWay}
use Rattle.message_frames.proofs.Backward.{IsTracked}
use Rattle.message_frames.proofs.assembler.assemble.Given as goal

abbrev pub invariant-loop-new : goal.invariant-loop-new
invariant-loop-new l = record {
  forward : IsUnderWay l.shortest l.initial.messages.items
      (assembled l.shortest l.fn.frames.items (assembly_of l.initial.control (frames_in l.initial.lists.items)))
      (after_all l.shortest l.fn.frames.items l.initial.control)
      l.control l.lists.items l.messages (into_iter_items l.rest);
  tracked : IsTracked l.fn.frames.items (into_iter_items l.rest) (held_in l.initial.lists.items l.initial.messages.items) (length l.initial.lists.items)
      (held_in l.lists.items l.messages.items) (length l.lists.items) l.track;
}

abbrev pub decreases-loop-new : goal.decreases-loop-new
decreases-loop-new l = length (into_iter_items l.rest)
