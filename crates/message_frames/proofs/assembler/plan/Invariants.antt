use Rattle.std.proofs.Common.{take}
use Rattle.message_frames.specs.Lists.{rooms_in, GetRoom}
use Rattle.message_frames.proofs.Planning.{ArePlanned}
use Rattle.message_frames.proofs.assembler.plan.Given as goal

abbrev pub invariant-loop-new : goal.invariant-loop-new
invariant-loop-new l = record {
  planned : ArePlanned l.shortest (rooms_in l.lists.items) (take l.new-index l.frames) l.control l.after;
  same : GetRoom l.initial.lists.items l.lists.items;
}
