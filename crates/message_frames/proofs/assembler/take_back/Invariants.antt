use Rattle.std.proofs.Common.{◌≡◌, vec_len, All}
use Rattle.message_frames.specs.Tracks.{held_in, LeadsBelow}
use Rattle.message_frames.proofs.Backward.{IsGoingBack}
use Rattle.message_frames.proofs.assembler.take_back.Given as goal

abbrev pub invariant-loop-way : goal.invariant-loop-way
invariant-loop-way l = record {
  back : IsGoingBack l.initial.track.items (held_in l.initial.lists.items l.initial.messages.items) l.track.items (held_in l.lists.items l.messages.items) l.first;
  below : All (LeadsBelow (vec_len l.lists)) l.track.items;
  count : vec_len l.lists ≡ vec_len l.initial.lists;
}

abbrev pub decreases-loop-way : goal.decreases-loop-way
decreases-loop-way l = goal.left-loop-way l
