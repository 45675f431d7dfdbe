use Rattle.std.proofs.Common.{◌≡◌, ℕ, ◌≤◌, [], ◌∙◌, ap, arith}
use Rattle.message_frames.specs.Lists.{list_at, frames_in}
use Rattle.message_frames.proofs.Rooms.{unused_dropped}
use Rattle.message_frames.proofs.SameLists.{AreSame, assembly_same, sound_same}
use Rattle.message_frames.proofs.assembler.Assembler.prepare.Goals as goal

pub returns-in-Ok-clause-sound : goal.returns-in-Ok-clause-sound
returns-in-Ok-clause-sound c = record {
  control = sound_same (frames_in c.args.self.now.lists.items) (frames_in c.room_for.new.lists.items) c.room_for.ensures.same.frames c.args.self.now.control c.requires.control;
  count = omega (arith, c.requires.count, c.room_for.ensures.same.count, c.args.self.now.lists.ok, c.room_for.new.lists.ok);
}

-- the lists without those that were new
same_dropped : (c : goal.After-truncate) → AreSame (frames_in c.args.self.now.lists.items) (frames_in c.truncate.new.self.items)
same_dropped c k =
    let unused : (j : ℕ) → c.args.self.now.control.lists ≤ j → list_at (frames_in c.room_for.new.lists.items) j ≡ [] =
    λ j above. c.room_for.ensures.same.frames j ∙ c.requires.control.unused j above in
    ap (λ lists. list_at (frames_in lists) k) c.truncate.ensures.items
    ∙ unused_dropped c.args.self.now.control.lists c.room_for.new.lists.items unused k
    ∙ c.room_for.ensures.same.frames k

pub returns-in-Err-clause-state : goal.returns-in-Err-clause-state
returns-in-Err-clause-state c = assembly_same (frames_in c.args.self.now.lists.items) (frames_in c.truncate.new.self.items) (same_dropped c) c.args.self.now.control

pub returns-in-Err-clause-sound : goal.returns-in-Err-clause-sound
returns-in-Err-clause-sound c = record {
  control = sound_same (frames_in c.args.self.now.lists.items) (frames_in c.truncate.new.self.items) (same_dropped c) c.args.self.now.control c.requires.control;
  count = omega (arith, c.requires.count, c.room_for.ensures.same.count, c.truncate.ensures.len, c.args.self.now.lists.ok, c.room_for.new.lists.ok);
}
