use Rattle.std.proofs.Common.{set, ◌∙◌, ap}
use Rattle.std.specs.Global.{Vec}
use Rattle.frame_codec.specs.declared.frames.Frame.{Frame}
use Rattle.message_frames.specs.Lists.{frames_in}
use Rattle.message_frames.proofs.Rooms.{frames_in-set, room_lost}
use Rattle.message_frames.proofs.assembler.give.Goals as goal

pub returns-clause-frames : goal.returns-clause-frames
returns-clause-frames c =
    frames_in-set c.args.lists.now.items c.args.list c.replace-frames.new.dest ∙ ap (λ frames. set (frames_in c.args.lists.now.items) c.args.list frames)
    (ap (λ (list : Vec Frame). list.items) c.replace-frames.ensures.after ∙ c.new.ensures.items)

pub returns-clause-rooms : goal.returns-clause-rooms
returns-clause-rooms c = room_lost c.args.lists.now.items c.args.list c.replace-frames.new.dest
