use Rattle.std.proofs.Common.{[], ◌∷◌, ◌++◌, set, sym, ◌∙◌, ap, arith}
use Rattle.message_frames.specs.Lists.{frames_in}
use Rattle.message_frames.proofs.Rooms.{frames_in-set, frames_read, rooms_kept}
use Rattle.message_frames.proofs.assembler.append.Goals as goal

pub returns-clause-frames : goal.returns-clause-frames
returns-clause-frames c =
    let old = c.index_mut.result.now in
    frames_in-set c.args.lists.now.items c.args.list c.push_reserved.new.self
    ∙ ap (λ frames. set (frames_in c.args.lists.now.items) c.args.list frames)
    (c.push_reserved.ensures.items ∙ ap (λ frames. frames ++ c.args.frame ∷ []) (sym (frames_read c.args.lists.now.items c.args.list old (omega arith) c.index_mut.ensures.value)))

pub returns-clause-rooms : goal.returns-clause-rooms
returns-clause-rooms c =
    rooms_kept c.args.lists.now.items c.args.list c.index_mut.result.now c.push_reserved.new.self (omega arith) c.index_mut.ensures.value c.push_reserved.ensures.capacity
