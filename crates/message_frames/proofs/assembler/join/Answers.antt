use Rattle.std.proofs.Common.{[], set, set-set, sym, ◌∙◌, ap}
use Rattle.message_frames.specs.Lists.{frames_in, ended}
use Rattle.message_frames.proofs.assembler.join.Goals as goal

pub returns-in-EndsMessage-clause-lists : goal.returns-in-EndsMessage-clause-lists
returns-in-EndsMessage-clause-lists c =
    c.give.ensures.frames
    ∙ ap (λ lists. set lists c.args.list []) c.append-in-EndsMessage.ensures.frames
    ∙ set-set (frames_in c.args.lists.now.items) c.args.list _ []
    ∙ sym (ap (λ ending. ended ending (frames_in c.args.lists.now.items) c.args.list c.args.frame) c.in-EndsMessage.is)
