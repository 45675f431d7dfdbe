-- What goes back is what the mark and the given frames say together.
use Rattle.std.proofs.Common.{Option, ap, ◌∙◌}
use Rattle.frame_codec.specs.Marks.{back_at}
use Rattle.frame_codec.specs.declared.frames.Frame.{Frame}
use Rattle.frame_codec.proofs.GoingBack.{back}
use Rattle.frame_codec.proofs.reader.FrameReader.put_back.Goals as goal

pub returns : goal.returns
returns c = λ at text piece h.
    c.go_back.ensures
    ∙ ap (λ (first : Option Frame). back_at c.args.mark first c.args.self.now) c.first_of.ensures
    ∙ back c.args.mark c.args.self.now c.args.fed.frames.items at text piece h
