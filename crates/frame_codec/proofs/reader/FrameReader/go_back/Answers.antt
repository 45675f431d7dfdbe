-- What goes back is what the mark and the first frame say together.
use Rattle.std.proofs.Common.{ap, sym, subst, ◌∙◌}
use Rattle.frame_codec.specs.FrameReaders.{InProgress, in_progress, IsUnfinished}
use Rattle.frame_codec.specs.Marks.{payload_since, back_at}
use Rattle.frame_codec.proofs.GoingBack.{bytes_at_have_room}
use Rattle.frame_codec.proofs.reader.FrameReader.go_back.Goals as goal

pub invariant_of-self : goal.invariant_of-self
invariant_of-self c =
    subst IsUnfinished (sym c.put_back.ensures)
    (bytes_at_have_room c.args.mark.partial (payload_since c.args.first c.self.inside.partial) c.args.mark.unfinished)

pub returns : goal.returns
returns c =
    ap (in_progress c.args.mark.at) c.put_back.ensures
    ∙ ap (λ (reader : InProgress). back_at c.args.mark c.args.first reader) c.self.view_is
