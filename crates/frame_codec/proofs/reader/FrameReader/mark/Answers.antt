-- A reader's own bytes are all that it stands for at least.
use Rattle.std.proofs.Common.{sym, subst}
use Rattle.frame_codec.specs.FrameReaders.{InProgress, StandsFor}
use Rattle.frame_codec.proofs.GoingBack.{mark_has_room}
use Rattle.frame_codec.proofs.Standing.{read_unfinished}
use Rattle.frame_codec.proofs.reader.FrameReader.mark.Goals as goal

pub invariant_of-result : goal.invariant_of-result
invariant_of-result c = record { unfinished = mark_has_room c.mark.result c.self.inside.partial c.mark.ensures c.self.invariant }

pub returns-clause-stands : goal.returns-clause-stands
returns-clause-stands c =
    subst (λ (reader : InProgress). StandsFor reader reader.at reader.bytes) c.self.view_is
    (sym (read_unfinished c.self.inside.at c.self.inside.partial c.self.invariant).0)
