-- A reader of no bytes has none in progress.
use Rattle.std.proofs.Common.{[], ap, sym, ◌∙◌, arith}
use Rattle.frame_codec.specs.FrameReaders.{in_progress}
use Rattle.frame_codec.proofs.Standing.{read_unfinished}
use Rattle.frame_codec.proofs.reader.FrameReader.new.Goals as goal

pub returns-clause-stands : goal.returns-clause-stands
returns-clause-stands c =
    ap (in_progress c.args.at) c.new.ensures ∙ sym (read_unfinished c.args.at [] (λ long. absurd (omega arith))).0
