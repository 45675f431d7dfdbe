-- Of no bytes nothing is read.
use Rattle.std.proofs.Common.{◌∙◌, ℕ, List, [], None, ap, sym, arith}
use Rattle.link_frames.specs.Readers.{InProgress, after_feed}
use Rattle.link_frames.specs.declared.fronts.Front.TheVariants.{Partial}
use Rattle.link_frames.specs.declared.parts.Stage.TheVariants as stage
use Rattle.link_frames.proofs.Readings.{read_as, nothing_begins}
use Rattle.link_frames.proofs.reader.LinkReader.new.Goals as goal

pub returns : goal.returns
returns c =
    ap (λ (xs : List ℕ). let x : InProgress = record { stage = stage.Hello; fault = None; bytes = xs } in x) c.new.ensures.items
    ∙ sym (ap after_feed (read_as stage.Hello [] Partial (nothing_begins stage.Hello [] (omega arith))))
