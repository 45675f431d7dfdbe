use Rattle.std.proofs.Common.{◌++◌, ◌∙◌, ap}
use Rattle.message_frames.specs.MessageReaders.{shown_fault}
use Rattle.message_frames.specs.Streams.{heard_by}
use Rattle.message_frames.specs.declared.stream.MarkedStream.{MarkedStream}
use Rattle.message_frames.proofs.Shown.{shown_fault-standing}
use Rattle.message_frames.proofs.reader.MessageReader.prepare.Goals as goal

pub returns-in-Ok-clause-fault : goal.returns-in-Ok-clause-fault
returns-in-Ok-clause-fault c = λ prefix text stands.
    ap shown_fault (c.in-Ok.ensures.stands prefix text (ap (λ (heard : MarkedStream). heard_by heard.stream) c.deref_mut.ensures.value ∙ c.in_ok-heard.ensures.heard ∙ stands))
    ∙ shown_fault-standing prefix (text ++ c.args.piece.now)
