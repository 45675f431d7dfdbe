use Rattle.std.proofs.Common.{[], ◌∙◌, ap}
use Rattle.message_frames.specs.MessageReaders.{standing}
use Rattle.message_frames.specs.Streams.{heard_in}
use Rattle.message_frames.proofs.Shown.{on_ok_always, own_prefix}
use Rattle.message_frames.proofs.reader.MessageReader.take_heard.Goals as goal

pub returns-clause-lent : goal.returns-clause-lent
returns-clause-lent c = on_ok_always c.match-take.result (λ prefix text stands.
    let i = c.self.inside in
    ap (heard_in i.prefix) c.take.ensures.after
    ∙ ap (λ p. standing p []) (own_prefix i.prefix i.heard c.self.invariant prefix text (c.self.view_is ∙ stands)))
