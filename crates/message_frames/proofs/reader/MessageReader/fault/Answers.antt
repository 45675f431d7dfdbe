use Rattle.std.proofs.Common.{◌≡◌, [], None, sym, ◌∙◌, ap}
use Rattle.message_frames.specs.Assemblers.{state_of}
use Rattle.message_frames.specs.MessageReaders.{shown_fault}
use Rattle.message_frames.specs.Streams.{heard_in}
use Rattle.message_frames.specs.declared.stream.MarkedStream.{MarkedStream}
use Rattle.message_frames.proofs.Shown.{shown_fault-standing, shown_fault-hearing, no_fault_at_first}
use Rattle.message_frames.proofs.reader.MessageReader.fault.Goals as goal

-- nothing heard

none_shown : (c : goal.In-None) → None ≡ shown_fault c.args.self.now
none_shown c =
    let prefix = c.self.inside.prefix in
    sym (shown_fault-standing prefix [] ∙ no_fault_at_first prefix) ∙ ap shown_fault (ap (heard_in prefix) (sym c.in-None.is) ∙ c.self.view_is)

pub returns-in-None-clause-shown : goal.returns-in-None-clause-shown
returns-in-None-clause-shown c = none_shown c

pub returns-in-None-clause-first : goal.returns-in-None-clause-first
returns-in-None-clause-first c = λ prefix text stands. none_shown c ∙ ap shown_fault stands ∙ shown_fault-standing prefix text

-- a stream

pub returns-in-Some-clause-first : goal.returns-in-Some-clause-first
returns-in-Some-clause-first c = λ prefix text stands.
    let s = c.in-Some.heard.value.stream in
    ap (λ (heard : MarkedStream). heard.stream.fault) c.deref.ensures
    ∙ sym (shown_fault-hearing s.fault s.prefix s.begun s.frames (state_of s.assembler))
    ∙ ap shown_fault (ap (heard_in c.self.inside.prefix) (sym c.in-Some.is) ∙ c.self.view_is ∙ stands)
    ∙ shown_fault-standing prefix text
