use Rattle.std.proofs.Common.{◌≡◌, ℕ, List, [], ◌++◌, refl, sym, ◌∙◌, ap, subst, None}
use Rattle.frame_codec.specs.FrameReaders.{InProgress, frames_of, fault_of, standing}
use Rattle.message_frames.specs.Assemblers.{state_of}
use Rattle.message_frames.specs.Assembly.{assembled}
use Rattle.message_frames.specs.FedFrames.{Gives}
use Rattle.message_frames.specs.Messages.{or_else}
use Rattle.message_frames.specs.Tracks.{IsPayloadOf}
use Rattle.message_frames.proofs.LeadingBack.{none_there, frames_back, nothing_leads_back, taken_leads_back}
use Rattle.message_frames.proofs.stream.take_frames.Goals as goal

fault_standing : (at : ℕ) (text : List ℕ) → (standing at text).fault ≡ fault_of at text
unfolding standing
fault_standing at text = refl

pub returns-then-is_empty-clause-back : goal.returns-then-is_empty-clause-back
returns-then-is_empty-clause-back c =
    nothing_leads_back c.args.frames.now c.feed.new.self c.args.assembler.now c.nothing.result c.requires.sound c.nothing.ensures.track
    (λ mark at text stands marked.
    frames_back mark c.args.frames.now c.feed.new.self at text c.args.piece.now None c.in_ok-fed.fed.frames.items stands marked (c.in_ok-fed.ensures.stands at text stands) (c.in_ok-fed.ensures.frames at text stands)
    (subst (IsPayloadOf None) (sym (none_there c.in_ok-fed.fed.frames.items _ c.in_ok-fed.fed.frames.ok.0 (sym c.is_empty.ensures ∙ c.if-is_empty.true))) refl))

pub returns-in-Ok-clause-back : goal.returns-in-Ok-clause-back
returns-in-Ok-clause-back c =
    taken_leads_back c.args.frames.now c.feed.new.self c.args.assembler.now c.prepare.new.self c.take-taken.new.self _ c.args.piece.now c.in_ok-fed.fed.frames.items
    c.in-Ok.ensures.control c.in-Ok.ensures.state c.in-Ok.ensures.sound c.take-taken.ensures.back c.take-taken.ensures.first c.take-taken.ensures.below c.take-taken.ensures.count
    c.in_ok-fed.ensures.stands c.in_ok-fed.ensures.frames

pub returns-then-is_empty-clause-given : goal.returns-then-is_empty-clause-given
returns-then-is_empty-clause-given c = λ at text stands.
    let none : c.in_ok-fed.fed.frames.items ≡ [] = none_there c.in_ok-fed.fed.frames.items _ c.in_ok-fed.fed.frames.ok.0 (sym c.is_empty.ensures ∙ c.if-is_empty.true) in
    record {
      fed = [];
      frames = ap (λ frames. frames_of at text ++ frames) (sym none) ∙ c.in_ok-fed.ensures.frames at text stands;
      given = c.nothing.ensures.messages;
      first = c.fault.ensures ∙ ap (λ (reader : InProgress). reader.fault) (c.in_ok-fed.ensures.stands at text stands) ∙ fault_standing at (text ++ c.args.piece.now);
      left = refl;
    }

pub returns-in-Ok-clause-given : goal.returns-in-Ok-clause-given
returns-in-Ok-clause-given c = λ at text stands.
    let prepared = c.prepare.new.self in
    let after = state_of c.take-taken.new.self in
    let messages = c.take-taken.result.0.messages.items in
    let made : Gives at text c.args.piece.now prepared.shortest (state_of prepared) after messages c.earlier_of.result = record {
      fed = c.in_ok-fed.fed.frames.items;
      frames = c.in_ok-fed.ensures.frames at text stands;
      given = c.take-taken.ensures.messages;
      first =
          c.earlier_of.ensures
          ∙ ap (λ first. or_else first c.fault-in-Ok.result) c.take-taken.ensures.fault
          ∙ ap (or_else (assembled prepared.shortest c.in_ok-fed.fed.frames.items (state_of prepared)).fault)
          (c.fault-in-Ok.ensures ∙ ap (λ (reader : InProgress). reader.fault) (c.in_ok-fed.ensures.stands at text stands) ∙ fault_standing at (text ++ c.args.piece.now));
      left = c.take-taken.ensures.state;
    } in
    subst (λ shortest. Gives at text c.args.piece.now shortest (state_of c.args.assembler.now) after messages c.earlier_of.result) c.in-Ok.ensures.shortest
    (subst (λ state. Gives at text c.args.piece.now prepared.shortest state after messages c.earlier_of.result) c.in-Ok.ensures.state made)
