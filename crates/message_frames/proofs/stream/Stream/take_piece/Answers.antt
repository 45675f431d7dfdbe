use Rattle.std.proofs.Common.{◌≡◌, ℕ, ◌-◌, Bool, List, ◌++◌, length, take, drop, Some, None, sym, ◌∙◌, ap, subst, arith, length-take, length-drop}
use Rattle.std.proofs.lemmas.List.{take_all}
use Rattle.frame_codec.specs.declared.malformed.Why.TheVariants.{Prefix}
use Rattle.message_frames.specs.Assemblers.{state_of}
use Rattle.message_frames.specs.FedFrames.{Gives}
use Rattle.message_frames.specs.MessageReaders.{Failed, hearing, StandsFor}
use Rattle.message_frames.specs.Streams.{heard_by}
use Rattle.message_frames.proofs.LeadingBack.{unmoved, nothing_leads_back}
use Rattle.message_frames.proofs.Hearings.{IsFed, is_fed, is_other, stays_failed, none_shown, places_small}
use Rattle.message_frames.proofs.stream.Stream.take_piece.Goals as goal

-- after a fault

failed : (c : goal.After-nothing) (prefix : Bool) (text : List ℕ) → StandsFor (heard_by c.args.self.now) prefix text → IsFed prefix text c.args.piece.now (heard_by c.args.self.now) c.nothing.result.messages.items c.args.self.now.fault
failed c prefix text stands =
    let r = c.args.self.now in
    stays_failed prefix text c.args.piece.now r.fault r.prefix r.begun r.frames (state_of r.assembler) c.nothing.result.messages.items
    (sym c.is_some.ensures ∙ c.if-is_some.true) stands c.nothing.ensures.messages

pub returns-then-is_some-clause-stands : goal.returns-then-is_some-clause-stands
returns-then-is_some-clause-stands c = λ prefix text stands. (failed c prefix text stands).stands

pub returns-then-is_some-clause-messages : goal.returns-then-is_some-clause-messages
returns-then-is_some-clause-messages c = λ prefix text stands. (failed c prefix text stands).given

pub returns-then-is_some-clause-back : goal.returns-then-is_some-clause-back
returns-then-is_some-clause-back c =
    nothing_leads_back c.args.self.now.frames c.args.self.now.frames c.args.self.now.assembler c.nothing.result c.requires.hearing.sound c.nothing.ensures.track
    (λ mark at text. unmoved mark c.args.self.now.frames at text)

-- the bytes after the prefix

pub take_frames-requires-clause-places : goal.take_frames-requires-clause-places
take_frames-requires-clause-places c =
    let r = c.args.self.now in
    let none : r.fault ≡ None = none_shown r.fault (sym c.is_some.ensures ∙ c.if-is_some.false) in
    let stands : StandsFor (hearing None r.prefix r.begun r.frames (state_of r.assembler)) r.prefix c.requires.hearing.text =
    ap (λ fault. hearing fault r.prefix r.begun r.frames (state_of r.assembler)) (sym none) ∙ c.requires.hearing.stands in
    let k = c.in-Ok.begun - r.begun in
    places_small r.prefix c.requires.hearing.text r.prefix r.begun r.frames (state_of r.assembler) (length (take (length c.args.piece.now - k) (drop k c.args.piece.now))) stands
    (omega (arith, length-take (length c.args.piece.now - k) (drop k c.args.piece.now), length-drop k c.args.piece.now))

-- the piece without what the prefix took
rest_is : (k : ℕ) (piece : List ℕ) → take (length piece - k) (drop k piece) ≡ drop k piece
rest_is k piece = take_all (length piece - k) (drop k piece) (omega (arith, length-drop k piece))

fed : (c : goal.After-self-1) (prefix : Bool) (text : List ℕ) → StandsFor (hearing c.args.self.now.fault c.args.self.now.prefix c.args.self.now.begun c.args.self.now.frames (state_of c.args.self.now.assembler)) prefix text →
    IsFed prefix text c.args.piece.now (hearing c.take_frames.new.fault c.args.self.now.prefix c.in-Ok.begun c.take_frames.new.frames (state_of c.take_frames.new.assembler))
    c.in_ok-taken-in-Ok.taken.messages.items c.take_frames.new.fault
fed c prefix text stands =
    let r = c.args.self.now in
    let none : r.fault ≡ None = none_shown r.fault (sym c.is_some.ensures ∙ c.if-is_some.false) in
    let k = c.in-Ok.begun - r.begun in
    is_fed prefix text c.args.piece.now r.prefix r.begun c.in-Ok.begun r.frames c.take_frames.new.frames (state_of r.assembler) (state_of c.take_frames.new.assembler)
    c.in_ok-taken-in-Ok.taken.messages.items c.take_frames.new.fault
    (ap (λ fault. hearing fault r.prefix r.begun r.frames (state_of r.assembler)) (sym none) ∙ stands)
    (record { count = c.in-Ok.ensures.count; same = c.in-Ok.ensures.same })
    (record {
      stands = λ at bytes live. rw (sym (rest_is k c.args.piece.now)) (c.in_ok-taken-in-Ok.ensures.stands at bytes live);
      gives = λ at bytes live.
          subst (λ shortest. Gives at bytes (drop k c.args.piece.now) shortest (state_of r.assembler) (state_of c.take_frames.new.assembler) c.in_ok-taken-in-Ok.taken.messages.items c.take_frames.new.fault)
          c.requires.hearing.shortest
          (subst (λ rest. Gives at bytes rest r.assembler.shortest (state_of r.assembler) (state_of c.take_frames.new.assembler) c.in_ok-taken-in-Ok.taken.messages.items c.take_frames.new.fault)
          (rest_is k c.args.piece.now)
          (c.in_ok-taken-in-Ok.ensures.given at bytes live));
    })

pub returns-in_ok-taken-in-Ok-clause-hearing : goal.returns-in_ok-taken-in-Ok-clause-hearing
returns-in_ok-taken-in-Ok-clause-hearing c = record {
  sound = c.in_ok-taken-in-Ok.ensures.sound;
  shortest = c.in_ok-taken-in-Ok.ensures.shortest ∙ c.requires.hearing.shortest;
  within = omega (arith, c.in-Ok.ensures.count);
  text = c.requires.hearing.text ++ c.args.piece.now;
  stands = (fed c c.args.self.now.prefix c.requires.hearing.text c.requires.hearing.stands).stands;
}

pub returns-in_ok-taken-in-Ok-clause-stands : goal.returns-in_ok-taken-in-Ok-clause-stands
returns-in_ok-taken-in-Ok-clause-stands c = λ prefix text stands. (fed c prefix text stands).stands

pub returns-in_ok-taken-in-Ok-clause-messages : goal.returns-in_ok-taken-in-Ok-clause-messages
returns-in_ok-taken-in-Ok-clause-messages c = λ prefix text stands. (fed c prefix text stands).given

-- a byte that differs from the prefix

other : (c : goal.After-nothing-in-Err) (prefix : Bool) (text : List ℕ) → StandsFor (heard_by c.args.self.now) prefix text →
    IsFed prefix text c.args.piece.now (Failed c.args.self.now.prefix (record { at = c.in-Err.at; why = Prefix })) c.nothing-in-Err.result.messages.items (Some (record { at = c.in-Err.at; why = Prefix }))
other c prefix text stands =
    let r = c.args.self.now in
    let none : r.fault ≡ None = none_shown r.fault (sym c.is_some.ensures ∙ c.if-is_some.false) in
    is_other prefix text c.args.piece.now r.prefix r.begun c.in-Err.at r.frames (state_of r.assembler) c.nothing-in-Err.result.messages.items
    (ap (λ fault. hearing fault r.prefix r.begun r.frames (state_of r.assembler)) (sym none) ∙ stands) c.in-Err.ensures.other c.nothing-in-Err.ensures.messages

pub returns-in-Err-clause-hearing : goal.returns-in-Err-clause-hearing
returns-in-Err-clause-hearing c = record {
  sound = c.requires.hearing.sound;
  shortest = c.requires.hearing.shortest;
  within = c.requires.hearing.within;
  text = c.requires.hearing.text ++ c.args.piece.now;
  stands = (other c c.args.self.now.prefix c.requires.hearing.text c.requires.hearing.stands).stands;
}

pub returns-in-Err-clause-stands : goal.returns-in-Err-clause-stands
returns-in-Err-clause-stands c = λ prefix text stands. (other c prefix text stands).stands

pub returns-in-Err-clause-messages : goal.returns-in-Err-clause-messages
returns-in-Err-clause-messages c = λ prefix text stands. (other c prefix text stands).given

pub returns-in-Err-clause-back : goal.returns-in-Err-clause-back
returns-in-Err-clause-back c =
    nothing_leads_back c.args.self.now.frames c.args.self.now.frames c.args.self.now.assembler c.nothing-in-Err.result c.requires.hearing.sound c.nothing-in-Err.ensures.track
    (λ mark at text. unmoved mark c.args.self.now.frames at text)
