use Rattle.std.proofs.Common.{set, sym, ◌∙◌, ap, subst, arith, vec_len}
use Rattle.message_frames.specs.Tracks.{held_in, without_frame, frame_back, LeadsBelow}
use Rattle.message_frames.specs.declared.assembler.Way.TheVariants.{Listed, Given}
use Rattle.message_frames.proofs.Backward.{IsBack, IsPopped, popped, listed_back, given_back}
use Rattle.message_frames.proofs.assembler.take_one_back.Goals as goal
use Rattle.message_frames.proofs.assembler.take_one_back.Goals.{After-pop, After-drop-index_mut}

listed : (c : After-pop) → IsBack (held_in c.args.lists.now.items c.args.messages.now.items) (Listed c.in-Listed.list) (held_in (set c.args.lists.now.items c.in-Listed.list c.pop.new.self) c.args.messages.now.items) c.pop.result
listed c =
    let old = c.index_mut.result.now in
    let below : LeadsBelow (vec_len c.args.lists.now) (Listed c.in-Listed.list) = subst (LeadsBelow (vec_len c.args.lists.now)) c.in-Listed.is c.requires in
    listed_back c.args.lists.now.items c.args.messages.now.items c.in-Listed.list old c.pop.new.self c.pop.result (omega (arith, below, c.args.lists.now.ok)) c.index_mut.ensures.value
    (popped old.items c.pop.new.self.items c.pop.result _ old.ok.0 c.pop.ensures.items c.pop.ensures.variant)

pub returns-in-Listed-clause-held : goal.returns-in-Listed-clause-held
returns-in-Listed-clause-held c = (listed (goal.at.returns-in-Listed-clause-held c).After-pop).held ∙ sym (ap (λ way. without_frame way (held_in c.args.lists.now.items c.args.messages.now.items)) c.in-Listed.is)

pub returns-in-Listed-clause-frame : goal.returns-in-Listed-clause-frame
returns-in-Listed-clause-frame c = (listed (goal.at.returns-in-Listed-clause-frame c).After-pop).taken ∙ sym (ap (λ way. frame_back way (held_in c.args.lists.now.items c.args.messages.now.items)) c.in-Listed.is)

given_away : (c : After-drop-index_mut) → IsBack (held_in c.args.lists.now.items c.args.messages.now.items) (Given c.in-Given.list) (held_in (set c.args.lists.now.items c.in-Given.list c.pop-last.new.self) c.pop-in-Given.new.self.items) c.pop-last.result
given_away c =
    given_back c.args.lists.now.items c.args.messages.now.items c.pop-in-Given.new.self.items c.in_ok-message-in-Given.message c.in-Given.list c.pop-last.new.self c.pop-last.result
    (subst (IsPopped c.args.messages.now.items c.pop-in-Given.new.self.items) c.in_ok-message-in-Given.was
    (popped c.args.messages.now.items c.pop-in-Given.new.self.items c.pop-in-Given.result _ c.args.messages.now.ok.0 c.pop-in-Given.ensures.items c.pop-in-Given.ensures.variant))
    (subst (λ frames. IsPopped frames c.pop-last.new.self.items c.pop-last.result) c.into_vec-frames.ensures
    (popped c.into_vec-frames.result.items c.pop-last.new.self.items c.pop-last.result _ c.into_vec-frames.result.ok.0 c.pop-last.ensures.items c.pop-last.ensures.variant))

pub returns-in_ok-message-in-Given-clause-held : goal.returns-in_ok-message-in-Given-clause-held
returns-in_ok-message-in-Given-clause-held c = (given_away c).held ∙ sym (ap (λ way. without_frame way (held_in c.args.lists.now.items c.args.messages.now.items)) c.in-Given.is)

pub returns-in_ok-message-in-Given-clause-frame : goal.returns-in_ok-message-in-Given-clause-frame
returns-in_ok-message-in-Given-clause-frame c = (given_away c).taken ∙ sym (ap (λ way. frame_back way (held_in c.args.lists.now.items c.args.messages.now.items)) c.in-Given.is)
