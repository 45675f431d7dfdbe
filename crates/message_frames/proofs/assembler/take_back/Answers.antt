use Rattle.std.proofs.Common.{Some, sym, ◌∙◌, subst, All, vec_len}
use Rattle.std.proofs.lemmas.List.Elements.{All-pop}
use Rattle.message_frames.specs.Tracks.{held_in, LeadsBelow}
use Rattle.message_frames.proofs.Backward.{goes_back}
use Rattle.message_frames.proofs.assembler.take_back.Goals as goal

pub loop-way-preserved : goal.loop-way-preserved
loop-way-preserved c =
    let now = held_in c.loop-way.lists.items c.loop-way.messages.items in
    record {
      back =
          goes_back c.args.track.items (held_in c.args.lists.now.items c.args.messages.now.items) c.loop-way.track.items c.pop.new.self.items c.in-Some.way now
          (held_in c.take_one_back-first.new.lists.items c.take_one_back-first.new.messages.items) c.loop-way.first c.take_one_back-first.result
          c.loop-way.invariant.back c.in-Some.ensures.items c.take_one_back-first.ensures.held c.take_one_back-first.ensures.frame;
      below = subst (λ n. All (LeadsBelow n) c.pop.new.self.items) (sym c.take_one_back-first.ensures.count)
          (All-pop (LeadsBelow (vec_len c.loop-way.lists)) c.loop-way.track.items c.pop.new.self.items (Some c.in-Some.way) c.in-Some.ensures.items c.loop-way.invariant.below).0;
      count = c.take_one_back-first.ensures.count ∙ c.loop-way.invariant.count;
    }
