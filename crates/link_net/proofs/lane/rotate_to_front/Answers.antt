use Rattle.link_net.proofs.Lists.{brought}
use Rattle.link_net.proofs.lane.rotate_to_front.Goals as goal

pub returns : goal.returns
returns c = brought c.args.left c.args.place c.args.messages.now c.rotate_right.new.self c.requires c.rotate_right.ensures.after
