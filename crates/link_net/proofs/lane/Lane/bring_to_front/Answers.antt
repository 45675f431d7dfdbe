use Rattle.std.proofs.Common.{◌≡◌, length, drop, arith}
use Rattle.std.proofs.lemmas.List.{take_at}
use Rattle.link_net.proofs.lane.Lane.bring_to_front.Goals as goal

pub returns-clause-list : goal.returns-clause-list
returns-clause-list c =
    let now = c.rotate_to_front.new.messages in
    let long : length now ≡ c.self.inside.messages.len = omega (arith, c.rotate_to_front.auto.messages, c.deref_mut.ensures.len) in
    rw (← c.self.view_is, take_at now (drop (length now) c.self.inside.messages.items) c.self.inside.messages.len long) (rw c.deref_mut.ensures.value at c.rotate_to_front.ensures)
